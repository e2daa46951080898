use Rattle.std.proofs.Common.{string_bytes}
use Rattle.std.proofs.lemmas.Str.{IsUtf8-string_bytes}
use Rattle.toml.specs.Data.{members_depth}
use Rattle.toml.specs.View.{table_view}
use Rattle.rw_model_toml.proofs.Depths.{is_within}
use Rattle.rw_model_toml.proofs.Utf8.{toml-read}
use Rattle.rw_model_toml.proofs.migration.print.Goals as goal

pub returns-in-Ok-clause-read : goal.returns-in-Ok-clause-read
returns-in-Ok-clause-read c =
    let within = is_within (members_depth (table_view c.args.table.now)) 80 c.table_nests_within.result c.table_nests_within.ensures
    c.if-not-table_nests_within.false in
    rw c.into_bytes.ensures.value
    (toml-read (string_bytes c.in-Ok.text) (table_view c.args.table.now) (IsUtf8-string_bytes c.in-Ok.text) (c.in-Ok.ensures.reads_back within))
