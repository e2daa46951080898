use Rattle.std.proofs.Common.{pos, ap, sym, ◌∙◌}
use Rattle.toml.specs.View.{members_view, table_view}
use Rattle.toml.specs.declared.value.Value.{Integer}
use Rattle.toml.proofs.Views.{view-Integer}
use Rattle.rw_model_toml.proofs.Migrating.{format_missing, format_set}
use Rattle.rw_model_toml.proofs.migration.set_format.Goals as goal

pub returns-in-Some : goal.returns-in-Some
returns-in-Some c =
    ap members_view (c.get_mut.follows.holds (Integer (pos 2))).0 ∙ format_set c.args.table.now.entries (Integer (pos 2)) (view-Integer (pos 2))

pub returns-in-None : goal.returns-in-None
returns-in-None c =
    ap table_view c.get_mut.follows.holds-at-none
    ∙ format_missing c.args.table.now.entries (rw c.in-None.is at (sym c.get_mut.ensures.value))
