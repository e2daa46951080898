use Rattle.std.proofs.Common.{◌∙◌, ap, rules}
use Rattle.toml.specs.View.{table_view}
use Rattle.rw_model_toml.specs.Model.{table_or}
use Rattle.rw_model_toml.proofs.Utf8.{toml-read, toml-refused}
use Rattle.rw_model_toml.proofs.model.read_table.Goals as goal

pub returns-in-Ok : goal.returns-in-Ok
returns-in-Ok c = ap table_or (toml-read c.args.text.now (table_view c.in-Ok.table) c.in-Ok.ensures.ok.0 c.in-Ok.ensures.ok.1)

pub returns-else-is_memory : goal.returns-else-is_memory
returns-else-is_memory c =
    (λ refusal is. ap table_or (toml-refused c.args.text.now (c.in-Err.ensures.refused (search rules))) ∙ cc, λ none. absurd cc)
