use Rattle.std.proofs.Common.{◌≡◌, map}
use Rattle.toml.specs.View.{table_view, members_view}
use Rattle.rw_model_toml.specs.Key.{only_listed}
use Rattle.rw_model_toml.proofs.listed.only_listed.Given as goal

abbrev pub invariant-loop-key : goal.invariant-loop-key
invariant-loop-key l =
    (goal.iterator-loop-key).can_next l.key-iterator ×
    (goal.iterator-loop-key).is_finite l.key-iterator ×
    (only_listed (map (λ listed. listed.now) l.keys) l.at (table_view l.table)
    ≡ only_listed (map (λ listed. listed.now) l.keys) l.at (members_view l.key-iterator))
