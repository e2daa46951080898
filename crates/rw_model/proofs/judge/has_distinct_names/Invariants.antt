use Rattle.rw_base.proofs.Common.{◌≡◌, drop}
use Rattle.rw_model.specs.Draft.{has_distinct_names}
use Rattle.rw_model.proofs.judge.has_distinct_names.Given as goal

abbrev pub invariant-loop-place : goal.invariant-loop-place
invariant-loop-place l = has_distinct_names (drop l.place l.slots) ≡ has_distinct_names l.slots
