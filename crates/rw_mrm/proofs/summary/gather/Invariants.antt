use Rattle.rw_base.proofs.Common.{◌≡◌, ◌*◌}
use Rattle.rw_mrm.specs.Summary.{known_in}
use Rattle.rw_mrm.proofs.summary.gather.Given as goal

-- those of the tables so far
abbrev pub invariant-loop-before : goal.invariant-loop-before
invariant-loop-before l = l.found.items ≡ known_in l.tally.values (l.tally.slots * l.tally.steps) l.place l.before
