use Rattle.std.proofs.Common.{◌≡◌}
use Rattle.rpl_verify.specs.Walked.{with_kinds}
use Rattle.rpl_verify.proofs.TakeFacts.{IsTaking}
use Rattle.rpl_verify.proofs.takes.take.Given as goal

-- what is left to take is what was to be taken, and the rest of the walk is as it was
abbrev pub invariant-loop-left : goal.invariant-loop-left
invariant-loop-left l =
    IsTaking l.needs l.initial.walk.before.kinds l.walk.before.kinds l.left × (l.walk ≡ with_kinds l.initial.walk l.walk.before.kinds)

abbrev pub decreases-loop-left : goal.decreases-loop-left
decreases-loop-left l = l.left
