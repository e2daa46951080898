use Rattle.std.proofs.Common.{take, reverse}
use Rattle.rpl_verify.specs.Stacks.{Grows}
use Rattle.rpl_verify.specs.Walks.{IsNumberOf}
use Rattle.rpl_verify.proofs.walk.number_of.Given as goal

abbrev pub invariant-loop-kind : goal.invariant-loop-kind
invariant-loop-kind l = Grows l.initial.stacks l.stacks × IsNumberOf l.stacks l.number (reverse (take l.kind-index l.kinds))
