use Rattle.std.proofs.Common.{drop}
use Rattle.rpl_verify.specs.Walks.{openers_of}
use Rattle.rpl_verify.proofs.WalkFacts.{IsBegun}
use Rattle.rpl_verify.proofs.walk.Walk.of.Given as goal

abbrev pub invariant-loop-place : goal.invariant-loop-place
invariant-loop-place l = IsBegun l.stacks l.landings.items (openers_of l.openers.items) l.place (drop l.place l.lines) l.lines
