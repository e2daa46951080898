use Rattle.std.proofs.Common.{◌≡◌, drop}
use Rattle.rpl_tree.specs.Seen.{acts_in}
use Rattle.rpl_types.specs.Gives.{callable_in}
use Rattle.rpl_types.specs.Stopped.{progress_of}
use Rattle.rpl_types.specs.Visited.{visited_acts}
use Rattle.rpl_types.proofs.statements.+statements.Given as goal

abbrev pub invariant-statements-loop-statement : goal.invariant-statements-loop-statement
invariant-statements-loop-statement l =
    visited_acts l.known.basin.now (callable_in l.known) (progress_of l.progress) (acts_in (drop l.statement-index l.body))
    ≡ visited_acts l.known.basin.now (callable_in l.known) (progress_of l.initial.progress) (acts_in l.body)
