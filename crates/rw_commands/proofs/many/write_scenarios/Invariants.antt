use Rattle.rw_commands.proofs.Common.{change, length, ◌≡◌}
use Rattle.rw_mrm.specs.Tally.{IsTallyFor}
use Rattle.rw_commands.specs.Policy.{PolicyFile as Rules}
use Rattle.rw_commands.specs.RunText.{IsCodeOf}
use Rattle.rw_commands.specs.Scenarios.{WritesScenarios}
use Rattle.rw_commands.proofs.many.write_scenarios.Given as goal

-- the scenarios so far
abbrev pub invariant-loop-place : goal.invariant-loop-place
invariant-loop-place g l =
    ((policy : Rules) → IsCodeOf l.setup.basin.now policy l.setup.policy.now
    → WritesScenarios l.setup.basin.now policy l.inputs l.batches l.place (change (g.K.Sink.seen l.fn.out) (g.K.Sink.seen l.out)) l.tally l.status)
    × IsTallyFor l.setup.basin.now l.tally × (l.tally.runs ≡ l.place) × (l.tally.room ≡ length l.batches)
