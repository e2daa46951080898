use Rattle.rw_engine.proofs.Common.{Inputs, IsEngineOf, IsSome, Shows, [], placings, with_inputs, ◌+◌, ◌≡◌, ◌≤◌}
use Rattle.std.specs.Prelude.{◌*◌}
use Rattle.rw_engine.specs.Picked.{StandsPicked, most_turns}
use Rattle.rw_rules.specs.Rules.{policy_in}
use Rattle.rw_engine.proofs.running.pass_steps.Given as goal

abbrev pub invariant-loop-before : goal.invariant-loop-before
invariant-loop-before g l = record {
  made : IsEngineOf l.setup.basin.now l.setup.policy.now l.engine;
  kept : IsSome l.fn.engine.trace → IsSome l.engine.trace;
  last : l.engine.closed ≡ l.before;
  steps : l.steps ≡ l.fn.steps + l.before;
  few : l.engine.turns ≤ l.before * most_turns l.setup.basin.now;
  stands : (inputs : Inputs) → Shows l.setup.basin.now l.fn.engine (with_inputs [] (placings l.setup.basin.now inputs))
      → StandsPicked l.setup.basin.now (policy_in l.setup.basin.now l.setup.policy.now) (g.P.Pick.rule l.pick) inputs l.engine l.before;
}
