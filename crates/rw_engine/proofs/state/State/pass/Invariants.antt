use Rattle.rw_engine.proofs.Common.{IsBefore, IsStill, IsWithinStep, Reached, Shows, left, seen, ◌+◌, ◌≤◌}
use Rattle.std.specs.Prelude.{true, ◌≡◌}
use Rattle.rw_run.specs.Log.{Log}
use Rattle.rw_engine.specs.Picked.{most_turns}
use Rattle.rw_engine.specs.State.{CanGoBack, turns_at_most}
use Rattle.rw_engine.proofs.state.State.pass.Given as goal

abbrev pub invariant-loop-ended : goal.invariant-loop-ended
invariant-loop-ended g l = record {
  within : IsWithinStep l.setup.basin.now l.setup.policy.now l.self;
  reached : (log : Log) → Shows l.setup.basin.now (seen l.fn.self) log → IsBefore l.setup.basin.now l.step.0 log
      → Reached l.setup.basin.now l.setup.policy.now (g.P.Pick.rule l.pick) l.fn.self.turns log l.self l.step.0;
  few : turns_at_most l.setup.basin.now l.self ≤ l.fn.self.turns + most_turns l.setup.basin.now;
  back : CanGoBack l.fn.self l.self;
  still : IsStill l.fn.self l.self;
  ready : g.M.Fires.serves l.machine l.setup.policy.now ≡ true;
}

abbrev pub decreases-loop-ended : goal.decreases-loop-ended
decreases-loop-ended g l = left l.setup.basin.now l.self
