use Rattle.rw_base.proofs.Common.{length, ◌+◌, ◌≡◌, ◌≤◌}
use Rattle.rw_inputs.specs.Inputs.{Inputs}
use Rattle.rw_run.specs.Log.{Log}
use Rattle.rw_engine.specs.Shows.{KeepsOn}
use Rattle.rw_rules.specs.Rules.{policy_in}
use Rattle.rw_rerun.specs.Kept.{AreKept}
use Rattle.rw_rerun.specs.UnderWay.{GrowsChanges, IsPassOf, IsUnderWay}
use Rattle.rw_rerun.proofs.passing.pass_rest.Given as goal

abbrev pub invariant-loop-before : goal.invariant-loop-before
invariant-loop-before g l = record {
  made : IsPassOf l.setup.basin.now l.setup.policy.now l.pass;
  way : (inputs : Inputs) (earlier : Log) → AreKept l.setup.basin.now (policy_in l.setup.basin.now l.setup.policy.now) earlier 1 l.kept
      → IsUnderWay l.setup.basin.now (policy_in l.setup.basin.now l.setup.policy.now) inputs earlier l.kept l.fn.pass l.behind
      → IsUnderWay l.setup.basin.now (policy_in l.setup.basin.now l.setup.policy.now) inputs earlier l.kept l.pass l.before;
  grows : GrowsChanges l.fn.pass l.pass;
  kept : KeepsOn l.fn.pass.engine l.pass.engine;
  each : l.steps + length l.fn.pass.reran.items ≡ l.fn.steps + length l.pass.reran.items;
  rises : l.fn.steps ≤ l.steps;
  few : l.steps ≤ l.fn.steps + l.before;
}
