use Rattle.rw_engine.proofs.Oldest.{runs_oldest}
use Rattle.rw_engine.proofs.engine.Engine.run_step_of.Goals as goal

pub returns-clause-runs : goal.returns-clause-runs
returns-clause-runs g c =
    runs_oldest c.args.setup.now.basin.now c.args.setup.now.policy.now c.args.step.0 _ _ c.run_step_by.result c.run_step_by.ensures.runs
