use Rattle.rw_engine.proofs.Common.{[], placings, ◌∙◌}
use Rattle.rw_run.proofs.Placed.{closed-placed}
use Rattle.rw_rules.specs.Rules.{policy_in}
use Rattle.rw_engine.proofs.Oldest.{comes_run}
use Rattle.rw_engine.proofs.running.run_all_of.Goals as goal

pub pass_all-requires-clause-made : goal.pass_all-requires-clause-made
pass_all-requires-clause-made g c = c.in_ok-engine.ensures.begun.made

pub pass_all-requires-clause-turns : goal.pass_all-requires-clause-turns
pass_all-requires-clause-turns g c = c.in_ok-engine.ensures.begun.turns

pub pass_all-requires-clause-begun : goal.pass_all-requires-clause-begun
pass_all-requires-clause-begun g c =
    c.in_ok-engine.ensures.begun.shows.closed_steps ∙ closed-placed [] (placings c.args.setup.now.basin.now c.args.inputs.now)

pub returns-clause-run : goal.returns-clause-run
returns-clause-run g c =
    comes_run c.args.setup.now.basin.now (policy_in c.args.setup.now.basin.now c.args.setup.now.policy.now) c.args.inputs.now c.pass_all.result
    (c.pass_all.ensures.comes c.args.inputs.now c.in_ok-engine.ensures.begun.shows)

pub returns-clause-counted : goal.returns-clause-counted
returns-clause-counted g c = record {
  opened_steps = c.pass_all.ensures.opened_steps c.args.inputs.now c.in_ok-engine.ensures.begun.shows;
  rises = c.pass_all.ensures.rises;
  few = c.pass_all.ensures.few;
}
