use Rattle.rw_engine.proofs.Common.{Some, rules, ◌∙◌}
use Rattle.rw_rules.specs.Rules.{policy_in}
use Rattle.rw_engine.proofs.Firings.{object_stops}
use Rattle.rw_engine.proofs.state.State.ask.Goals as goal

pub returns-then-control-count : goal.returns-then-control-count
returns-then-control-count g c = λ place waits taken.
    let basin = c.args.setup.now.basin.now in
    let does = c.exceed.ensures (Some c.args.object.0) waits in record {
      keeps = does.keeps;
      on_the_way = does.on_the_way;
      goes = λ log holds. does.goes log (
        holds,
        object_stops basin (policy_in basin c.args.setup.now.policy.now) c.args.step.0 log c.args.object.0 _
            (c.get-count.ensures ∙ holds.counts c.args.object.0 c.requires.turn.known) (search rules),
      );
      few = does.few;
      wants = does.wants;
    }
