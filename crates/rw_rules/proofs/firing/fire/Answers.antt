use Rattle.rw_base.proofs.Common.{ap, length, length-map, option_map, refl, subst, sym, ◌∙◌, ◌≤◌}
use Rattle.rw_firing.specs.Fire.{Fire}
use Rattle.rw_series.specs.Series.{held}
use Rattle.rw_firing.specs.declared.look.Look.{Look}
use Rattle.rw_run.specs.Next.{ended}
use Rattle.rpl_fires.specs.Fired.{fire_seen, value_in_series}
use Rattle.rpl_fires.proofs.Told.{fires_told}
use Rattle.rpl_policy.proofs.Asking.{code_asks}
use Rattle.rpl_policy.proofs.FramedCode.{code_silent}
use Rattle.rw_rules.specs.Firing.{HasPuts, event_of_fired, most_looks}
use Rattle.rw_rules.proofs.Fires.{asked_told, few_looks, few_puts, written_told}
use Rattle.rw_rules.proofs.firing.fire.Goals as goal

pub judge-requires-clause-can : goal.judge-requires-clause-can
judge-requires-clause-can g c =
    code_asks c.args.setup.now.policy.now.blocks c.args.setup.now.basin.now c.args.rule.0 c.args.step.0 (value_in_series c.args.series.now)
    (fire_seen c.fired-fired.result)
    (fires_told c.fire.ensures.fires c.fired-fired.result c.fired-fired.ensures.told)

pub judge-requires-clause-few : goal.judge-requires-clause-few
judge-requires-clause-few g c =
    few_puts c.args.setup.now.basin.now c.args.setup.now.policy.now
    (c.answered_code_is_safe.ensures.safe c.args.setup.now.basin.now c.args.setup.now.policy.now.blocks c.args.setup.now.policy.now c.requires.turn.accepted)
    (c.accepted_code.ensures.within c.args.setup.now.basin.now c.args.setup.now.policy.now.blocks c.args.setup.now.policy.now.budgets
    (c.answered_code_is_safe.ensures.accepted c.args.setup.now.basin.now c.args.setup.now.policy.now.blocks c.args.setup.now.policy.now c.requires.turn.accepted))
    c.args.rule.0 c.args.step.0 (value_in_series c.args.series.now) (fire_seen c.fired-fired.result)
    (fires_told c.fire.ensures.fires c.fired-fired.result c.fired-fired.ensures.told)

pub returns : goal.returns
returns g c =
    let fires = fires_told c.fire.ensures.fires c.fired-fired.result c.fired-fired.ensures.told in
    let basin = c.args.setup.now.basin.now in
    let cells = held c.args.series.now in record {
      event = ap (option_map (λ (fire : Fire). ended basin cells c.args.rule.0 c.args.step.0 fire fire.end)) c.fire.ensures.fires;
      looked = sym c.fire.ensures.seen;
      few = subst (λ these. length these ≤ most_looks c.args.setup.now.policy.now c.args.rule.0) c.fired-fired.ensures.looks
          (subst (λ n. n ≤ most_looks c.args.setup.now.policy.now c.args.rule.0) (length-map c.fired-fired.result.looked.now (λ (look : Look). look.cell))
          (few_looks basin c.args.setup.now.policy.now
          (c.answered_code_is_safe.ensures.safe basin c.args.setup.now.policy.now.blocks c.args.setup.now.policy.now c.requires.turn.accepted)
          (c.accepted_code.ensures.within basin c.args.setup.now.policy.now.blocks c.args.setup.now.policy.now.budgets
          (c.answered_code_is_safe.ensures.accepted basin c.args.setup.now.policy.now.blocks c.args.setup.now.policy.now c.requires.turn.accepted))
          c.args.rule.0 c.args.step.0 (value_in_series c.args.series.now) (fire_seen c.fired-fired.result) fires));
      puts =
          let silent =
          code_silent c.args.setup.now.policy.now.blocks basin c.args.rule.0 c.args.step.0 (value_in_series c.args.series.now)
          (fire_seen c.fired-fired.result) fires in
          subst (λ (fire : Fire). HasPuts basin (event_of_fired basin cells c.args.rule.0 c.args.step.0 fire) c.judge.new.self) c.fired-fired.ensures.told (record {
            asked = c.judge.ensures.asked
                ∙ asked_told basin cells c.args.rule.0 c.args.step.0 (fire_seen c.fired-fired.result)
                (fire_seen c.fired-fired.result).end refl silent;
            written = c.judge.ensures.written
                ∙ written_told basin cells c.args.rule.0 c.args.step.0 (fire_seen c.fired-fired.result)
                (fire_seen c.fired-fired.result).end refl silent;
            can_ask = c.judge.ensures.can.0;
            can = c.judge.ensures.can.1;
          });
      ready = c.fire.ensures.ready;
    }
