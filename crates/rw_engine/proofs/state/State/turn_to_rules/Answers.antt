use Rattle.rw_engine.proofs.Common.{ap, option_map, subst, sym, ◌∙◌, ◌≤◌}
use Rattle.rw_base.specs.declared.number.RuleNo.{RuleNo}
use Rattle.rw_engine.proofs.state.State.turn_to_rules.Goals as goal

pub let_fire-requires-clause-turn : goal.let_fire-requires-clause-turn
let_fire-requires-clause-turn g c =
    let made = c.requires.within.made in
    let known = c.in-Some.ensures.known in
    record {
      accepted = made.engine.fits;
      first = known.first;
      last = subst (λ n. c.in-Some.rule.0 ≤ n) made.engine.rules.many known.last;
      at = c.requires.step;
    }

pub returns-in-Some-clause-does : goal.returns-in-Some-clause-does
returns-in-Some-clause-does g c =
    let basin = c.args.setup.now.basin.now in
    let policy = c.args.setup.now.policy.now in
    let does = c.let_fire.ensures.does in record {
      keeps = does.keeps;
      on_the_way = does.on_the_way;
      goes = λ log holds. does.goes log (
        holds,
        sym (c.due.ensures.due basin policy log c.requires.within.made.engine.rules holds.looks)
            ∙ ap (option_map (λ (rule : RuleNo). rule.0)) c.in-Some.is,
      );
      few = does.few;
      wants = does.wants;
    }

pub returns-in-None-clause-does : goal.returns-in-None-clause-does
returns-in-None-clause-does g c =
    let basin = c.args.setup.now.basin.now in
    let policy = c.args.setup.now.policy.now in
    let does = c.close.ensures in record {
      keeps = does.keeps;
      on_the_way = does.on_the_way;
      goes = λ log holds. does.goes log (
        holds,
        sym (c.due.ensures.due basin policy log c.requires.within.made.engine.rules holds.looks)
            ∙ ap (option_map (λ (rule : RuleNo). rule.0)) c.in-None.is,
      );
      few = does.few;
      wants = does.wants;
    }
