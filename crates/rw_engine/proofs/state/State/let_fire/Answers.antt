use Rattle.rw_engine.proofs.Common.{None, held, rules, subst, sym, ◌∙◌, ◌≤◌}
use Rattle.rw_rules.specs.Rules.{policy_in}
use Rattle.rw_engine.proofs.Firings.{after_all, rule_stops}
use Rattle.rw_engine.proofs.state.State.let_fire.Goals as goal

pub get-count-requires : goal.get-count-requires
get-count-requires g c =
    let made = c.requires.within.made in
    let turn = c.requires.turn in
    record { first = turn.first; last = subst (λ n. c.args.rule.0 ≤ n) (sym (made.firings ∙ made.engine.rules.many)) turn.last }

pub returns-then-control-count-clause-does : goal.returns-then-control-count-clause-does
returns-then-control-count-clause-does g c =
    let basin = c.args.setup.now.basin.now in
    let old = c.args.self.now in
    let does = c.exceed.ensures None old.queue.waiting in record {
      keeps = does.keeps;
      on_the_way = does.on_the_way;
      goes = λ log given. does.goes log (
        given.0,
        after_all basin (policy_in basin c.args.setup.now.policy.now) (held old.run.series) c.args.step.0 log _
            (λ i cell. given.0.shows.cells cell i) given.1
            ∙ rule_stops basin (policy_in basin c.args.setup.now.policy.now) (held old.run.series) c.args.step.0 log c.args.rule.0 _
            (c.get-count.ensures ∙ given.0.firings c.args.rule.0 c.requires.turn.first) (search rules),
      );
      few = does.few;
      wants = does.wants;
    }
