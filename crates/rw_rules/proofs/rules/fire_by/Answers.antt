use Rattle.rw_run.specs.Dispatch.{looks_at}
use Rattle.rw_firing.specs.Fire.{Fire}
use Rattle.rw_base.proofs.Common.{Some, ap, false, refl, rules, subst, sym, ◌∙◌, ◌≡◌}
use Rattle.rw_series.specs.Series.{held}
use Rattle.rw_run.specs.Next.{is_changed}
use Rattle.rpl_fires.specs.Fired.{look_cells, fire_seen}
use Rattle.rw_rules.specs.Rules.{rules_kept}
use Rattle.rw_rules.proofs.Kept.{just_seen, shows_more}
use Rattle.rw_rules.proofs.Made.{looked_after}
use Rattle.rw_rules.proofs.rules.fire_by.Goals as goal

pub returns-clause-told : goal.returns-clause-told
returns-clause-told g c = record {
  fire = _;
  event = c.fire.ensures.event;
  end = ap (λ (fire : Fire). fire.end) c.fired-fired.ensures.told;
  count = ap (λ (fire : Fire). fire.count) c.fired-fired.ensures.told;
  looked = looked_after c.args.agenda.now c.fired.new.self c.args.rule.0 c.fired-fired.result.looked.now (search rules) c.fired.ensures.rules
      ∙ ap (λ looks. Some looks) (c.fired-fired.ensures.looks ∙ sym c.fire.ensures.looked
      ∙ ap (λ looks. looks_at (held c.args.series.now) (look_cells looks)) (sym c.fired-fired.ensures.looks)
      ∙ ap (λ (fire : Fire). looks_at (held c.args.series.now) fire.looked) c.fired-fired.ensures.told);
  asked = c.fire.ensures.puts.asked;
  can_ask = c.fire.ensures.puts.can_ask;
  written = c.fire.ensures.puts.written;
}

pub returns-clause-keeps : goal.returns-clause-keeps
returns-clause-keeps g c = record {
  indexed = λ indexed.
      c.index_stays.ensures.fired c.args.agenda.now c.fired.new.self (held c.args.series.now) c.args.rule.0 c.fired-fired.result.looked.now
      (search rules)
      (search rules)
      (subst (λ looks. is_changed (held c.args.series.now) (Some looks) ≡ false)
      (ap (λ looks. looks_at (held c.args.series.now) (look_cells looks)) c.fired-fired.ensures.looks ∙ c.fire.ensures.looked ∙ sym c.fired-fired.ensures.looks)
      (just_seen (held c.args.series.now) (look_cells c.fired-fired.result.looked.now)))
      c.fired.ensures.rules c.fired.ensures.marked;
  shows =
      λ log firing same looked shows. shows_more c.args.setup.now.policy.now (rules_kept c.args.agenda.now c.args.writes.now)
      (rules_kept c.fired.new.self c.fire.new.writes) c.args.rule.0
      c.fired-fired.result.looked.now log firing c.requires.turn.first (search rules) same looked shows;
}
