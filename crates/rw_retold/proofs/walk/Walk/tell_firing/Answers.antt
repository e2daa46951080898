use Rattle.rw_base.proofs.Common.{false≢true, subst, sym, ◌∙◌}
use Rattle.rw_series.specs.Series.{held}
use Rattle.rw_run.specs.Log.{value_in}
use Rattle.rpl_fires.specs.Fired.{fire_seen, value_in_series}
use Rattle.rpl_fires.proofs.Told.{fires_told}
use Rattle.rpl_policy.proofs.Asking.{code_asks}
use Rattle.rw_asked.specs.Asked.{AreToSlots}
use Rattle.rw_retold.proofs.Asks.{to_slots}
use Rattle.rw_retold.proofs.There.{fires_there}
use Rattle.rw_retold.proofs.walk.Walk.tell_firing.Goals as goal

pub returns-then-not-is_rule-clause-told : goal.returns-then-not-is_rule-clause-told
returns-then-not-is_rule-clause-told g c = λ fire at fires.
    let there = fires_there c.args.setup.now.policy.now.blocks c.args.setup.now.basin.now c.args.rule.0 c.args.self.now.step.0
    (value_in (held c.args.self.now.series)) fire fires in
    absurd (false≢true (sym c.if-not-is_rule.true ∙ c.is_rule.ensures.there there.0 there.1))

pub want_all-requires : goal.want_all-requires
want_all-requires g c = c.is_step.ensures.few c.if-not-is_step.false

pub push_wanted-requires-clause-slots : goal.push_wanted-requires-clause-slots
push_wanted-requires-clause-slots g c =
    let basin = c.args.setup.now.basin.now in
    subst (AreToSlots basin) (sym (c.as_slice.ensures.value ∙ c.in_ok-want_all.ensures))
    (to_slots basin c.args.rule.0 c.args.self.now.step.0 c.fired-fired.result.puts.now
    (code_asks c.args.setup.now.policy.now.blocks basin c.args.rule.0 c.args.self.now.step.0 (value_in_series c.args.self.now.series)
    (fire_seen c.fired-fired.result) (fires_told c.fire.ensures.fires c.fired-fired.result c.fired-fired.ensures.told)))
