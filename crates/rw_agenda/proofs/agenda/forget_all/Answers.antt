use Rattle.rw_base.proofs.Common.{ap, arith, set, sym, ◌∙◌}
use Rattle.std.proofs.lemmas.List.Edits.{map_over_more}
use Rattle.rw_agenda.specs.Agenda.{forgotten}
use Rattle.rw_agenda.proofs.agenda.forget_all.Goals as goal

pub loop-rule-preserved : goal.loop-rule-preserved
loop-rule-preserved c =
    ap (set c.loop-rule.rule-items c.loop-rule.rule-index) (c.forget.ensures ∙ ap forgotten (sym c.rule-item.is))
    ∙ map_over_more forgotten c.args.rules.now.items c.loop-rule.rule-items c.loop-rule.rule-index c.rule-item.result
    (omega (arith, c.loop-rule-test.true, c.deref_mut-rule-items.ensures.len)) c.loop-rule.invariant c.rule-item.is
