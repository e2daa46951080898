use Rattle.rw_base.proofs.Common.{Some, arith, length, subst, sym, ◌<◌, ◌∙◌, ◌≡◌}
use Rattle.std.specs.List.{slice_get}
use Rattle.rw_series.specs.Series.{held}
use Rattle.rw_run.specs.Next.{agenda_of}
use Rattle.rw_agenda.specs.Agenda.{agenda_of_marks, is_due_in}
use Rattle.rw_agenda.proofs.Marking.{none_passes, passes_to}
use Rattle.rw_agenda.proofs.Order.{found_in_turn, not_in_turn, reads_entry}
use Rattle.rw_agenda.proofs.agenda.first_changed.Goals as goal

pub returns-then-is_changed : goal.returns-then-is_changed
returns-then-is_changed c =
    let agenda = agenda_of_marks c.args.marks.now c.args.rules.now in
    let turn : slice_get (agenda_of c.args.marks.now.order (length c.args.rules.now)) c.in-Some.first ≡ Some c.rule_in_turn-rule.result =
    subst (λ order. slice_get (agenda_of order (length c.args.rules.now)) c.in-Some.first ≡ Some c.rule_in_turn-rule.result) c.order.ensures
    c.rule_in_turn-rule.ensures.turn in
    let first : c.in-Some.first < length c.args.rules.now = omega (arith, c.in-Some.ensures.last, c.requires.many) in
    found_in_turn (is_due_in agenda (held c.args.series.now)) c.args.marks.now.order (length c.args.rules.now) c.in-Some.first
    c.rule_in_turn-rule.result first turn
    (reads_entry agenda (held c.args.series.now) c.from.result c.rule_in_turn-rule.result c.index-rules-from.result c.from.ensures
    c.rule_in_turn-rule.ensures.first c.rule_in_turn-rule.ensures.last c.index-rules-from.is
    ∙ sym c.is_changed.ensures ∙ c.if-is_changed.true)
    (passes_to c.args.marks.now c.args.rules.now (held c.args.series.now) c.loop-first.turn c.in-Some.first c.requires.fresh
    c.requires.index c.requires.many c.in-Some.ensures c.loop-first.invariant.1)

pub loop-first-preserved : goal.loop-first-preserved
loop-first-preserved c =
    let agenda = agenda_of_marks c.args.marks.now c.args.rules.now in
    let turn : slice_get (agenda_of c.args.marks.now.order (length c.args.rules.now)) c.in-Some.first ≡ Some c.rule_in_turn-rule.result =
    subst (λ order. slice_get (agenda_of order (length c.args.rules.now)) c.in-Some.first ≡ Some c.rule_in_turn-rule.result) c.order.ensures
    c.rule_in_turn-rule.ensures.turn in
    let first : c.in-Some.first < length c.args.rules.now = omega (arith, c.in-Some.ensures.last, c.requires.many) in (
      omega (arith, first),
      not_in_turn (is_due_in agenda (held c.args.series.now)) c.args.marks.now.order (length c.args.rules.now) c.in-Some.first
          c.rule_in_turn-rule.result first turn
          (reads_entry agenda (held c.args.series.now) c.from.result c.rule_in_turn-rule.result c.index-rules-from.result c.from.ensures
          c.rule_in_turn-rule.ensures.first c.rule_in_turn-rule.ensures.last c.index-rules-from.is
          ∙ sym c.is_changed.ensures ∙ c.if-is_changed.false)
          (passes_to c.args.marks.now c.args.rules.now (held c.args.series.now) c.loop-first.turn c.in-Some.first c.requires.fresh
          c.requires.index c.requires.many c.in-Some.ensures c.loop-first.invariant.1),
    )

pub returns : goal.returns
returns c =
    none_passes c.args.marks.now c.args.rules.now (held c.args.series.now) c.loop-first.turn c.requires.fresh c.requires.index c.requires.many
    c.in_default.ensures c.loop-first.invariant.0 c.loop-first.invariant.1
