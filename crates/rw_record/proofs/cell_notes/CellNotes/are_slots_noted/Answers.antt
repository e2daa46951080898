use Rattle.rw_record.proofs.Common.{cell_at, false, is_noted, map, numbers_of, refl, rules, sym, true, ◌∙◌, ◌≡◌}
use Rattle.rw_base.specs.declared.number.SlotNo.{SlotNo}
use Rattle.rw_record.proofs.Adding.{slots_sum}
use Rattle.rw_record.proofs.Rows.{row_ends, row_more}
use Rattle.rw_record.proofs.cell_notes.CellNotes.are_slots_noted.Goals as goal

pub returns-then-not-is_noted : goal.returns-then-not-is_noted
returns-then-not-is_noted c =
    let none : SlotNo = record { 0 = 0 } in
    let not_it : c.is_noted.result ≡ false = search rules in
    let now = sym c.is_noted.ensures ∙ not_it in
    sym (row_ends (λ slots. map (λ slot. cell_at slot c.args.step.0) (numbers_of slots)) (slots_sum c.args.step.0)
    (is_noted c.args.self.now) c.args.slots.now c.loop-slot.slot-index none c.loop-slot-test.true (rw now refl))

pub loop-slot-preserved : goal.loop-slot-preserved
loop-slot-preserved c =
    let none : SlotNo = record { 0 = 0 } in
    let it : c.is_noted.result ≡ true = search rules in
    let now = sym c.is_noted.ensures ∙ it in
    row_more (λ slots. map (λ slot. cell_at slot c.args.step.0) (numbers_of slots)) (slots_sum c.args.step.0)
    (is_noted c.args.self.now) c.args.slots.now c.loop-slot.slot-index none c.loop-slot-test.true c.loop-slot.invariant (rw now refl)
