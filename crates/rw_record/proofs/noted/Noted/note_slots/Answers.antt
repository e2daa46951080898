use Rattle.rw_record.proofs.Common.{[], cell_at, get_or_default, held, map, numbers_of, refl, rules, slice_index_or, ◌∷◌, ◌≡◌}
use Rattle.std.specs.Prelude.{Err}
use Rattle.rw_base.specs.declared.number.SlotNo.{SlotNo}
use Rattle.rw_record.proofs.Adding.{slots_sum, stopped, turned}
use Rattle.rw_record.proofs.noted.Noted.note_slots.Goals as goal

pub returns-in_err-note : goal.returns-in_err-note
returns-in_err-note c =
    let step = c.args.step.0 in
    let none : SlotNo = record { 0 = 0 } in
    let at = c.loop-slot.slot-index in
    let slot : SlotNo = slice_index_or c.args.slots.now at none in
    let err : c.from_residual.result ≡ Err c.in_err-note.field-0.0 = search rules in
    stopped (λ slots. map (λ slot. cell_at slot step) (numbers_of slots)) (slots_sum step) (held c.args.series.now) c.args.slots.now at
    slot c.loop-slot-test.true (get_or_default c.args.slots.now at none slot c.loop-slot-test.true) (cell_at slot.0 step ∷ []) refl c.args.self.now
    c.loop-slot.self
    c.note.new.self c.loop-slot.invariant c.from_residual.result c.in_err-note.field-0.0 err c.in_err-note.ensures.noted

pub loop-slot-preserved : goal.loop-slot-preserved
loop-slot-preserved c =
    let step = c.args.step.0 in
    let none : SlotNo = record { 0 = 0 } in
    let at = c.loop-slot.slot-index in
    let slot : SlotNo = slice_index_or c.args.slots.now at none in
    turned (λ slots. map (λ slot. cell_at slot step) (numbers_of slots)) (slots_sum step) (held c.args.series.now) c.args.slots.now at
    slot c.loop-slot-test.true (get_or_default c.args.slots.now at none slot c.loop-slot-test.true) (cell_at slot.0 step ∷ []) refl c.args.self.now
    c.loop-slot.self
    c.note.new.self c.loop-slot.invariant c.in_ok-note.ensures.noted
