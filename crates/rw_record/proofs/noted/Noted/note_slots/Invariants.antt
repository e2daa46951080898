use Rattle.rw_record.proofs.Common.{cell_at, held, map, numbers_of, take, with_noted, ◌≡◌}
use Rattle.rw_record.proofs.noted.Noted.note_slots.Given as goal

abbrev pub invariant-loop-slot : goal.invariant-loop-slot
invariant-loop-slot l =
    l.self ≡ with_noted (held l.series) (map (λ slot. cell_at slot l.step.0) (numbers_of (take l.slot-index l.slots))) l.fn.self
