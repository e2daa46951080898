use Rattle.rw_record.proofs.Common.{cell_at, is_noted, map, numbers_of, take, true, ◌≡◌}
use Rattle.std.specs.List.{list_all}
use Rattle.rw_record.proofs.cell_notes.CellNotes.are_slots_noted.Given as goal

abbrev pub invariant-loop-slot : goal.invariant-loop-slot
invariant-loop-slot l = list_all (is_noted l.self) (map (λ slot. cell_at slot l.step.0) (numbers_of (take l.slot-index l.slots))) ≡ true
