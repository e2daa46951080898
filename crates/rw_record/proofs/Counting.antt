-- How many cells are noted.
use Rattle.rw_record.proofs.Common.{AreLooked, AreOnce, Cell, Cells, Contains, Contains-from_any, Draft, Event, Held, IsTrue, List, [], ap}
use Rattle.rw_record.proofs.Common.{cell_count, cells_noted, distinct, flat_map, if◌then◌else◌, is_noted, is_same_cell, length, length-map, list_any}
use Rattle.rw_record.proofs.Common.{list_any-from_Contains, reached_by, refl, subst, sym, ℕ, ◌↔◌, ◌∙◌, ◌∷◌, ◌≡◌}
use Rattle.std.proofs.lemmas.Map.Made.{length-from_keys}
use Rattle.std.specs.Cmp.{both_ways}
use Rattle.std.specs.Set.{unique_keys}
use Rattle.rw_record.specs.Record.{IsRecordOf, StepRecord}
use Rattle.rw_run.specs.declared.trace.TraceEvent.{TraceEvent}
use Rattle.rw_record.proofs.Cells.{cells_equiv, same_cell}
use Rattle.rw_record.proofs.Noting.{noted_from, noted_of}

unique : (cells : List Cell) → unique_keys is_same_cell cells ≡ distinct cells
unique [] = refl
unique (cell ∷ cells) = ap (λ rest. if list_any (is_same_cell cell) cells then rest else cell ∷ rest) (unique cells)

pub counted : (noted : List Held) (cells : List Cell) → AreOnce noted → ((cell : Cell) → Contains cells cell ↔ IsTrue (is_noted noted cell))
    → length noted ≡ cell_count cells
counted noted cells once are =
    sym (length-map noted (λ (one : Held). one.cell))
    ∙ length-from_keys cells_equiv (cells_noted noted) cells once (λ cell. both_ways (is_noted noted cell) (list_any (is_same_cell cell) cells)
    (λ is. list_any-from_Contains cells_equiv cell cells ((are cell).1 is))
    (λ is. (are cell).0 (Contains-from_any same_cell cell cells is)))
    ∙ ap length (unique cells)

pub looked : (basin : Draft) (before : Cells) (events : List Event) (noted : List Held) → AreOnce noted → AreLooked basin before events noted
    → length noted ≡ cell_count (flat_map (reached_by basin) events)
looked basin before events noted once are = counted noted (flat_map (reached_by basin) events) once (λ cell. (
  λ has. noted_of noted (record { cell = cell; content = before cell }) ((are (record { cell = cell; content = before cell })).1 (has, refl)),
  λ is. let one = noted_from noted cell is in subst (Contains (flat_map (reached_by basin) events)) one.is ((are one.at).0 one.has).0,
))

-- the record has what was looked at
pub recorded : (basin : Draft) (before : Cells) (events : List Event) (step : ℕ) (noted : List Held) (lines : List TraceEvent) (kept : StepRecord)
    → AreLooked basin before events noted → IsRecordOf step noted lines kept → AreLooked basin before events kept.looked
recorded basin before events step noted lines kept are is =
    λ one. (λ has. (are one).0 ((is.members one).0 has), λ has. (is.members one).1 ((are one).1 has))
