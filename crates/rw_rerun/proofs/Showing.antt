-- What inputs and puts leave in the cells is what an engine of the basin can show.
use Rattle.rw_base.proofs.Common.{◌≡◌, ◌≤◌, ◌+◌, ◌∙◌, ◌==◌, ℕ, zero, suc, ℤ, Bool, true, false, if◌then◌else◌, List, [], ◌∷◌, All, All-append}
use Rattle.rw_base.proofs.Common.{All-cons, All-contains, All-head, All-nil, All-tail, Contains, Contains-from_any, Option, Some, None, length}
use Rattle.rw_base.proofs.Common.{option_or, false≢true, nat_tests, refl, sym, ap, ap₂, subst, arith, same_Some, none-some}
use Rattle.std.specs.List.{flat_map}
use Rattle.rw_base.specs.declared.number.Cell.{Cell}
use Rattle.rw_model.specs.Draft.{Draft, IsSlot}
use Rattle.rw_model.specs.Links.{IsBetween, bounds_in, group_of, slot_numbers}
use Rattle.rw_model.specs.Objects.{all_slots}
use Rattle.rw_model.specs.declared.content.Content.{Content}
use Rattle.rw_model.proofs.Grouping.{all_known}
use Rattle.rw_inputs.specs.Placings.{placings, placings_of, placings_to, if_placed}
use Rattle.rw_inputs.specs.Inputs.{Inputs, IsInputsOf, value_at}
use Rattle.rw_series.specs.Series.{IsCell, is_shared}
use Rattle.rw_series.proofs.Bounds.{bounds-shared}
use Rattle.rw_series.proofs.Sharing.{Shared-of, shared_alike}
use Rattle.rw_run.specs.Frame.{IsStepFrom, log_after}
use Rattle.rw_run.specs.Log.{Asked, Cells, Event, Log, cells_of, placed, input_content, last_put, opened}
use Rattle.rw_run.specs.RunOf.{last_closed}
use Rattle.rw_run.specs.Runs.{with_inputs}
use Rattle.rw_run.specs.declared.trace.TraceEvent.{TraceEvent}
use Rattle.rw_run.proofs.Placed.{closed-placed}
use Rattle.rw_dispatch.specs.Stage.{AreBounded}
use Rattle.rw_dispatch.specs.Writes.{AreWrites, CanWrite}
use Rattle.rw_record.specs.Back.{AreCellsOf, is_cell}
use Rattle.rw_record.specs.Record.{StepRecord}
use Rattle.rw_engine.specs.Records.{CanWriteLine, CanWriteLines, RecordsThese, puts_in, puts_of_line}
use Rattle.rw_engine.specs.Shows.{CanShow}
use Rattle.rw_engine.proofs.Again.{closing}
use Rattle.rw_engine.proofs.Records.{held_again, puts_on}

-- cells that share their value hold the same, what is no cell holds nothing, and all is within bounds
pub record AreShowable (basin : Draft) (cells : Cells) : Type 0 where
  pub those : AreCellsOf basin cells
  pub bounded : AreBounded basin cells

same_cells : (basin : Draft) (one other : Cells) → ((cell : Cell) → one cell ≡ other cell) → AreShowable basin one → AreShowable basin other
same_cells basin one other same was = record {
  those = record {
    shared = λ cell near known shared. sym (same cell) ∙ was.those.shared cell near known shared ∙ same near;
    none = λ cell unknown. sym (same cell) ∙ was.those.none cell unknown;
  };
  bounded = λ cell content known is. was.bounded cell content known (same cell ∙ is);
}

-- ---- a put

-- what shares its value with a cell is a cell
cell_with : (basin : Draft) (cell other : Cell) → IsCell basin cell → is_shared basin cell other ≡ true → is_cell basin other ≡ true
cell_with basin cell other known shared =
    let is = Shared-of basin cell other shared in
    let among : Contains (slot_numbers basin.objects) other.slot.0 =
    Contains-from_any {eq = λ (a : ℕ) b. a == b} (λ a b same. grind (arith, nat_tests, same)) other.slot.0 (slot_numbers basin.objects) is.known in
    let slot : IsSlot basin.objects other.slot.0 =
    All-contains (IsSlot basin.objects) (slot_numbers basin.objects) other.slot.0 (all_known basin.objects) among in
    grind (arith, nat_tests, slot.first, slot.last, known.first, known.last, is.step)

module _ (basin : Draft) (put : Asked) (cells : Cells) (can : CanWrite basin put) (was : AreShowable basin cells) where
  none_put : (cell : Cell) → is_cell basin cell ≡ false → (shared : Bool) → is_shared basin put.cell cell ≡ shared
      → option_or (if shared then Some put.content else None) (cells cell) ≡ None
  none_put cell unknown true shared = absurd (false≢true (sym unknown ∙ cell_with basin put.cell cell can.cell shared))
  none_put cell unknown false apart = was.those.none cell unknown

  bounded_put : (cell : Cell) (content : Content) → IsCell basin cell → (shared : Bool) → is_shared basin put.cell cell ≡ shared
      → option_or (if shared then Some put.content else None) (cells cell) ≡ Some content
      → IsBetween (bounds_in basin.objects basin.links basin.bounds cell.slot.0) content.value
  bounded_put cell content known true shared is =
      subst (λ (c : Content). IsBetween (bounds_in basin.objects basin.links basin.bounds cell.slot.0) c.value) (same_Some put.content content is)
      (subst (λ bounds. IsBetween bounds put.content.value) (bounds-shared basin put.cell cell shared) can.within)
  bounded_put cell content known false apart is = was.bounded cell content known is

  put_shown : AreShowable basin (λ cell. option_or (last_put basin (put ∷ []) cell) (cells cell))
  put_shown = record {
    those = record {
      shared = λ cell other known shared.
          ap₂ (λ (test : Bool) there. option_or (if test then Some put.content else None) there) (shared_alike basin put.cell cell other known shared)
          (was.those.shared cell other known shared);
      none = λ cell unknown. none_put cell unknown (is_shared basin put.cell cell) refl;
    };
    bounded = λ cell content known is. bounded_put cell content known (is_shared basin put.cell cell) refl is;
  }

puts_shown : (basin : Draft) (puts : List Asked) (cells : Cells) → AreWrites basin puts → AreShowable basin cells
    → AreShowable basin (λ cell. option_or (last_put basin puts cell) (cells cell))
puts_shown basin [] cells can was = was
puts_shown basin (put ∷ puts) cells can was =
    same_cells basin (λ cell. option_or (last_put basin puts cell) (option_or (last_put basin (put ∷ []) cell) (cells cell)))
    (λ cell. option_or (last_put basin (put ∷ puts) cell) (cells cell)) (λ cell. puts_on basin (put ∷ []) puts cell cells)
    (puts_shown basin puts (λ cell. option_or (last_put basin (put ∷ []) cell) (cells cell)) (All-tail (CanWrite basin) put puts can)
    (put_shown basin put cells (All-head (CanWrite basin) put puts can) was))

-- ---- a timestep

writes_in : (basin : Draft) (told : List TraceEvent) → CanWriteLines basin told → AreWrites basin (puts_in told)
writes_in basin [] can = All-nil (CanWrite basin)
writes_in basin (line ∷ told) can =
    All-append (CanWrite basin) (puts_of_line line) (puts_in told) (All-head (CanWriteLine basin) line told can)
    (writes_in basin told (All-tail (CanWriteLine basin) line told can))

pub shown_behind : (basin : Draft) (step : ℕ) (one now : Log) (first : Event) (events : List Event) (kept : StepRecord) → IsStepFrom step first events
    → RecordsThese basin step one (first ∷ events) kept → CanShow basin step now
    → CanShow basin (step + 1) (log_after (first ∷ events) (opened step ∷ now))
shown_behind basin step one now first events kept goes these could =
    let is = same_cells basin (λ cell. option_or (last_put basin (puts_in kept.lines) cell) (cells_of basin now cell))
    (cells_of basin (log_after (first ∷ events) (opened step ∷ now)))
    (λ cell. ap (λ told. option_or (last_put basin (puts_in told) cell) (cells_of basin now cell)) these.lines_are
    ∙ held_again basin step first events (opened step ∷ now) cell goes)
    (puts_shown basin (puts_in kept.lines) (cells_of basin now) (writes_in basin kept.lines these.can)
    (record { those = could.cells; bounded = could.bounded })) in record {
      cells = is.those;
      bounded = is.bounded;
      closed_steps = ap (λ last. last + 1) (sym (ap last_closed (closing step first events (opened step ∷ now) goes refl).is));
    }

-- ---- inputs

abbrev CanGive : Draft → Cell × ℤ → Type 0
CanGive basin input = CanWrite basin (record { cell = input.0; content = input_content input.1 })

all_placed : (basin : Draft) (inputs : List (Cell × ℤ)) (log : Log) → All (CanGive basin) inputs → AreShowable basin (cells_of basin log)
    → AreShowable basin (cells_of basin (with_inputs log inputs))
all_placed basin [] log can was = was
all_placed basin (input ∷ inputs) log can was =
    all_placed basin inputs (placed input.0 input.1 ∷ log) (All-tail (CanGive basin) input inputs can)
    (put_shown basin (record { cell = input.0; content = input_content input.1 }) (cells_of basin log)
    (All-head (CanGive basin) input inputs can) was)

module _ (basin : Draft) (inputs : Inputs) (made : IsInputsOf basin inputs) where
  one_given : (slot step : ℕ) → IsSlot basin.objects slot → 1 ≤ step → step ≤ basin.control.stamps.count → (value : Option ℤ)
      → value_at inputs slot step ≡ value
      → All (CanGive basin) (if_placed slot step value)
  one_given slot step known first last None is = All-nil (CanGive basin)
  one_given slot step known first last (Some value) is =
      All-cons (CanGive basin) (record { slot = record { 0 = slot }; step = record { 0 = step } }, value) []
      (record { cell = record { slot = known; first = first; last = last }; within = (made.sound slot step value is).within })
      (All-nil (CanGive basin))

  of_slot : (slot steps : ℕ) → IsSlot basin.objects slot → steps ≤ basin.control.stamps.count → All (CanGive basin) (placings_of inputs slot steps)
  of_slot slot zero known few = All-nil (CanGive basin)
  of_slot slot (suc step) known few =
      All-append (CanGive basin) (placings_of inputs slot step) (if_placed slot (suc step) (value_at inputs slot (suc step)))
      (of_slot slot step known (omega (arith, few)))
      (one_given slot (suc step) known (omega arith) few (value_at inputs slot (suc step)) refl)

  to_slot : (slot : ℕ) → slot ≤ length (all_slots basin.objects) → All (CanGive basin) (placings_to inputs slot basin.control.stamps.count)
  to_slot zero few = All-nil (CanGive basin)
  to_slot (suc slot) few =
      All-append (CanGive basin) (placings_to inputs slot basin.control.stamps.count) (placings_of inputs (suc slot) basin.control.stamps.count)
      (to_slot slot (omega (arith, few))) (of_slot (suc slot) basin.control.stamps.count (record { first = omega arith; last = few }) (omega arith))

  pub placed_shown : CanShow basin 1 (with_inputs [] (placings basin inputs))
  placed_shown =
      let is = all_placed basin (placings basin inputs) [] (to_slot (length (all_slots basin.objects)) (omega arith)) (record {
        those = record { shared = λ cell other known shared. refl; none = λ cell unknown. refl };
        bounded = λ cell content known is. absurd (none-some content is);
      }) in record { cells = is.those; bounded = is.bounded; closed_steps = ap (λ last. last + 1) (sym (closed-placed [] (placings basin inputs))) }
