-- The cells that the edits of a batch name.
use Rattle.rw_base.proofs.Common.{◌≡◌, ◌≤◌, filter, list_any-append, not, ◌<◌, ◌+◌, ◌-◌, ◌∙◌, ◌==◌, ℕ, ℤ, Bool, true, false, if◌then◌else◌, List, [], ◌∷◌, ◌++◌}
use Rattle.rw_base.proofs.Common.{length, flat_map, list_any, range_with_len, get_or-range_with_len, length-range_with_len, All}
use Rattle.rw_base.proofs.Common.{All-append, All-contains, All-filter, All-head, All-map, All-nil, All-tail, Contains, list_any-from_Contains}
use Rattle.rw_base.proofs.Common.{Option, Some, None, IfSome, slice_index_or, false≢true, nat_tests, arith, refl, sym, ap, subst, ◌⊎◌, inl, inr}
use Rattle.std.proofs.lemmas.List.Elements.{Contains-append_right}
use Rattle.std.proofs.lemmas.Bool.{or_parts}
use Rattle.rw_base.specs.declared.number.Cell.{Cell}
use Rattle.rw_model.specs.Draft.{Draft, IsSlot}
use Rattle.rw_model.specs.Links.{group_of, is_together, slot_numbers}
use Rattle.rw_model.specs.Objects.{Object}
use Rattle.rw_model.proofs.Grouping.{all_known}
use Rattle.rw_inputs.specs.declared.edit.Edit.{Edit}
use Rattle.rw_inputs.specs.Edits.{Batch, IsBatch, IsEdit, Values, after_batch, after_edit, names}
use Rattle.rw_inputs.specs.Inputs.{Inputs, IsInputsOf, IsKeptValue, kept_slot, value_at}
use Rattle.rw_inputs.proofs.Groups.{kept_slot-again}
use Rattle.rw_series.specs.Series.{IsCell}
use Rattle.rw_run.specs.Dispatch.{cell_at}
use Rattle.rw_run.specs.Next.{is_same_value}
use Rattle.rw_run.specs.Step.{is_same_cell}
use Rattle.rw_record.proofs.Cells.{cells_equiv, first_of, first_or, map_of}
use Rattle.rw_rerun.specs.Edited.{AreEdited, cells_changed, cells_named, gives_another}

-- ---- which cells these are

first_known : (objects : List Object) (slots : List ℕ) (slot : ℕ) → All (IsSlot objects) slots → IsSlot objects slot
    → IsSlot objects (slice_index_or slots 0 slot)
first_known objects [] slot all known = known
first_known objects (first ∷ slots) slot all known = All-head (IsSlot objects) first slots all

kept_known : (basin : Draft) (slot : ℕ) → IsSlot basin.objects slot → IsSlot basin.objects (kept_slot basin slot)
kept_known basin slot =
    first_known basin.objects (group_of basin.objects basin.links slot) slot
    (All-filter (is_together basin.links slot) (IsSlot basin.objects) (slot_numbers basin.objects) (all_known basin.objects))

module _ (basin : Draft) (P : Cell → Type 0)
    (each : (edit : Edit) (step : ℕ) → IsEdit basin edit → edit.first ≤ step → step ≤ edit.last → P (cell_at (kept_slot basin edit.slot) step)) where
  each_of : (edit : Edit) → IsEdit basin edit → All P (cells_named basin edit)
  each_of edit is =
      All-map P (cell_at (kept_slot basin edit.slot)) (range_with_len edit.first (edit.last - edit.first + 1))
      (λ place step near.
      let within : place < edit.last - edit.first + 1 =
      subst (λ n. place < n) (length-range_with_len edit.first (edit.last - edit.first + 1)) near in
      let order = is.order in
      subst (λ n. P (cell_at (kept_slot basin edit.slot) n))
      (sym (get_or-range_with_len edit.first (edit.last - edit.first + 1) place step within))
      (each edit (edit.first + place) is (omega arith) (omega (arith, within, order))))

  each_in : (old : Inputs) (batch : Batch) → IsBatch basin batch → All P (flat_map (cells_changed basin old) batch)
  each_in old [] is = All-nil P
  each_in old (edit ∷ batch) is =
      All-append P (cells_changed basin old edit) (flat_map (cells_changed basin old) batch)
      (All-filter (gives_another old edit.value) P (cells_named basin edit) (each_of edit (All-head (IsEdit basin) edit batch is)))
      (each_in old batch (All-tail (IsEdit basin) edit batch is))

named_at : (basin : Draft) (edit : Edit) (slot step : ℕ) → kept_slot basin edit.slot ≡ slot → edit.first ≤ step → step ≤ edit.last
    → Contains (cells_named basin edit) (cell_at slot step)
named_at basin edit slot step kept first last =
    let count : ℕ = edit.last - edit.first + 1 in
    let within : step - edit.first < count = omega (arith, first, last) in
    let same : edit.first + (step - edit.first) ≡ step = omega (arith, first) in
    subst (λ s. Contains (cells_named basin edit) (cell_at s step)) kept
    (map_of (cell_at (kept_slot basin edit.slot)) (range_with_len edit.first count) step (
      step - edit.first,
      subst (λ n. step - edit.first < n) (sym (length-range_with_len edit.first count)) within,
      get_or-range_with_len edit.first count (step - edit.first) step within ∙ same,
    ))

-- ---- values at other cells

-- at a slot at which none is kept, none comes
none_after : (basin : Draft) (batch : Batch) (values : Values) (slot step : ℕ) → IsBatch basin batch → (kept_slot basin slot ≡ slot → ⊥)
    → values slot step ≡ None
    → after_batch batch values slot step ≡ None
none_after basin [] values slot step is other none = none
none_after basin (edit ∷ batch) values slot step is other none =
    none_after basin batch (after_edit edit values) slot step (All-tail (IsEdit basin) edit batch is) other
    (by (names edit slot step) refl edit.value refl)
  where
    by : (named : Bool) → names edit slot step ≡ named → (value : Option ℤ) → edit.value ≡ value
        → (if named then edit.value else values slot step) ≡ None
    by false named value said = none
    by true named None said = said
    by true named (Some value) said =
        let kept : IsKeptValue basin edit.slot value =
        subst (λ v. IfSome v (IsKeptValue basin edit.slot)) said ((All-head (IsEdit basin) edit batch is).kept) in
        let same : edit.slot ≡ slot = grind (arith, nat_tests, named) in
        absurd (other (subst (λ s. kept_slot basin s ≡ s) same kept.least))

none_kept : (basin : Draft) (inputs : Inputs) (slot step : ℕ) → IsInputsOf basin inputs → (kept_slot basin slot ≡ slot → ⊥) → (value : Option ℤ)
    → value_at inputs slot step ≡ value → value_at inputs slot step ≡ None
none_kept basin inputs slot step made other None is = is
none_kept basin inputs slot step made other (Some value) is = absurd (other (made.sound slot step value is).least)

-- ---- where an edit gives the value that is there

same_value : (one other : Option ℤ) → is_same_value one other ≡ true → one ≡ other
same_value None None is = refl
same_value None (Some b) is = absurd (false≢true is)
same_value (Some a) None is = absurd (false≢true is)
same_value (Some a) (Some b) is = ap Some (grind (arith, is))

-- what is among some and passes is among those that pass
passes_in : (test : Cell → Bool) (cells : List Cell) (cell : Cell) → test cell ≡ true → Contains cells cell → Contains (filter test cells) cell
passes_in test [] cell passes has = absurd (omega (arith, has.1))
passes_in test (first ∷ cells) cell passes has = by (passes_in test cells cell passes) (test first) refl (first_or first cells cell has)
  where
    by : (Contains cells cell → Contains (filter test cells) cell) → (t : Bool) → test first ≡ t → (first ≡ cell) ⊎ Contains cells cell
        → Contains (if t then first ∷ filter test cells else filter test cells) cell
    by others true is (inl same) = subst (Contains (first ∷ filter test cells)) same (first_of first (filter test cells))
    by others true is (inr more) = Contains-append_right (first ∷ []) (filter test cells) cell (others more)
    by others false is (inl same) = absurd (false≢true (sym is ∙ ap test same ∙ passes))
    by others false is (inr more) = others more

module _ (basin : Draft) (old : Inputs) (slot step : ℕ) (least : kept_slot basin slot ≡ slot) where
  abbrev there : Option ℤ
  there = value_at old slot step

  edit_stays : (edit : Edit) (values : Values) → list_any (is_same_cell (cell_at slot step)) (cells_changed basin old edit) ≡ false
      → values slot step ≡ there → after_edit edit values slot step ≡ there
  edit_stays edit values none here = by (names edit slot step) refl (is_same_value there edit.value) refl
    where
      by : (named : Bool) → names edit slot step ≡ named → (same : Bool) → is_same_value there edit.value ≡ same
          → (if named then edit.value else values slot step) ≡ there
      by false named same is = here
      by true named true is = sym (same_value there edit.value is)
      by true named false is =
          let slot_is : slot ≡ edit.slot = grind (arith, nat_tests, named) in
          let first : edit.first ≤ step = grind (arith, nat_tests, named) in
          let last : step ≤ edit.last = grind (arith, nat_tests, named) in
          absurd (false≢true (sym none ∙ list_any-from_Contains cells_equiv (cell_at slot step) (cells_changed basin old edit)
          (passes_in (gives_another old edit.value) (cells_named basin edit) (cell_at slot step) (ap not is)
          (named_at basin edit slot step (ap (kept_slot basin) (sym slot_is) ∙ least) first last))))

  batch_stays : (batch : Batch) (values : Values)
      → list_any (is_same_cell (cell_at slot step)) (flat_map (cells_changed basin old) batch) ≡ false
      → values slot step ≡ there → after_batch batch values slot step ≡ there
  batch_stays [] values none here = here
  batch_stays (edit ∷ batch) values none here =
      let test : Cell → Bool = is_same_cell (cell_at slot step) in
      let parts = or_parts (list_any test (cells_changed basin old edit)) (list_any test (flat_map (cells_changed basin old) batch))
      (sym (list_any-append test (cells_changed basin old edit) (flat_map (cells_changed basin old) batch)) ∙ none) in
      batch_stays batch (after_edit edit values) parts.1 (edit_stays edit values parts.0 here)

module _ (basin : Draft) (batch : Batch) (is : IsBatch basin batch) (inputs : Inputs) (made : IsInputsOf basin inputs) where
  stays : (slot step : ℕ) → list_any (is_same_cell (cell_at slot step)) (flat_map (cells_changed basin inputs) batch) ≡ false
      → (least : Bool) → (kept_slot basin slot == slot) ≡ least → after_batch batch (value_at inputs) slot step ≡ value_at inputs slot step
  stays slot step none true least = batch_stays basin inputs slot step (grind (arith, nat_tests, least)) batch (value_at inputs) none refl
  stays slot step none false least =
      let other : (kept_slot basin slot ≡ slot → ⊥) = grind (arith, nat_tests, least) in
      let here = none_kept basin inputs slot step made other (value_at inputs slot step) refl in
      none_after basin batch (value_at inputs) slot step is other here ∙ sym here

  pub are_edited : AreEdited basin batch inputs (flat_map (cells_changed basin inputs) batch)
  are_edited = record {
    known = each_in basin (IsCell basin)
        (λ edit step is first last.
        let known = kept_known basin edit.slot is.slot in
        let from = is.first in
        let to = is.last in
        record { slot = known; first = omega (arith, from, first); last = omega (arith, last, to) }) inputs batch is;
    least = λ cell has.
        All-contains (λ (one : Cell). kept_slot basin one.slot.0 ≡ one.slot.0) (flat_map (cells_changed basin inputs) batch) cell
        (each_in basin (λ one. kept_slot basin one.slot.0 ≡ one.slot.0) (λ edit step is first last. kept_slot-again basin edit.slot) inputs batch is)
        has;
    same = λ cell none. stays cell.slot.0 cell.step.0 none (kept_slot basin cell.slot.0 == cell.slot.0) refl;
  }
