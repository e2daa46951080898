-- The cells of a batch: what inputs give them, and records that hold none of them.
use Rattle.rw_base.proofs.Common.{◌≡◌, ◌≤◌, ◌<◌, ◌+◌, ◌∙◌, ◌==◌, ◌||◌, ℕ, zero, suc, ℤ, Bool, true, false, not, if◌then◌else◌, List, [], ◌∷◌, ◌++◌}
use Rattle.rw_base.proofs.Common.{map, length, list_any, list_any_at, Any-from_list_any, All-contains, All-head, All-tail, Contains}
use Rattle.rw_base.proofs.Common.{Contains-from_any, Option, Some, None, option_map, option_or, take, slice_index_or, same_Some, none-some}
use Rattle.rw_base.proofs.Common.{filter_agree, false≢true, and_parts, nat_tests, arith, refl, sym, ap, subst}
use Rattle.std.proofs.lemmas.List.Elements.{Contains-append_right}
use Rattle.rw_base.specs.declared.number.Cell.{Cell}
use Rattle.rw_inputs.proofs.Groups.{together_first}
use Rattle.rw_model.specs.Draft.{Draft}
use Rattle.rw_model.specs.Links.{group_of, is_among, is_together, slot_numbers}
use Rattle.rw_model.specs.Objects.{all_slots}
use Rattle.rw_model.specs.declared.content.Content.{Content}
use Rattle.rw_inputs.specs.Edits.{Batch, Values, after_batch}
use Rattle.rw_inputs.specs.Placings.{placings, placings_of, placings_to, if_placed}
use Rattle.rw_inputs.specs.Inputs.{Inputs, IsInputsOf, kept_slot, value_at}
use Rattle.rw_series.specs.Series.{IsCell, is_shared}
use Rattle.rw_series.proofs.Sharing.{Shared-of}
use Rattle.rw_run.specs.Dispatch.{cell_at}
use Rattle.rw_run.specs.Log.{Cells, Log, cells_of, placed, input_content, last_put, written_by}
use Rattle.rw_run.specs.Runs.{with_inputs}
use Rattle.rw_run.specs.Step.{is_same_cell}
use Rattle.rw_run.specs.declared.held.Held.{Held}
use Rattle.rw_record.specs.Noted.{is_noted}
use Rattle.rw_record.specs.Record.{StepRecord}
use Rattle.rw_record.proofs.Cells.{first_of, same_cell}
use Rattle.rw_record.proofs.Noting.{noted_of}
use Rattle.rw_engine.proofs.Places.{placed-append}
use Rattle.rw_rerun.specs.Begun.{AreAlikeIn, AreWithout}
use Rattle.rw_rerun.specs.Edited.{AreEdited, is_edited}
use Rattle.rw_rerun.specs.Spare.{given_all}
use Rattle.rw_rerun.specs.Touched.{CountsUntouched, is_reached, is_untouched}

any_of : {A : Type 0} (p : A → Bool) (xs : List A) (x : A) → Contains xs x → p x ≡ true → list_any p xs ≡ true
any_of p xs x has passes = list_any_at p xs has.0 x has.1 (ap p has.2 ∙ passes)

none_of : {A : Type 0} (p : A → Bool) (xs : List A) (x : A) → list_any p xs ≡ false → Contains xs x → p x ≡ false
none_of p xs x none has = by (p x) refl
  where
    by : (test : Bool) → p x ≡ test → test ≡ false
    by false is = refl
    by true is = absurd (false≢true (sym none ∙ any_of p xs x has is))

-- ---- what inputs give

unplaced : (basin : Draft) (log : Log) (slot step : ℕ) (value : Option ℤ) (cell : Cell) → is_shared basin (cell_at slot step) cell ≡ false
    → cells_of basin (with_inputs log (if_placed slot step value)) cell ≡ cells_of basin log cell
unplaced basin log slot step None cell apart = refl
unplaced basin log slot step (Some value) cell apart =
    ap (λ (test : Bool). option_or (if test then Some (input_content value) else None) (cells_of basin log cell)) apart

placed_alike : (basin : Draft) (one other : Log) (slot step : ℕ) (value : Option ℤ) (cell : Cell)
    → cells_of basin one cell ≡ cells_of basin other cell
    → cells_of basin (with_inputs one (if_placed slot step value)) cell ≡ cells_of basin (with_inputs other (if_placed slot step value)) cell
placed_alike basin one other slot step None cell same = same
placed_alike basin one other slot step (Some value) cell same =
    ap (option_or (last_put basin (written_by (placed (cell_at slot step) value)) cell)) same

module _ (basin : Draft) (old new : Inputs) (cell : Cell)
    (alike : (slot step : ℕ) → is_shared basin (cell_at slot step) cell ≡ true → value_at old slot step ≡ value_at new slot step) where
  one_alike : (one other : Log) (slot step : ℕ) → cells_of basin one cell ≡ cells_of basin other cell → (shared : Bool)
      → is_shared basin (cell_at slot step) cell ≡ shared
      → cells_of basin (with_inputs one (if_placed slot step (value_at old slot step))) cell
      ≡ cells_of basin (with_inputs other (if_placed slot step (value_at new slot step))) cell
  one_alike one other slot step same true shared =
      placed_alike basin one other slot step (value_at old slot step) cell same
      ∙ ap (λ value. cells_of basin (with_inputs other (if_placed slot step value)) cell) (alike slot step shared)
  one_alike one other slot step same false apart =
      unplaced basin one slot step (value_at old slot step) cell apart ∙ same
      ∙ sym (unplaced basin other slot step (value_at new slot step) cell apart)

  of_alike : (slot steps : ℕ) (one other : Log) → cells_of basin one cell ≡ cells_of basin other cell
      → cells_of basin (with_inputs one (placings_of old slot steps)) cell ≡ cells_of basin (with_inputs other (placings_of new slot steps)) cell
  of_alike slot zero one other same = same
  of_alike slot (suc step) one other same =
      ap (λ log. cells_of basin log cell) (placed-append one (placings_of old slot step) (if_placed slot (suc step) (value_at old slot (suc step))))
      ∙ one_alike (with_inputs one (placings_of old slot step)) (with_inputs other (placings_of new slot step)) slot (suc step)
      (of_alike slot step one other same)
      (is_shared basin (cell_at slot (suc step)) cell) refl
      ∙ sym (ap (λ log. cells_of basin log cell)
      (placed-append other (placings_of new slot step) (if_placed slot (suc step) (value_at new slot (suc step)))))

  to_alike : (slots steps : ℕ) (one other : Log) → cells_of basin one cell ≡ cells_of basin other cell
      → cells_of basin (with_inputs one (placings_to old slots steps)) cell ≡ cells_of basin (with_inputs other (placings_to new slots steps)) cell
  to_alike zero steps one other same = same
  to_alike (suc slot) steps one other same =
      ap (λ log. cells_of basin log cell) (placed-append one (placings_to old slot steps) (placings_of old (suc slot) steps))
      ∙ of_alike (suc slot) steps (with_inputs one (placings_to old slot steps)) (with_inputs other (placings_to new slot steps))
      (to_alike slot steps one other same)
      ∙ sym (ap (λ log. cells_of basin log cell) (placed-append other (placings_to new slot steps) (placings_of new (suc slot) steps)))

-- other cells are given what they were given before the batch
pub given_alike : (basin : Draft) (batch : Batch) (old new : Inputs) (cells : List Cell)
    → value_at new ≡ after_batch batch (value_at old) → AreEdited basin batch old cells → (cell : Cell) → is_edited basin cells cell ≡ false
    → cells_of basin (with_inputs [] (placings basin old)) cell ≡ cells_of basin (with_inputs [] (placings basin new)) cell
given_alike basin batch old new cells values edited cell apart =
    to_alike basin old new cell
    (λ slot step shared.
    sym (edited.same (cell_at slot step) (unnamed slot step shared (list_any (is_same_cell (cell_at slot step)) cells) refl))
    ∙ sym (ap (λ (v : Values). v slot step) values))
    (length (all_slots basin.objects)) basin.control.stamps.count [] [] refl
  where
    unnamed : (slot step : ℕ) → is_shared basin (cell_at slot step) cell ≡ true → (there : Bool)
        → list_any (is_same_cell (cell_at slot step)) cells ≡ there → there ≡ false
    unnamed slot step shared false there = refl
    unnamed slot step shared true there =
        absurd (false≢true (sym apart ∙ any_of (λ one. is_shared basin one cell) cells (cell_at slot step)
        (Contains-from_any same_cell (cell_at slot step) cells there) shared))

-- ---- the cell at which a value is kept

first_is : (slots : List ℕ) (slot one other : ℕ) → is_among slot slots ≡ true → slice_index_or slots 0 one ≡ slice_index_or slots 0 other
first_is [] slot one other among = absurd (false≢true among)
first_is (first ∷ slots) slot one other among = refl

-- slots that carry one value have it at one slot
kept_together : (basin : Draft) (one cell : Cell) → is_shared basin one cell ≡ true → kept_slot basin one.slot.0 ≡ kept_slot basin cell.slot.0
kept_together basin one cell shared =
    let is = Shared-of basin one cell shared in
    let parts = and_parts (is_among cell.slot.0 (group_of basin.objects basin.links one.slot.0)) (cell.step.0 == one.step.0) shared in
    let groups : group_of basin.objects basin.links one.slot.0 ≡ group_of basin.objects basin.links cell.slot.0 =
    filter_agree (is_together basin.links one.slot.0) (is_together basin.links cell.slot.0)
    (λ slot. together_first basin.links one.slot.0 cell.slot.0 slot is.together) (slot_numbers basin.objects) in
    first_is (group_of basin.objects basin.links one.slot.0) cell.slot.0 one.slot.0 cell.slot.0 parts.0
    ∙ ap (λ group. slice_index_or group 0 cell.slot.0) groups

-- the value of this cell is kept at that one
module _ (basin : Draft) (inputs : Inputs) (cell kept : Cell) (made : IsInputsOf basin inputs) (shared : is_shared basin kept cell ≡ true)
    (least : kept_slot basin kept.slot.0 ≡ kept.slot.0) where
  abbrev due : Option Content
  due = option_map input_content (value_at inputs kept.slot.0 kept.step.0)

  same_kept : (other : Cell) → kept_slot basin other.slot.0 ≡ other.slot.0 → is_shared basin other cell ≡ true
      → value_at inputs other.slot.0 other.step.0 ≡ value_at inputs kept.slot.0 kept.step.0
  same_kept other alike is =
      let slot : other.slot.0 ≡ kept.slot.0 = sym alike ∙ kept_together basin other cell is ∙ sym (kept_together basin kept cell shared) ∙ least in
      let step : other.step.0 ≡ kept.step.0 = sym (Shared-of basin other cell is).step ∙ (Shared-of basin kept cell shared).step in
      ap (λ s. value_at inputs s other.step.0) slot ∙ ap (value_at inputs kept.slot.0) step

  -- it stays, whatever is placed
  one_stays : (log : Log) (slot step : ℕ) → cells_of basin log cell ≡ due → (value : Option ℤ) → value_at inputs slot step ≡ value
      → (test : Bool) → is_shared basin (cell_at slot step) cell ≡ test → cells_of basin (with_inputs log (if_placed slot step value)) cell ≡ due
  one_stays log slot step holds None is test here = holds
  one_stays log slot step holds (Some value) is false here = unplaced basin log slot step (Some value) cell here ∙ holds
  one_stays log slot step holds (Some value) is true here =
      ap (λ (b : Bool). option_or (if b then Some (input_content value) else None) (cells_of basin log cell)) here
      ∙ ap (option_map input_content) (sym is ∙ same_kept (cell_at slot step) (made.sound slot step value is).least here)

  of_stays : (slot steps : ℕ) (log : Log) → cells_of basin log cell ≡ due
      → cells_of basin (with_inputs log (placings_of inputs slot steps)) cell ≡ due
  of_stays slot zero log holds = holds
  of_stays slot (suc step) log holds =
      ap (λ l. cells_of basin l cell) (placed-append log (placings_of inputs slot step) (if_placed slot (suc step) (value_at inputs slot (suc step))))
      ∙ one_stays (with_inputs log (placings_of inputs slot step)) slot (suc step) (of_stays slot step log holds)
      (value_at inputs slot (suc step)) refl
      (is_shared basin (cell_at slot (suc step)) cell) refl

  to_stays : (slots steps : ℕ) (log : Log) → cells_of basin log cell ≡ due
      → cells_of basin (with_inputs log (placings_to inputs slots steps)) cell ≡ due
  to_stays zero steps log holds = holds
  to_stays (suc slot) steps log holds =
      ap (λ l. cells_of basin l cell) (placed-append log (placings_to inputs slot steps) (placings_of inputs (suc slot) steps))
      ∙ of_stays (suc slot) steps (with_inputs log (placings_to inputs slot steps)) (to_stays slot steps log holds)

  -- where there is one, it is there once it is placed
  module _ (value : ℤ) (is : value_at inputs kept.slot.0 kept.step.0 ≡ Some value) where
    one_there : (log : Log) (slot step : ℕ) → kept.slot.0 ≡ slot → kept.step.0 ≡ step
        → cells_of basin (with_inputs log (if_placed slot step (value_at inputs slot step))) cell ≡ due
    one_there log slot step same_slot same_step =
        subst (λ s. cells_of basin (with_inputs log (if_placed s step (value_at inputs s step))) cell ≡ due) same_slot
        (subst (λ n. cells_of basin (with_inputs log (if_placed kept.slot.0 n (value_at inputs kept.slot.0 n))) cell ≡ due) same_step
        (ap (λ found. cells_of basin (with_inputs log (if_placed kept.slot.0 kept.step.0 found)) cell) is
        ∙ ap (λ (b : Bool). option_or (if b then Some (input_content value) else None) (cells_of basin log cell)) shared
        ∙ sym (ap (option_map input_content) is)))

    of_there : (slot steps : ℕ) (log : Log) → kept.slot.0 ≡ slot → 1 ≤ kept.step.0 → kept.step.0 ≤ steps
        → cells_of basin (with_inputs log (placings_of inputs slot steps)) cell ≡ due
    of_there slot zero log same some few = absurd (omega (arith, some, few))
    of_there slot (suc step) log same some few =
        ap (λ l. cells_of basin l cell) (placed-append log (placings_of inputs slot step)
        (if_placed slot (suc step) (value_at inputs slot (suc step))))
        ∙ by (of_there slot step log same some) (kept.step.0 == suc step) refl
      where
        by : (kept.step.0 ≤ step → cells_of basin (with_inputs log (placings_of inputs slot step)) cell ≡ due) → (test : Bool)
            → (kept.step.0 == suc step) ≡ test
            → cells_of basin (with_inputs (with_inputs log (placings_of inputs slot step))
            (if_placed slot (suc step) (value_at inputs slot (suc step)))) cell ≡ due
        by earlier true here = one_there (with_inputs log (placings_of inputs slot step)) slot (suc step) same (grind (arith, nat_tests, here))
        by earlier false apart =
            let before : kept.step.0 ≤ step = grind (arith, nat_tests, apart, few) in
            one_stays (with_inputs log (placings_of inputs slot step)) slot (suc step) (earlier before) (value_at inputs slot (suc step)) refl
            (is_shared basin (cell_at slot (suc step)) cell) refl

    to_there : (slots steps : ℕ) (log : Log) → 1 ≤ kept.slot.0 → kept.slot.0 ≤ slots → 1 ≤ kept.step.0 → kept.step.0 ≤ steps
        → cells_of basin (with_inputs log (placings_to inputs slots steps)) cell ≡ due
    to_there zero steps log some few first last = absurd (omega (arith, some, few))
    to_there (suc slot) steps log some few first last =
        ap (λ l. cells_of basin l cell) (placed-append log (placings_to inputs slot steps) (placings_of inputs (suc slot) steps))
        ∙ by (λ before. to_there slot steps log some before first last) (kept.slot.0 == suc slot) refl
      where
        by : (kept.slot.0 ≤ slot → cells_of basin (with_inputs log (placings_to inputs slot steps)) cell ≡ due) → (test : Bool)
            → (kept.slot.0 == suc slot) ≡ test
            → cells_of basin (with_inputs (with_inputs log (placings_to inputs slot steps)) (placings_of inputs (suc slot) steps)) cell ≡ due
        by earlier true here = of_there (suc slot) steps (with_inputs log (placings_to inputs slot steps)) (grind (arith, nat_tests, here)) first last
        by earlier false apart =
            let before : kept.slot.0 ≤ slot = grind (arith, nat_tests, apart, few) in
            of_stays (suc slot) steps (with_inputs log (placings_to inputs slot steps)) (earlier before)

  held_given : IsCell basin kept → (value : Option ℤ) → value_at inputs kept.slot.0 kept.step.0 ≡ value
      → cells_of basin (with_inputs [] (placings basin inputs)) cell ≡ due
  held_given known None is =
      to_stays (length (all_slots basin.objects)) basin.control.stamps.count [] (sym (ap (option_map input_content) is))
  held_given known (Some value) is =
      to_there value is (length (all_slots basin.objects)) basin.control.stamps.count [] known.slot.first known.slot.last known.first known.last

-- ---- given anew

-- what cells hold once one of them is given anew
abbrev once_given : Draft → Inputs → Cell → Cells → Cells
once_given basin inputs cell was one =
    if is_shared basin cell one then option_map input_content (value_at inputs cell.slot.0 cell.step.0) else was one

-- other cells hold what they held
pub not_given : (basin : Draft) (inputs : Inputs) (cells : List Cell) (was : Cells) (cell : Cell) → is_edited basin cells cell ≡ false
    → given_all basin inputs cells was cell ≡ was cell
not_given basin inputs [] was cell apart = refl
not_given basin inputs (first ∷ cells) was cell apart =
    by (not_given basin inputs cells (once_given basin inputs first was) cell) (is_shared basin first cell) refl
  where
    by : (is_edited basin cells cell ≡ false
        → given_all basin inputs cells (once_given basin inputs first was) cell ≡ once_given basin inputs first was cell)
        → (test : Bool) → is_shared basin first cell ≡ test → given_all basin inputs cells (once_given basin inputs first was) cell ≡ was cell
    by rest true here = absurd (false≢true (sym apart ∙ ap (λ b. b || is_edited basin cells cell) here))
    by rest false here =
        rest (ap (λ b. b || is_edited basin cells cell) (sym here) ∙ apart)
        ∙ ap (λ (b : Bool). if b then option_map input_content (value_at inputs first.slot.0 first.step.0) else was cell) here

module _ (basin : Draft) (inputs : Inputs) (cell kept : Cell) (made : IsInputsOf basin inputs) (shared : is_shared basin kept cell ≡ true)
    (least : kept_slot basin kept.slot.0 ≡ kept.slot.0) where
  last_given : (cells : List Cell) (was : Cells) → ((one : Cell) → Contains cells one → kept_slot basin one.slot.0 ≡ one.slot.0)
      → is_edited basin cells cell ≡ true
      → given_all basin inputs cells was cell ≡ option_map input_content (value_at inputs kept.slot.0 kept.step.0)
  last_given [] was alike edited = absurd (false≢true edited)
  last_given (first ∷ cells) was alike edited =
      by (last_given cells (once_given basin inputs first was) (λ one has. alike one (Contains-append_right (first ∷ []) cells one has)))
      (is_edited basin cells cell) refl
    where
      first_shared : (test : Bool) → is_shared basin first cell ≡ test → is_edited basin cells cell ≡ false → test ≡ true
      first_shared true here none = refl
      first_shared false here none =
          absurd (false≢true (sym (ap (λ b. b || is_edited basin cells cell) here ∙ none) ∙ edited))

      by : (is_edited basin cells cell ≡ true
          → given_all basin inputs cells (once_given basin inputs first was) cell
          ≡ option_map input_content (value_at inputs kept.slot.0 kept.step.0))
          → (test : Bool) → is_edited basin cells cell ≡ test
          → given_all basin inputs cells (once_given basin inputs first was) cell ≡ option_map input_content (value_at inputs kept.slot.0 kept.step.0)
      by rest true later = rest later
      by rest false none =
          let here : is_shared basin first cell ≡ true = first_shared (is_shared basin first cell) refl none in
          not_given basin inputs cells (once_given basin inputs first was) cell none
          ∙ ap (λ (b : Bool). if b then option_map input_content (value_at inputs first.slot.0 first.step.0) else was cell) here
          ∙ ap (option_map input_content) (same_kept basin inputs cell kept made shared least first (alike first (first_of first cells)) here)

-- given anew, they hold what they hold where the inputs are placed
pub given_anew : (basin : Draft) (batch : Batch) (old inputs : Inputs) (cells : List Cell) → IsInputsOf basin inputs
    → AreEdited basin batch old cells
    → (was : Cells) (cell : Cell) → is_edited basin cells cell ≡ true
    → given_all basin inputs cells was cell ≡ cells_of basin (with_inputs [] (placings basin inputs)) cell
given_anew basin batch old inputs cells made edited was cell shared =
    let found = Any-from_list_any (λ one. is_shared basin one cell) cells shared in
    let has : Contains cells found.1 = (found.0, found.2, found.3) in
    let known : IsCell basin found.1 = All-contains (IsCell basin) cells found.1 edited.known has in
    last_given basin inputs cell found.1 made found.4 (edited.least found.1 has) cells was edited.least shared
    ∙ sym (held_given basin inputs cell found.1 made found.4 (edited.least found.1 has) known (value_at inputs found.1.slot.0 found.1.step.0) refl)

-- ---- timesteps that are untouched

-- the record holds no cell that shares its value with one of these
one_without : (basin : Draft) (cells : List Cell) (kept : StepRecord) (cell : Cell) → is_untouched basin cells (Some kept) ≡ true
    → is_edited basin cells cell ≡ true
    → is_noted kept.looked cell ≡ false
one_without basin cells kept cell untouched shared = by (is_noted kept.looked cell) refl
  where
    not_true : (test : Bool) → not test ≡ true → test ≡ false
    not_true false is = refl
    not_true true is = absurd (false≢true is)

    by : (noted : Bool) → is_noted kept.looked cell ≡ noted → noted ≡ false
    by false noted = refl
    by true noted =
        let found = Any-from_list_any (λ one. is_shared basin one cell) cells shared in
        let one : Cell = found.1 in
        let group : List ℕ = group_of basin.objects basin.links one.slot.0 in
        let parts = and_parts (is_among cell.slot.0 group) (cell.step.0 == one.step.0) found.4 in
        let among : Contains group cell.slot.0 =
        Contains-from_any {eq = λ (a : ℕ) b. a == b} (λ a b same. grind (arith, nat_tests, same)) cell.slot.0 group parts.0 in
        let step : one.step.0 ≡ cell.step.0 = grind (arith, nat_tests, parts.1) in
        let reached : is_reached basin kept.looked one ≡ true =
        any_of (λ slot. is_noted kept.looked (cell_at slot one.step.0)) group cell.slot.0 among
        (ap (λ n. is_noted kept.looked (cell_at cell.slot.0 n)) step ∙ noted) in
        absurd (false≢true (sym (not_true (list_any (is_reached basin kept.looked) cells) untouched)
        ∙ any_of (is_reached basin kept.looked) cells one (found.0, found.2, found.3) reached))

-- so many timesteps are kept, and their records hold none of the cells, nor one that shares its value with one of them
pub record AreUntouched (basin : Draft) (cells : List Cell) (one other : Log) (first : List (Option StepRecord)) (behind : ℕ) : Type 0 where
  pub records : List StepRecord
  pub are : first ≡ map (λ (kept : StepRecord). Some kept) records
  pub many : length records ≡ behind
  pub without : (cell : Cell) → is_edited basin cells cell ≡ true → AreWithout cell records
  pub alike : AreAlikeIn basin one other records

module _ (basin : Draft) (cells : List Cell) (one other : Log)
    (alike : (cell : Cell) → is_edited basin cells cell ≡ false → cells_of basin one cell ≡ cells_of basin other cell) where
  held_alike : (kept : StepRecord) → is_untouched basin cells (Some kept) ≡ true → (it : Held) → Contains kept.looked it
      → cells_of basin one it.cell ≡ cells_of basin other it.cell
  held_alike kept untouched it has = by (is_edited basin cells it.cell) refl
    where
      by : (shared : Bool) → is_edited basin cells it.cell ≡ shared → cells_of basin one it.cell ≡ cells_of basin other it.cell
      by false apart = alike it.cell apart
      by true shared = absurd (false≢true (sym (one_without basin cells kept it.cell untouched shared) ∙ noted_of kept.looked it has))

  more_untouched : (entry : Option StepRecord) (first : List (Option StepRecord)) (behind : ℕ) → is_untouched basin cells entry ≡ true
      → AreUntouched basin cells one other first behind → AreUntouched basin cells one other (entry ∷ first) (suc behind)
  more_untouched None first behind untouched rest = absurd (false≢true untouched)
  more_untouched (Some kept) first behind untouched rest = record {
    records = kept ∷ rest.records;
    are = ap (λ more. Some kept ∷ more) rest.are;
    many = ap suc rest.many;
    without = λ cell shared. (one_without basin cells kept cell untouched shared, rest.without cell shared);
    alike = (held_alike kept untouched, rest.alike);
  }

  first_untouched : (was : List (Option StepRecord)) (behind : ℕ) → CountsUntouched basin cells was behind
      → AreUntouched basin cells one other (take behind was) behind
  first_untouched was zero counts = record { records = []; are = refl; many = refl; without = λ cell shared. tt; alike = tt }
  first_untouched [] (suc behind) counts = absurd (let few = counts.few in omega (arith, few))
  first_untouched (entry ∷ was) (suc behind) counts =
      more_untouched entry (take behind was) behind (counts.each 0 entry (omega arith) refl)
      (first_untouched was behind (record {
        few = let few = counts.few in omega (arith, few);
        each = λ place it near there. counts.each (suc place) it (omega (arith, near)) there;
      }))

pub untouched_first : (basin : Draft) (cells : List Cell) (was : List (Option StepRecord)) (behind : ℕ) (one other : Log)
    → CountsUntouched basin cells was behind
    → ((cell : Cell) → is_edited basin cells cell ≡ false → cells_of basin one cell ≡ cells_of basin other cell)
    → AreUntouched basin cells one other (take behind was) behind
untouched_first basin cells was behind one other counts alike = first_untouched basin cells one other alike was behind counts
