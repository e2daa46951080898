-- Inputs are placed one after another. Whatever order the timesteps come in, each cell holds what is placed at its own.
use Rattle.rw_engine.proofs.Common.{AreBounded, AreBounded-put, Asked, Bool, Cell, Cells, Draft, HoldsAll, Inputs, IsInputsOf, List, Log, None, Option}
use Rattle.rw_engine.proofs.Common.{Series, Sets, Some, [], add-one, ap, ap₂, append-nil, arith, cells_of, false, held, if_placed, if◌then◌else◌}
use Rattle.rw_engine.proofs.Common.{input_content, is_shared, last_put, nat_tests, option_or, placings_of, placings_to, refl, subst, suc, sym, true}
use Rattle.rw_engine.proofs.Common.{value_at, with_inputs, zero, ℕ, ℤ, ◌++◌, ◌+◌, ◌==◌, ◌∙◌, ◌∷◌, ◌≡◌, ◌≤◌}
use Rattle.rw_base.proofs.Common.{IfSome, inl, inr, length, ◌&&◌}
use Rattle.rw_inputs.specs.Column.{Column, value_in_column}
use Rattle.rw_inputs.specs.Inputs.{IsKeptValue, slot_column}
use Rattle.rw_model.specs.Links.{group_of, is_among}
use Rattle.rw_engine.specs.Placed.{PlacesAtSteps, if_in_block, is_in_block, placing_at, row_placings}

-- inputs placed after others
pub placed-append : (log : Log) (xs ys : List (Cell × ℤ)) → with_inputs log (xs ++ ys) ≡ with_inputs (with_inputs log xs) ys
placed-append log [] ys = refl
placed-append log (x ∷ xs) ys = placed-append (with_inputs log (x ∷ [])) xs ys

-- what is given to a slot is what it can have
pub given-kept : (basin : Draft) (inputs : Inputs) (slot step : ℕ) (value : Option ℤ) → IsInputsOf basin inputs → value_at inputs slot step ≡ value
    → IfSome value (IsKeptValue basin slot)
given-kept basin inputs slot step None made is = tt
given-kept basin inputs slot step (Some value) made is = made.sound slot step value is

-- so it stays within its bounds
pub given-bounded : (basin : Draft) (cell : Cell) (value : ℤ) (old new : Series) → IsKeptValue basin cell.slot.0 value → AreBounded basin (held old)
    → Sets basin cell (Some (input_content value)) old new → AreBounded basin (held new)
given-bounded basin cell value old new kept bounded sets =
    AreBounded-put basin (record { cell = cell; content = input_content value }) old new
    (record { low = kept.within.low; high = kept.within.high }) bounded sets

-- ---- blocks of timesteps

emptied : (xs : List (Cell × ℤ)) → xs ≡ [] → (test : Bool) → [] ≡ (if test then xs else [])
emptied xs none true = sym none
emptied xs none false = refl

together : (xs ys : List (Cell × ℤ)) (test : Bool)
    → (if test then xs else []) ++ (if test then ys else []) ≡ (if test then xs ++ ys else [])
together xs ys true = refl
together xs ys false = refl

parted : (xs : List (Cell × ℤ)) (first middle last step : ℕ) → first ≤ middle → middle ≤ last → (front back all : Bool)
    → is_in_block first middle step ≡ front → is_in_block middle last step ≡ back → is_in_block first last step ≡ all
    → (if front then xs else []) ++ (if back then xs else []) ≡ (if all then xs else [])
parted xs first middle last step one two true true all f b a = absurd (grind (arith, nat_tests, f, b))
parted xs first middle last step one two true false true f b a = append-nil xs
parted xs first middle last step one two true false false f b a = absurd (grind (arith, nat_tests, f, a, two))
parted xs first middle last step one two false true true f b a = refl
parted xs first middle last step one two false true false f b a = absurd (grind (arith, nat_tests, b, a, one))
parted xs first middle last step one two false false true f b a = absurd (grind (arith, nat_tests, f, b, a))
parted xs first middle last step one two false false false f b a = refl

-- ---- what is placed over what was placed

joined : (basin : Draft) (f g : ℕ → List (Cell × ℤ)) (old now new : Cells) → PlacesAtSteps basin f old now → PlacesAtSteps basin g now new
    → PlacesAtSteps basin (λ step. f step ++ g step) old new
joined basin f g old now new one two log cell holds =
    two (with_inputs log (f cell.step.0)) cell (one log cell holds)
    ∙ ap (λ all. cells_of basin all cell) (sym (placed-append log (f cell.step.0) (g cell.step.0)))

alike : (basin : Draft) (f g : ℕ → List (Cell × ℤ)) (old new : Cells) → ((step : ℕ) → f step ≡ g step) → PlacesAtSteps basin f old new
    → PlacesAtSteps basin g old new
alike basin f g old new same places log cell holds =
    places log cell holds ∙ ap (λ xs. cells_of basin (with_inputs log xs) cell) (same cell.step.0)

nothing : (basin : Draft) (g : ℕ → List (Cell × ℤ)) (cells : Cells) → ((step : ℕ) → [] ≡ g step) → PlacesAtSteps basin g cells cells
nothing basin g cells same = alike basin (λ step. []) g cells cells same (λ log cell holds. holds)

-- at the timesteps of a block, and then at those of the next one
pub behind : (basin : Draft) (f : ℕ → List (Cell × ℤ)) (first middle last : ℕ) (old now new : Cells) → first ≤ middle → middle ≤ last
    → PlacesAtSteps basin (λ step. if_in_block first middle step (f step)) old now
    → PlacesAtSteps basin (λ step. if_in_block middle last step (f step)) now new
    → PlacesAtSteps basin (λ step. if_in_block first last step (f step)) old new
behind basin f first middle last old now new one two before after =
    alike basin (λ step. if_in_block first middle step (f step) ++ if_in_block middle last step (f step))
    (λ step. if_in_block first last step (f step)) old new
    (λ step. parted (f step) first middle last step one two (is_in_block first middle step) (is_in_block middle last step)
    (is_in_block first last step) refl refl refl)
    (joined basin (λ step. if_in_block first middle step (f step)) (λ step. if_in_block middle last step (f step)) old now new before after)

none_within : (first step : ℕ) (xs : List (Cell × ℤ)) (test : Bool) → is_in_block first first step ≡ test → [] ≡ (if test then xs else [])
none_within first step xs true is = absurd (grind (arith, nat_tests, is))
none_within first step xs false is = refl

-- there is no timestep between one and itself
pub no_steps : (basin : Draft) (f : ℕ → List (Cell × ℤ)) (first : ℕ) (cells : Cells)
    → PlacesAtSteps basin (λ step. if_in_block first first step (f step)) cells cells
no_steps basin f first cells =
    nothing basin (λ step. if_in_block first first step (f step)) cells
    (λ step. none_within first step (f step) (is_in_block first first step) refl)

-- ---- a cell

never : (test : Bool) → (test && false) ≡ false
never true = refl
never false = refl

elsewhere : (basin : Draft) (slot step : ℕ) (given : Option ℤ) (log : Log) (cell : Cell) → (cell.step.0 == step) ≡ false
    → cells_of basin (with_inputs log (if_placed slot step given)) cell ≡ cells_of basin log cell
elsewhere basin slot step None log cell apart = refl
elsewhere basin slot step (Some value) log cell apart =
    let away : is_shared basin (record { slot = record { 0 = slot }; step = record { 0 = step } }) cell ≡ false =
    ap (λ test. is_among cell.slot.0 (group_of basin.objects basin.links slot) && test) apart
    ∙ never (is_among cell.slot.0 (group_of basin.objects basin.links slot)) in
    ap (λ test. option_or (if test then Some (input_content value) else None) (cells_of basin log cell)) away

at_step : (basin : Draft) (inputs : Inputs) (slot before next : ℕ) (new : Cells) (log : Log) (cell : Cell) → next ≡ before + 1
    → new cell ≡ cells_of basin (with_inputs log (placing_at inputs slot next)) cell → (test : Bool)
    → is_in_block before next cell.step.0 ≡ test
    → new cell ≡ cells_of basin (with_inputs log (if test then placing_at inputs slot cell.step.0 else [])) cell
at_step basin inputs slot before next new log cell is holds true here =
    let at : next ≡ cell.step.0 = grind (arith, nat_tests, is, here) in
    holds ∙ ap (λ step. cells_of basin (with_inputs log (placing_at inputs slot step)) cell) at
at_step basin inputs slot before next new log cell is holds false here =
    let apart : (cell.step.0 == next) ≡ false = grind (arith, nat_tests, is, here) in
    holds ∙ elsewhere basin slot next (value_at inputs slot next) log cell apart

-- what is placed in a cell is placed at its timestep alone
one_step : (basin : Draft) (inputs : Inputs) (slot before next : ℕ) (old new : Cells) → next ≡ before + 1
    → PlacesAtSteps basin (λ step. placing_at inputs slot next) old new
    → PlacesAtSteps basin (λ step. if_in_block before next step (placing_at inputs slot step)) old new
one_step basin inputs slot before next old new is places log cell holds =
    at_step basin inputs slot before next new log cell is (places log cell holds) (is_in_block before next cell.step.0) refl

-- ---- slots

-- one more timestep of a slot
pub step-more : (basin : Draft) (inputs : Inputs) (slot first before next : ℕ) (old now new : Cells) → first ≤ before → next ≡ before + 1
    → PlacesAtSteps basin (λ step. if_in_block first before step (placing_at inputs slot step)) old now
    → PlacesAtSteps basin (λ step. placing_at inputs slot next) now new
    → PlacesAtSteps basin (λ step. if_in_block first next step (placing_at inputs slot step)) old new
step-more basin inputs slot first before next old now new order is front places =
    behind basin (placing_at inputs slot) first before next old now new order (omega (arith, is)) front
    (one_step basin inputs slot before next now new is places)

-- a slot whose column ends before the last of these is given nothing at any
pub none-given : (basin : Draft) (inputs : Inputs) (slot first last : ℕ) (cells : Cells) → IsInputsOf basin inputs
    → length (slot_column inputs.columns slot) ≤ last → last ≤ basin.control.stamps.count
    → PlacesAtSteps basin (λ step. if_in_block first last step (placing_at inputs slot step)) cells cells
none-given basin inputs slot first last cells made short within =
    let empty : slot_column inputs.columns slot ≡ [] =
    elim (made.steps slot) [
      | inl none ↦ none
      | inr whole ↦ absurd (omega (arith, whole, short, within))
    ] in
    nothing basin (λ step. if_in_block first last step (placing_at inputs slot step)) cells
    (λ step. emptied (placing_at inputs slot step) (ap (λ (column : Column). if_placed slot step (value_in_column column step)) empty)
    (is_in_block first last step))

pub no_slots : (basin : Draft) (inputs : Inputs) (first last : ℕ) (cells : Cells)
    → PlacesAtSteps basin (λ step. if_in_block first last step (row_placings inputs 0 step)) cells cells
no_slots basin inputs first last cells =
    nothing basin (λ step. if_in_block first last step (row_placings inputs 0 step)) cells
    (λ step. emptied [] refl (is_in_block first last step))

row_more : (inputs : Inputs) (slots next step : ℕ) → next ≡ suc slots
    → row_placings inputs slots step ++ placing_at inputs next step ≡ row_placings inputs next step
row_more inputs slots next step is =
    subst (λ n. row_placings inputs slots step ++ placing_at inputs n step ≡ row_placings inputs n step) (sym is) refl

-- one more slot in a block of timesteps
pub slot-more : (basin : Draft) (inputs : Inputs) (slots next first last : ℕ) (old now new : Cells) → next ≡ suc slots
    → PlacesAtSteps basin (λ step. if_in_block first last step (row_placings inputs slots step)) old now
    → PlacesAtSteps basin (λ step. if_in_block first last step (placing_at inputs next step)) now new
    → PlacesAtSteps basin (λ step. if_in_block first last step (row_placings inputs next step)) old new
slot-more basin inputs slots next first last old now new is front places =
    alike basin (λ step. if_in_block first last step (row_placings inputs slots step) ++ if_in_block first last step (placing_at inputs next step))
    (λ step. if_in_block first last step (row_placings inputs next step)) old new
    (λ step. together (row_placings inputs slots step) (placing_at inputs next step) (is_in_block first last step)
    ∙ ap (if_in_block first last step) (row_more inputs slots next step is))
    (joined basin (λ step. if_in_block first last step (row_placings inputs slots step))
    (λ step. if_in_block first last step (placing_at inputs next step)) old now new front places)

-- ---- the same in the order of the definition

after_alike : (basin : Draft) (slot step : ℕ) (given : Option ℤ) (one other : Log) (cell : Cell) → cells_of basin one cell ≡ cells_of basin other cell
    → cells_of basin (with_inputs one (if_placed slot step given)) cell ≡ cells_of basin (with_inputs other (if_placed slot step given)) cell
after_alike basin slot step None one other cell same = same
after_alike basin slot step (Some value) one other cell same =
    let put : Asked = record { cell = record { slot = record { 0 = slot }; step = record { 0 = step } }; content = input_content value } in
    ap (option_or (last_put basin (put ∷ []) cell)) same

of_slot : (basin : Draft) (inputs : Inputs) (slot steps : ℕ) (log : Log)
    → PlacesAtSteps basin (λ step. if_in_block 0 steps step (placing_at inputs slot step)) (cells_of basin log)
    (cells_of basin (with_inputs log (placings_of inputs slot steps)))
of_slot basin inputs slot zero log = no_steps basin (placing_at inputs slot) 0 (cells_of basin log)
of_slot basin inputs slot (suc steps) log =
    let so_far = with_inputs log (placings_of inputs slot steps) in
    subst (λ all. PlacesAtSteps basin (λ step. if_in_block 0 (suc steps) step (placing_at inputs slot step)) (cells_of basin log) (cells_of basin all))
    (sym (placed-append log (placings_of inputs slot steps) (placing_at inputs slot (suc steps))))
    (step-more basin inputs slot 0 steps (suc steps) (cells_of basin log) (cells_of basin so_far)
    (cells_of basin (with_inputs so_far (placing_at inputs slot (suc steps)))) (omega arith) (sym (add-one steps)) (of_slot basin inputs slot steps log)
    (λ other cell same. after_alike basin slot (suc steps) (value_at inputs slot (suc steps)) so_far other cell same))

to_slots : (basin : Draft) (inputs : Inputs) (slots steps : ℕ) (log : Log)
    → PlacesAtSteps basin (λ step. if_in_block 0 steps step (row_placings inputs slots step)) (cells_of basin log)
    (cells_of basin (with_inputs log (placings_to inputs slots steps)))
to_slots basin inputs zero steps log = no_slots basin inputs 0 steps (cells_of basin log)
to_slots basin inputs (suc slot) steps log =
    let so_far = with_inputs log (placings_to inputs slot steps) in
    subst (λ all. PlacesAtSteps basin (λ step. if_in_block 0 steps step (row_placings inputs (suc slot) step)) (cells_of basin log) (cells_of basin all))
    (sym (placed-append log (placings_to inputs slot steps) (placings_of inputs (suc slot) steps)))
    (slot-more basin inputs slot (suc slot) 0 steps (cells_of basin log) (cells_of basin so_far)
    (cells_of basin (with_inputs so_far (placings_of inputs (suc slot) steps))) refl (to_slots basin inputs slot steps log)
    (of_slot basin inputs (suc slot) steps so_far))

-- all slots at all timesteps
pub all-placed : (basin : Draft) (inputs : Inputs) (slots steps : ℕ) (old new : Series)
    → PlacesAtSteps basin (λ step. if_in_block 0 steps step (row_placings inputs slots step)) (held old) (held new) → (log : Log)
    → HoldsAll basin old log → HoldsAll basin new (with_inputs log (placings_to inputs slots steps))
all-placed basin inputs slots steps old new places log holds cell =
    places log cell (holds cell) ∙ sym (to_slots basin inputs slots steps log log cell refl)
