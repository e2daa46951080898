-- Which cells records hold, found by their order.
use Rattle.rw_base.proofs.Common.{◌≡◌, ◌⊎◌, ◌<◌, ◌≤◌, ◌+◌, ◌∙◌, ◌||◌, ℕ, zero, suc, Bool, true, false, List, [], ◌∷◌, All, All-head, All-tail}
use Rattle.rw_base.proofs.Common.{Contains, Option, Some, None, length, list_any, nat_lt, nat_tests, refl, sym, ap, subst, arith, inl, inr, none-some}
use Rattle.rw_base.proofs.Common.{nat_le, ◌&&◌, same_Some, slice_get, slice_get_within, slice_get-get_or, get_or_from_slice_get, false≢true}
use Rattle.rw_base.specs.declared.number.Cell.{Cell}
use Rattle.rw_base.specs.declared.number.SlotNo.{SlotNo}
use Rattle.rw_model.specs.Draft.{Draft}
use Rattle.rw_model.specs.Kept.{numbers_of}
use Rattle.rw_model.specs.Links.{group_of}
use Rattle.rw_run.specs.Dispatch.{cell_at}
use Rattle.rw_run.specs.Step.{is_same_cell}
use Rattle.rw_run.specs.declared.held.Held.{Held}
use Rattle.rw_record.specs.Noted.{is_noted}
use Rattle.rw_record.specs.Record.{AreRisingCells, IsBelow, greatest_step, least_step}
use Rattle.rw_record.proofs.Cells.{cells_equiv, same_cell}
use Rattle.rw_record.proofs.Noting.{noted_from, noted_of}
use Rattle.rw_record.proofs.Spans.{none_earlier, none_later}
use Rattle.rw_rerun.specs.Touched.{AreBelow, AreNotBelow, CountsBelow, is_reached, spans}

below_next : (a b c : Cell) → IsBelow a b → IsBelow b c → IsBelow a c
below_next a b c (inl one) (inl other) = inl (omega (arith, one, other))
below_next a b c (inl one) (inr other) = inl (let same = other.0 in omega (arith, one, same))
below_next a b c (inr one) (inl other) = inl (let same = one.0 in omega (arith, same, other))
below_next a b c (inr one) (inr other) = inr (one.0 ∙ other.0, let first = one.1 in let second = other.1 in omega (arith, first, second))

all_at : (P : Held → Type 0) (items : List Held) → All P items → (place : ℕ) (one : Held) → slice_get items place ≡ Some one → P one
all_at P [] all place one there = absurd (none-some _ there)
all_at P (first ∷ items) all zero one there = subst P (same_Some first one there) (All-head P first items all)
all_at P (first ∷ items) all (suc place) one there = all_at P items (All-tail P first items all) place one there

rising_at : (looked : List Held) → AreRisingCells looked → (place later : ℕ) (one other : Held) → slice_get looked place ≡ Some one
    → slice_get looked later ≡ Some other → place < later → IsBelow one.cell other.cell
rising_at [] rising place later one other there here near = absurd (none-some _ there)
rising_at (first ∷ looked) rising zero zero one other there here near = absurd (omega (arith, near))
rising_at (first ∷ looked) rising zero (suc later) one other there here near =
    subst (λ (it : Held). IsBelow it.cell other.cell) (same_Some first one there)
    (all_at (λ (it : Held). IsBelow first.cell it.cell) looked rising.0 later other here)
rising_at (first ∷ looked) rising (suc place) zero one other there here near = absurd (omega (arith, near))
rising_at (first ∷ looked) rising (suc place) (suc later) one other there here near =
    rising_at looked rising.1 place later one other there here (omega (arith, near))

module _ (looked : List Held) (cell : Cell) (middle : ℕ) (it : Held) (rising : AreRisingCells looked) (at : slice_get looked middle ≡ Some it) where
  same_one : (place : ℕ) (one : Held) → slice_get looked place ≡ Some one → middle ≡ place → it ≡ one
  same_one place one there same = same_Some it one (sym at ∙ ap (slice_get looked) same ∙ there)

  pub on_below : IsBelow it.cell cell → AreBelow looked cell (middle + 1)
  on_below below place one there near = by (nat_lt place middle) refl
    where
      by : (less : Bool) → nat_lt place middle ≡ less → IsBelow one.cell cell
      by true is = below_next one.cell it.cell cell (rising_at looked rising place middle one it there at (grind (arith, nat_tests, is))) below
      by false is =
          let far : middle ≤ place = grind (arith, nat_tests, is) in
          subst (λ (h : Held). IsBelow h.cell cell) (same_one place one there (omega (arith, far, near))) below

  pub on_others : ¬ IsBelow it.cell cell → AreNotBelow looked cell middle
  on_others not_below place one there near below = by (nat_lt middle place) refl
    where
      by : (less : Bool) → nat_lt middle place ≡ less → ⊥
      by true is =
          not_below (below_next it.cell one.cell cell (rising_at looked rising middle place it one at there (grind (arith, nat_tests, is))) below)
      by false is =
          let far : place ≤ middle = grind (arith, nat_tests, is) in
          not_below (subst (λ (h : Held). IsBelow h.cell cell) (sym (same_one place one there (omega (arith, far, near)))) below)

pub none_below : (looked : List Held) (cell : Cell) → AreBelow looked cell 0
none_below looked cell place one there near = absurd (omega (arith, near))

pub no_others : (looked : List Held) (cell : Cell) → AreNotBelow looked cell (length looked)
no_others looked cell place one there near below = let within = slice_get_within looked place one there in absurd (omega (arith, within, near))

-- ---- whether a cell is there

not_below_itself : (cell other : Cell) → cell ≡ other → IsBelow cell other → ⊥
not_below_itself cell other same (inl less) = let slot = ap (λ (c : Cell). c.slot.0) same in absurd (omega (arith, slot, less))
not_below_itself cell other same (inr less) = let step = ap (λ (c : Cell). c.step.0) same in let far = less.1 in absurd (omega (arith, step, far))

module _ (looked : List Held) (cell : Cell) (count : ℕ) (rising : AreRisingCells looked) (counts : CountsBelow looked cell count) where
  -- where it stands, it isn't among those below it
  not_before : (place : ℕ) (one : Held) → slice_get looked place ≡ Some one → one.cell ≡ cell → count ≤ place
  not_before place one there same = by (nat_lt place count) refl
    where
      by : (less : Bool) → nat_lt place count ≡ less → count ≤ place
      by false is = grind (arith, nat_tests, is)
      by true is = absurd (not_below_itself one.cell cell same (counts.below place one there (grind (arith, nat_tests, is))))

  there_of : (one : Held) (has : Contains looked one) → slice_get looked has.0 ≡ Some one
  there_of one has = slice_get-get_or looked has.0 one has.1 ∙ ap Some has.2

  pub nothing_there : slice_get looked count ≡ None → false ≡ is_noted looked cell
  nothing_there none = by (is_noted looked cell) refl
    where
      by : (noted : Bool) → is_noted looked cell ≡ noted → false ≡ noted
      by false is = refl
      by true is =
          let from = noted_from looked cell is in
          let far = not_before from.has.0 from.at (there_of from.at from.has) from.is in
          let within = from.has.1 in
          absurd (none-some _ (sym none ∙ slice_get-get_or looked count from.at (omega (arith, far, within))))

  module _ (one : Held) (there : slice_get looked count ≡ Some one) where
    not_later : (place : ℕ) (other : Held) → slice_get looked place ≡ Some other → other.cell ≡ cell → place ≤ count
    not_later place other here same = by (nat_lt count place) refl
      where
        by : (less : Bool) → nat_lt count place ≡ less → place ≤ count
        by false is = grind (arith, nat_tests, is)
        by true is =
            absurd (counts.others count one there (omega arith)
            (subst (IsBelow one.cell) same (rising_at looked rising count place one other there here (grind (arith, nat_tests, is)))))

    same_there : (other : Held) → Contains looked other → other.cell ≡ cell → one.cell ≡ cell
    same_there other has same =
        let here = there_of other has in
        let first = not_before has.0 other here same in
        let last = not_later has.0 other here same in
        let at : count ≡ has.0 = omega (arith, first, last) in
        ap (λ (h : Held). h.cell) (same_Some one other (sym there ∙ ap (slice_get looked) at ∙ here)) ∙ same

    pub found_there : (test : Bool) → is_same_cell cell one.cell ≡ test → test ≡ is_noted looked cell
    found_there true is =
        sym (ap (is_noted looked) (same_cell cell one.cell is)
        ∙ noted_of looked one (count, slice_get_within looked count one there, get_or_from_slice_get looked count one one there))
    found_there false is = by (is_noted looked cell) refl
      where
        by : (noted : Bool) → is_noted looked cell ≡ noted → false ≡ noted
        by false none = refl
        by true noted =
            let from = noted_from looked cell noted in
            absurd (false≢true (sym is ∙ ap (is_same_cell cell) (same_there from.at from.has from.is) ∙ cells_equiv.refl cell))

-- ---- of slots

pub any_numbers : (p : ℕ → Bool) (slots : List SlotNo) → list_any (λ (slot : SlotNo). p slot.0) slots ≡ list_any p (numbers_of slots)
any_numbers p [] = refl
any_numbers p (slot ∷ slots) = ap (λ rest. p slot.0 || rest) (any_numbers p slots)

-- ---- of timesteps

any_none : (p : ℕ → Bool) (slots : List ℕ) → ((slot : ℕ) → p slot ≡ false) → list_any p slots ≡ false
any_none p [] none = refl
any_none p (slot ∷ slots) none = ap (λ known. known || list_any p slots) (none slot) ∙ any_none p slots none

-- none is reached at a timestep that isn't between those of the cells
pub none_spanned : (basin : Draft) (looked : List Held) (cell : Cell) → spans looked cell.step.0 ≡ false → is_reached basin looked cell ≡ false
none_spanned basin looked cell apart =
    any_none (λ slot. is_noted looked (cell_at slot cell.step.0)) (group_of basin.objects basin.links cell.slot.0)
    (λ slot. by slot (nat_le (least_step looked) cell.step.0) (nat_le cell.step.0 (greatest_step looked)) refl refl apart)
  where
    by : (slot : ℕ) (first last : Bool) → nat_le (least_step looked) cell.step.0 ≡ first → nat_le cell.step.0 (greatest_step looked) ≡ last
        → (first && last) ≡ false → is_noted looked (cell_at slot cell.step.0) ≡ false
    by slot false last before behind none = none_earlier looked (cell_at slot cell.step.0) (grind (arith, nat_tests, before))
    by slot true false before behind none = none_later looked (cell_at slot cell.step.0) (grind (arith, nat_tests, behind))
    by slot true true before behind none = absurd (cc)
