-- From which timestep on cells are reached, of more and more of them.
use Rattle.rw_base.proofs.Common.{◌≡◌, ◌≤◌, ◌<◌, ◌+◌, ◌∙◌, ℕ, Bool, true, false, List, Option, Some, None, length, nat_lt, nat_tests, refl, sym, ap}
use Rattle.rw_base.proofs.Common.{subst, arith, same_Some, slice_get, slice_get_within}
use Rattle.rw_base.specs.declared.number.Cell.{Cell}
use Rattle.rw_record.specs.Record.{StepRecord}
use Rattle.rw_rerun.specs.Touched.{AreFrom, AreKeptOf, IsFrom, ReachFrom}

-- none of the first ones, so many of them, is at a timestep before this one
abbrev pub FirstFrom : {A : Type 0} → (A → ℕ) → List A → ℕ → ℕ → Type 0
FirstFrom {A} step_of items count step = (place : ℕ) (item : A) → place < count → slice_get items place ≡ Some item → step ≤ step_of item

pub none_from : {A : Type 0} (step_of : A → ℕ) (items : List A) (step : ℕ) → FirstFrom step_of items 0 step
none_from step_of items step place item near there = absurd (omega (arith, near))

pub one_from : {A : Type 0} (step_of : A → ℕ) (items : List A) (count step next : ℕ) (one : A) → slice_get items count ≡ Some one → next ≤ step
    → next ≤ step_of one → FirstFrom step_of items count step → FirstFrom step_of items (count + 1) next
one_from step_of items count step next one at least here first place item near there = by (nat_lt place count) refl
  where
    by : (less : Bool) → nat_lt place count ≡ less → next ≤ step_of item
    by true is = let far = first place item (grind (arith, nat_tests, is)) there in omega (arith, least, far)
    by false is =
        let same : count ≡ place = let far : count ≤ place = grind (arith, nat_tests, is) in omega (arith, far, near) in
        subst (λ it. next ≤ step_of it) (same_Some one item (sym at ∙ ap (slice_get items) same ∙ there)) here

pub all_from : {A : Type 0} (step_of : A → ℕ) (items : List A) (count step : ℕ) → length items ≤ count → FirstFrom step_of items count step
    → (place : ℕ) (item : A) → slice_get items place ≡ Some item → step ≤ step_of item
all_from step_of items count step many first place item there =
    first place item (let within = slice_get_within items place item there in omega (arith, within, many)) there

-- ---- of what is kept

lower_in : (entry : Option StepRecord) (step next : ℕ) → next ≤ step → IsFrom step entry → IsFrom next entry
lower_in None step next least is = omega (arith, least, is)
lower_in (Some kept) step next least from = λ place one there. let far = from place one there in omega (arith, least, far)

-- so of those from a place on and before another
abbrev pub KeptBetween : List (Option StepRecord) → ℕ → ℕ → ℕ → Type 0
KeptBetween was behind count step =
    (place : ℕ) (entry : Option StepRecord) → behind ≤ place → place < count → slice_get was place ≡ Some entry → IsFrom step entry

pub one_kept : (was : List (Option StepRecord)) (behind count step next : ℕ) (one : Option StepRecord) → slice_get was count ≡ Some one → next ≤ step
    → (here : ℕ) → next ≤ here → IsFrom here one → KeptBetween was behind count step → KeptBetween was behind (count + 1) next
one_kept was behind count step next one at least here less from first place entry after near there = by (nat_lt place count) refl
  where
    by : (before : Bool) → nat_lt place count ≡ before → IsFrom next entry
    by true is = lower_in entry step next least (first place entry after (grind (arith, nat_tests, is)) there)
    by false is =
        let same : count ≡ place = let far : count ≤ place = grind (arith, nat_tests, is) in omega (arith, far, near) in
        subst (IsFrom next) (same_Some one entry (sym at ∙ ap (slice_get was) same ∙ there)) (lower_in one here next less from)

pub all_kept : (was : List (Option StepRecord)) (behind count step : ℕ) → length was ≤ count → KeptBetween was behind count step
    → AreKeptOf step behind was
all_kept was behind count step many first place entry after there =
    first place entry after (let within = slice_get_within was place entry there in omega (arith, within, many)) there

-- ---- of both

pub reach_by : (cells : List Cell) (was : List (Option StepRecord)) (behind one other step : ℕ) → AreFrom one cells → AreKeptOf other behind was
    → step ≤ one → step ≤ other → ReachFrom cells was behind step
reach_by cells was behind one other step named kept first second = record {
  named = λ place cell there. let far = named place cell there in omega (arith, first, far);
  kept = λ place entry after there. lower_in entry other step second (kept place entry after there);
}

pub reach_lower : (cells : List Cell) (was : List (Option StepRecord)) (behind step next : ℕ) → next ≤ step → ReachFrom cells was behind step
    → ReachFrom cells was behind next
reach_lower cells was behind step next least reach = reach_by cells was behind step step next reach.named reach.kept least least
