-- How long tables are.
use Rattle.rw_base.proofs.Common.{List, [], ◌∷◌, ◌++◌, ℕ, ◌+◌, ◌*◌, ◌≡◌, ◌<◌, ◌≤◌, ◌∙◌, ap, ap₂, append_assoc, arith, length, length-append}
use Rattle.rw_base.proofs.Common.{mul-le-mul_right, refl, suc, suc-eq-add-one, suc-mul, sym, zero}
use Rattle.rw_run.specs.Log.{Cells}
use Rattle.rw_report.specs.Section.{values_in}
use Rattle.rw_mrm.specs.Tally.{joined_up_to, listed_up_to, slot_values}

pub length-listed : {A : Type 0} (things : ℕ → A) (count : ℕ) → length (listed_up_to things count) ≡ count
length-listed things zero = refl
length-listed things (suc before) =
    let all = length-append (listed_up_to things before) (things (suc before) ∷ []) in
    let same = length-listed things before in
    omega (arith, all, same)

pub length-joined : {A : Type 0} (lists : ℕ → List A) (each count : ℕ) → ((k : ℕ) → length (lists k) ≡ each)
    → length (joined_up_to lists count) ≡ count * each
length-joined lists each zero same = omega arith
length-joined lists each (suc before) same =
    length-append (joined_up_to lists before) (lists (suc before))
    ∙ ap₂ (λ a b. a + b) (length-joined lists each before same) (same (suc before))
    ∙ sym (suc-mul before each)

pub next_multiple : (count each : ℕ) → (count + 1) * each ≡ count * each + each
next_multiple count each = ap (λ n. n * each) (sym (suc-eq-add-one count)) ∙ suc-mul count each

-- one more of fewer is no more
pub one_more : (before count each : ℕ) → before < count → before * each + each ≤ count * each
one_more before count each few =
    let le : suc before ≤ count = omega (arith, few) in
    let more = mul-le-mul_right each le in
    let is = suc-mul before each in
    omega (arith, more, is)

pub length-slot_values : (cells : Cells) (steps slot : ℕ) → length (slot_values cells steps slot) ≡ steps
length-slot_values cells steps slot = length-listed (λ step. values_in cells slot step) steps

-- one thing more
pub listed_next : {A : Type 0} (things : ℕ → A) (front : List A) (before : ℕ) (old new : List A) (thing : A)
    → old ≡ front ++ listed_up_to things before
    → thing ≡ things (before + 1) → new ≡ old ++ thing ∷ [] → new ≡ front ++ listed_up_to things (before + 1)
listed_next things front before old new thing is same added =
    let e = suc-eq-add-one before in
    added ∙ ap₂ (λ xs x. xs ++ x ∷ []) is (same ∙ ap things (sym e)) ∙ append_assoc front (listed_up_to things before) (things (suc before) ∷ [])
    ∙ ap (λ n. front ++ listed_up_to things n) e

-- one list more
pub joined_next : {A : Type 0} (lists : ℕ → List A) (front : List A) (before : ℕ) (old new : List A) → old ≡ front ++ joined_up_to lists before
    → new ≡ old ++ lists (before + 1) → new ≡ front ++ joined_up_to lists (before + 1)
joined_next lists front before old new is added =
    let e = suc-eq-add-one before in
    added ∙ ap₂ (λ xs ys. xs ++ ys) is (ap lists (sym e)) ∙ append_assoc front (joined_up_to lists before) (lists (suc before))
    ∙ ap (λ n. front ++ joined_up_to lists n) e
