-- Which words a table of units has.
use Rattle.rw_base.proofs.Common.{◌≡◌, ◌≢◌, ◌↔◌, ℕ, zero, suc, ◌<◌, ℤ, List, [], ◌∷◌, length, Bool, true, false, Option, Some, None, refl, sym, ◌∙◌}
use Rattle.rw_base.proofs.Common.{arith, bytes_eq, if◌then◌else◌, Contains, slice_index_or, false_from_ne_true, false≢true, bytes_eq-Decides}
use Rattle.rw_base.specs.Dimension.{Dimension}
use Rattle.rw_base.specs.Unit.{words_of_units, unit_in}

-- the word differs from that of each row
abbrev pub IsNowhere : List ℕ → List (List ℕ × Dimension × ℤ) → Type 0
IsNowhere word [] = Unit {0}
IsNowhere word (row ∷ rows) = (word ≢ row.0) × IsNowhere word rows

pub unit_in-nowhere : (rows : List (List ℕ × Dimension × ℤ)) (word : List ℕ) → IsNowhere word rows → None ≡ unit_in rows word
unit_in-nowhere [] word h = refl
unit_in-nowhere (row ∷ rows) word h =
    let differs : bytes_eq row.0 word ≡ false = false_from_ne_true _ (λ e. h.0 (sym ((bytes_eq-Decides row.0 word).0 e))) in
    rw differs (unit_in-nowhere rows word h.1)

nowhere : (rows : List (List ℕ × Dimension × ℤ)) (word : List ℕ) → (Contains (words_of_units rows) word → ⊥) → IsNowhere word rows
nowhere [] word h = tt
nowhere (row ∷ rows) word h = ((λ e. h (0, omega arith, sym e)), nowhere rows word (λ found. h (suc found.0, omega arith, found.2)))

passed_over : (t : Bool) {X : Type 0} (x : X) (rest : Option X) → (if t then Some x else rest) ≡ None → (t ≡ false) × (rest ≡ None)
passed_over true x rest e = absurd (cc)
passed_over false x rest e = (refl, e)

somewhere : (rows : List (List ℕ × Dimension × ℤ)) (word : List ℕ) (k : ℕ) → k < length (words_of_units rows)
    → slice_index_or (words_of_units rows) k word ≡ word → unit_in rows word ≡ None → ⊥
somewhere [] word k h e none = omega arith
somewhere (row ∷ rows) word zero h e none = false≢true (sym (passed_over _ _ _ none).0 ∙ (bytes_eq-Decides row.0 word).1 e)
somewhere (row ∷ rows) word (suc k) h e none = somewhere rows word k (omega arith) e (passed_over _ _ _ none).1

pub unit_in_None : (rows : List (List ℕ × Dimension × ℤ)) (word : List ℕ) → unit_in rows word ≡ None ↔ (Contains (words_of_units rows) word → ⊥)
unit_in_None rows word = (λ none found. somewhere rows word found.0 found.1 found.2 none, λ h. sym (unit_in-nowhere rows word (nowhere rows word h)))
