-- Rows in order.
use Rattle.rw_base.proofs.Common.{◌≡◌, ◌∙◌, arith, ℕ, zero, suc, ◌+◌, ◌<◌, List, [], ◌∷◌, map, length, get_or, None, common_steps}
use Rattle.rpl_predef.specs.Rows.{first_wrong_row}

-- where the first place is right, so are the others
first_right : (n k : ℕ) (ks : List ℕ) → first_wrong_row n (k ∷ ks) ≡ None → (k ≡ n) × (first_wrong_row (n + 1) ks ≡ None)
first_right n k ks h = grind (arith, common_steps, h)

-- in order, each place has its own number
pub in_order : {X : Type 0} (f : X → ℕ) (xs : List X) (n i : ℕ) (d : X) → first_wrong_row n (map f xs) ≡ None → i < length xs
    → f (get_or xs i d) ≡ n + i
in_order f [] n i d h lt = absurd (omega (arith, lt))
in_order f (x ∷ xs) n zero d h lt = (first_right n (f x) (map f xs) h).0 ∙ omega arith
in_order f (x ∷ xs) n (suc i) d h lt = in_order f xs (n + 1) i d (first_right n (f x) (map f xs) h).1 (omega (arith, lt)) ∙ omega arith
