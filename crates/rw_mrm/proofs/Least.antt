-- The least value of a list, by what it is.
use Rattle.std.specs.List.{fold}
use Rattle.std.proofs.lemmas.Int.{fold-int_min_reached}
use Rattle.rw_base.proofs.Common.{AllByRecursion, Contains, List, [], ◌∷◌, ℕ, ◌<◌, ℤ, ◌≤ℤ◌, ◌≡◌, ◌⊎◌, ap, refl, subst, sym, suc, zero, inl, inr, Some}
use Rattle.rw_base.proofs.Common.{arith, ints, get_or, length, fold-int_min_bounds, recursion_from_All, int_min, ⊎_elim}
use Rattle.rw_mrm.specs.Statistics.{least_value}

-- one of these
abbrev pub Among : List ℤ → ℤ → Type 0
Among [] x = ⊥
Among (y ∷ ys) x = (y ≡ x) ⊎ Among ys x

abbrev pub AreFrom : ℤ → List ℤ → Type 0
AreFrom low values = AllByRecursion (λ x. low ≤ℤ x) values

abbrev pub AreUpTo : ℤ → List ℤ → Type 0
AreUpTo high values = AllByRecursion (λ x. x ≤ℤ high) values

among_at : (xs : List ℤ) (x : ℤ) (k : ℕ) → k < length xs → get_or xs k x ≡ x → Among xs x
among_at [] x k few is = absurd (omega (arith, few))
among_at (y ∷ ys) x zero few is = inl is
among_at (y ∷ ys) x (suc k) few is = inr (among_at ys x k (omega (arith, few)) is)

pub among : (xs : List ℤ) (x : ℤ) → Contains xs x → Among xs x
among xs x has = among_at xs x has.0 has.1 has.2

-- what is so of each
pub all_among : (P : ℤ → Type 0) (xs : List ℤ) (x : ℤ) → AllByRecursion P xs → Among xs x → P x
all_among P [] x all has = absurd has
all_among P (y ∷ ys) x all (inl is) = subst P is all.0
all_among P (y ∷ ys) x all (inr later) = all_among P ys x all.1 later

least_of : (first : ℤ) (rest : List ℤ) (low : ℤ) → AreFrom low (first ∷ rest) → Among (first ∷ rest) low → fold int_min first (first ∷ rest) ≡ low
least_of first rest low all has =
    let r = fold int_min first (first ∷ rest) in
    let bounds = fold-int_min_bounds first (first ∷ rest) r refl in
    let below : r ≤ℤ low = all_among (λ x. r ≤ℤ x) (first ∷ rest) low (recursion_from_All (λ x. r ≤ℤ x) (first ∷ rest) bounds.1) has in
    let above : low ≤ℤ r = ⊎_elim (λ is. subst (λ z. low ≤ℤ z) (sym is) all.0)
    (λ reached. all_among (λ x. low ≤ℤ x) (first ∷ rest) r all (among (first ∷ rest) r reached)) (fold-int_min_reached first (first ∷ rest) r refl) in
    grind (arith, ints, below, above)

pub least_is : (values : List ℤ) (low : ℤ) → AreFrom low values → Among values low → least_value values ≡ Some low
least_is [] low all has = absurd has
least_is (first ∷ rest) low all has = ap Some (least_of first rest low all has)
