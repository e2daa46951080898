-- The median of a list that is parted in its middle.
use Rattle.std.specs.List.Sorted.{IsPermutation, IsSplitAround}
use Rattle.std.specs.Ordering.{int_cmp, is_lt}
use Rattle.std.proofs.lemmas.List.Sums.{length-filter, count_by-le-length}
use Rattle.std.proofs.lemmas.List.Sorted.{sum_by-IsPermutation, IsPermutation-sym, Contains-permutation}
use Rattle.rw_base.proofs.Common.{AllByRecursion, Contains, List, [], ◌∷◌, ◌++◌, ℕ, ◌+◌, ◌<◌, ◌≤◌, ℤ, ◌≤ℤ◌, ◌<ℤ◌, ◌≡◌, ◌∙◌, ap, sym, refl, subst, inl}
use Rattle.rw_base.proofs.Common.{inr, Some, cond, true, false}
use Rattle.rw_base.proofs.Common.{Bool, int_lt, int_le, arith, ints, filter, filter-append, length, length-append, get_or-append_seam, suc, ◌-◌, ◌/◌}
use Rattle.rw_base.proofs.Common.{le-leb, leb-true, slice_index_or}
use Rattle.rw_mrm.specs.Statistics.{count_up_to, is_half, median}
use Rattle.rw_mrm.proofs.Least.{Among, AreFrom, AreUpTo, among, least_is}

among_filter : (p : ℤ → Bool) (xs : List ℤ) (x : ℤ) → p x ≡ true → Among xs x → Among (filter p xs) x
among_filter p [] x is has = absurd has
among_filter p (y ∷ ys) x is (inl same) =
    subst (λ b. Among (cond b (y ∷ filter p ys) (filter p ys)) x) (sym (ap p same ∙ is)) (inl same)
among_filter p (y ∷ ys) x is (inr later) = by (p y) (among_filter p ys x is later)
  where
    by : (b : Bool) → Among (filter p ys) x → Among (cond b (y ∷ filter p ys) (filter p ys)) x
    by true rest = inr rest
    by false rest = rest

all_filter : (P : ℤ → Type 0) (p : ℤ → Bool) → ((x : ℤ) → p x ≡ true → P x) → (xs : List ℤ) → AllByRecursion P (filter p xs)
all_filter P p passes [] = tt
all_filter P p passes (y ∷ ys) = by (p y) refl (all_filter P p passes ys)
  where
    by : (b : Bool) → p y ≡ b → AllByRecursion P (filter p ys) → AllByRecursion P (cond b (y ∷ filter p ys) (filter p ys))
    by true is rest = (passes y is, rest)
    by false is rest = rest

-- ---- counts

count_append : (xs ys : List ℤ) (most : ℤ) → count_up_to (xs ++ ys) most ≡ count_up_to xs most + count_up_to ys most
count_append xs ys most =
    ap (λ (l : List ℤ). length l) (filter-append (λ value. int_le value most) xs ys)
    ∙ length-append (filter (λ value. int_le value most) xs) (filter (λ value. int_le value most) ys)

count_all : (xs : List ℤ) (most : ℤ) → AreUpTo most xs → count_up_to xs most ≡ length xs
count_all [] most all = refl
count_all (x ∷ xs) most all =
    let here : int_le x most ≡ true = grind (arith, ints, all.0) in
    ap (λ b. length (cond b (x ∷ filter (λ value. int_le value most) xs) (filter (λ value. int_le value most) xs))) here
    ∙ ap suc (count_all xs most all.1)

count_none : (xs : List ℤ) (low most : ℤ) → most <ℤ low → AreFrom low xs → count_up_to xs most ≡ 0
count_none [] low most less all = refl
count_none (x ∷ xs) low most less all =
    let from = all.0 in
    let here : int_le x most ≡ false = grind (arith, ints, from, less) in
    ap (λ b. length (cond b (x ∷ filter (λ value. int_le value most) xs) (filter (λ value. int_le value most) xs))) here
    ∙ count_none xs low most less all.1

count_few : (xs : List ℤ) (most : ℤ) → count_up_to xs most ≤ length xs
count_few xs most =
    let is = length-filter (λ value. int_le value most) xs in
    let few = count_by-le-length (λ value. int_le value most) xs in
    omega (arith, is, few)

count_permuted : (xs ys : List ℤ) (most : ℤ) → IsPermutation xs ys → count_up_to ys most ≡ count_up_to xs most
count_permuted xs ys most moved =
    length-filter (λ value. int_le value most) ys
    ∙ sum_by-IsPermutation (λ x. cond (int_le x most) 1 0) xs ys moved
    ∙ sym (length-filter (λ value. int_le value most) xs)

-- ---- the middle

pub record IsParted (values front : List ℤ) (middle : ℤ) (back : List ℤ) : Type 0 where
  pub moved : IsPermutation values (front ++ middle ∷ back)
  pub below : AreUpTo middle front
  pub above : AreFrom middle back
  pub less : length front + length front < length values
  pub more : length values ≤ length front + length front + 2

count_at : (values front : List ℤ) (middle : ℤ) (back : List ℤ) (most : ℤ) → IsPermutation values (front ++ middle ∷ back)
    → count_up_to values most ≡ count_up_to front most + count_up_to (middle ∷ back) most
count_at values front middle back most moved =
    sym (count_permuted values (front ++ middle ∷ back) most moved) ∙ count_append front (middle ∷ back) most

count_first : (x : ℤ) (xs : List ℤ) → 1 ≤ count_up_to (x ∷ xs) x
count_first x xs =
    let here : int_le x x ≡ true = grind (arith, ints) in
    let is : count_up_to (x ∷ xs) x ≡ suc (count_up_to xs x) =
    ap (λ b. length (cond b (x ∷ filter (λ value. int_le value x) xs) (filter (λ value. int_le value x) xs))) here in
    omega (arith, is)

half_middle : (values front : List ℤ) (middle : ℤ) (back : List ℤ) → IsParted values front middle back → is_half values middle ≡ true
half_middle values front middle back is =
    let counted = count_at values front middle back middle is.moved in
    let all = count_all front middle is.below in
    let one = count_first middle back in
    let more = is.more in
    let enough : length values ≤ count_up_to values middle + count_up_to values middle = omega (arith, counted, all, one, more) in
    le-leb (length values) (count_up_to values middle + count_up_to values middle) enough

not_below : (values front : List ℤ) (middle : ℤ) (back : List ℤ) → IsParted values front middle back → (x : ℤ) → is_half values x ≡ true → middle ≤ℤ x
not_below values front middle back is x half = by (int_lt x middle) refl
  where
    enough : length values ≤ count_up_to values x + count_up_to values x
    enough = leb-true (length values) (count_up_to values x + count_up_to values x) half

    by : (b : Bool) → int_lt x middle ≡ b → middle ≤ℤ x
    by true less =
        let low : x <ℤ middle = grind (arith, ints, less) in
        let counted = count_at values front middle back x is.moved in
        let none = count_none (middle ∷ back) middle x low (grind (arith, ints), is.above) in
        let few = count_few front x in
        let short = is.less in
        let all = enough in
        absurd (omega (arith, counted, none, few, short, all))
    by false more = grind (arith, ints, more)

middle_among : (values front : List ℤ) (middle : ℤ) (back : List ℤ) → IsPermutation values (front ++ middle ∷ back) → Among values middle
middle_among values front middle back moved =
    let all = length-append front (middle ∷ back) in
    let there : Contains (front ++ middle ∷ back) middle =
    (length front, omega (arith, all), get_or-append_seam front middle back middle) in
    among values middle (Contains-permutation (front ++ middle ∷ back) values middle
    (IsPermutation-sym values (front ++ middle ∷ back) moved) there)

pub median_parted : (values front : List ℤ) (middle : ℤ) (back : List ℤ) → IsParted values front middle back → median values ≡ Some middle
median_parted values front middle back is =
    let half = half_middle values front middle back is in
    least_is (filter (is_half values) values) middle
    (all_filter (λ x. middle ≤ℤ x) (is_half values) (not_below values front middle back is) values)
    (among_filter (is_half values) values middle half (middle_among values front middle back is.moved))

-- from what a selection says
not_less : (x y : ℤ) → is_lt (int_cmp x y) ≡ false → y ≤ℤ x
not_less x y is = by (int_lt x y) refl
  where
    by : (b : Bool) → int_lt x y ≡ b → y ≤ℤ x
    by true less = absurd (grind (arith, less, is))
    by false more = grind (arith, ints, more)

up_to : (front : List ℤ) (middle : ℤ) → ((k : ℕ) (d : ℤ) → k < length front → is_lt (int_cmp middle (slice_index_or front k d)) ≡ false)
    → AreUpTo middle front
up_to [] middle no_less = tt
up_to (x ∷ xs) middle no_less =
    let here = no_less 0 x (omega arith) in
    (not_less middle x here, up_to xs middle (λ k d lt. no_less (suc k) d (omega (arith, lt))))

from : (back : List ℤ) (middle : ℤ) → ((k : ℕ) (d : ℤ) → k < length back → is_lt (int_cmp (slice_index_or back k d) middle) ≡ false)
    → AreFrom middle back
from [] middle no_less = tt
from (x ∷ xs) middle no_less =
    let here = no_less 0 x (omega arith) in
    (not_less x middle here, from xs middle (λ k d lt. no_less (suc k) d (omega (arith, lt))))

pub parted : (values front : List ℤ) (middle : ℤ) (back : List ℤ) → IsPermutation values (front ++ middle ∷ back)
    → length front ≡ (length values - 1) / 2 → 1 ≤ length values
    → IsSplitAround int_cmp front middle back → IsParted values front middle back
parted values front middle back moved short some split = record {
  moved = moved;
  below = up_to front middle split.0;
  above = from back middle split.1;
  less = omega (arith, short, some);
  more = omega (arith, short, some);
}
