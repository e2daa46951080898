-- Filters, and how often a number stands in a list.
use Rattle.rw_base.proofs.Common.{◌≡◌, ◌<◌, ◌+◌, ◌==◌, ℕ, zero, suc, Bool, true, false, not, ◌&&◌, cond, List, [], ◌∷◌, ◌++◌, nat_lt, refl, ap, arith}
use Rattle.rw_base.proofs.Common.{filter, list_any, nat_tests}
use Rattle.rw_run.specs.Times.{times}
use Rattle.rw_run.specs.Waiting.{numbers}

pub filter-same : {X : Type 0} (p q : X → Bool) (xs : List X) → ((x : X) → p x ≡ q x) → filter p xs ≡ filter q xs
filter-same p q [] same = refl
filter-same p q (x ∷ xs) same = rw (same x) (ap (λ ys. cond (q x) (x ∷ ys) ys) (filter-same p q xs same))

both : {X : Type 0} (p : X → Bool) (x : X) (a b : Bool) (xs ys : List X) → p x ≡ a → xs ≡ filter p ys
    → cond (a && b) (x ∷ xs) xs ≡ filter p (cond b (x ∷ ys) ys)
both p x true true xs ys e h = rw e (ap (λ zs. x ∷ zs) h)
both p x false true xs ys e h = rw e h
both p x true false xs ys e h = h
both p x false false xs ys e h = h

pub filter-filter : {X : Type 0} (p q : X → Bool) (xs : List X) → filter (λ x. p x && q x) xs ≡ filter p (filter q xs)
filter-filter p q [] = refl
filter-filter p q (x ∷ xs) = both p x (p x) (q x) (filter (λ y. p y && q y) xs) (filter q xs) refl (filter-filter p q xs)

pub times-append : (a : ℕ) (xs ys : List ℕ) → times a (xs ++ ys) ≡ times a xs + times a ys
times-append a [] ys = omega arith
times-append a (x ∷ xs) ys = grind (arith, times-append a xs ys)

kept : (a x : ℕ) (p : ℕ → Bool) (b : Bool) (xs ys : List ℕ) → p x ≡ b → times a ys ≡ cond (p a) (times a xs) 0
    → times a (cond b (x ∷ ys) ys) ≡ cond (p a) (cond (a == x) 1 0 + times a xs) 0
kept a x p true xs ys e h = grind (arith, nat_tests)
kept a x p false xs ys e h = grind (arith, nat_tests)

pub times-filter : (a : ℕ) (p : ℕ → Bool) (xs : List ℕ) → times a (filter p xs) ≡ cond (p a) (times a xs) 0
times-filter a p [] = grind arith
times-filter a p (x ∷ xs) = kept a x p (p x) xs (filter p xs) refl (times-filter a p xs)

pub times-numbers : (a count : ℕ) → times a (numbers count) ≡ cond (nat_lt 0 a && nat_lt a (count + 1)) 1 0
times-numbers a zero = grind (arith, nat_tests)
times-numbers a (suc count) =
    let e = times-append a (numbers count) (suc count ∷ []) in
    let h = times-numbers a count in grind (arith, nat_tests)

without_step : (a x : ℕ) (b : Bool) (xs ys : List ℕ) → (a == x) ≡ b → cond b 1 0 + times a xs ≡ 0 → (times a xs ≡ 0 → ys ≡ xs)
    → cond (not b) (x ∷ ys) ys ≡ x ∷ xs
without_step a x true xs ys e h rest = absurd (omega arith)
without_step a x false xs ys e h rest = ap (λ zs. x ∷ zs) (rest (omega arith))

pub without : (a : ℕ) (xs : List ℕ) → times a xs ≡ 0 → filter (λ x. not (a == x)) xs ≡ xs
without a [] h = refl
without a (x ∷ xs) h = without_step a x (a == x) xs (filter (λ y. not (a == y)) xs) refl h (without a xs)

pub none-kept : (xs : List ℕ) → filter (λ x. false) xs ≡ []
none-kept [] = refl
none-kept (x ∷ xs) = none-kept xs

pub all-kept : (xs : List ℕ) → filter (λ x. true) xs ≡ xs
all-kept [] = refl
all-kept (x ∷ xs) = ap (λ ys. x ∷ ys) (all-kept xs)

-- two tests that agree on the elements
pub filter-within : (p q : ℕ → Bool) (xs : List ℕ) → ((x : ℕ) → 0 < times x xs → p x ≡ q x) → filter p xs ≡ filter q xs
filter-within p q [] h = refl
filter-within p q (x ∷ xs) h =
    let e : p x ≡ q x = h x (grind (arith, nat_tests)) in
    rw e (ap (λ ys. cond (q x) (x ∷ ys) ys) (filter-within p q xs (λ y l. h y (omega arith))))

pub any-times : (a : ℕ) (xs : List ℕ) → list_any (λ x. a == x) xs ≡ nat_lt 0 (times a xs)
any-times a [] = refl
any-times a (x ∷ xs) = let h = any-times a xs in grind (arith, nat_tests)
