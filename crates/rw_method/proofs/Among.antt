-- One of a list, and what is so of each of a list, by recursion.
use Rattle.rw_method.proofs.Common.{AllByRecursion, Contains, List, [], arith, get_or, inl, inr, length, map, refl, subst}
use Rattle.rw_method.proofs.Common.{suc, zero, ℕ, ◌++◌, ◌<◌, ◌∷◌, ◌≡◌, ◌⊎◌}

-- it is one of these
abbrev pub Among : {A : Type 0} → List A → A → Type 0
Among [] x = ⊥
Among (y ∷ ys) x = (y ≡ x) ⊎ Among ys x

among_of : {A : Type 0} (xs : List A) (x : A) (k : ℕ) → k < length xs → get_or xs k x ≡ x → Among xs x
among_of [] x k few is = absurd (omega (arith, few))
among_of (y ∷ ys) x zero few is = inl is
among_of (y ∷ ys) x (suc k) few is = inr (among_of ys x k (omega (arith, few)) is)

pub among : {A : Type 0} (xs : List A) (x : A) → Contains xs x → Among xs x
among xs x has = among_of xs x has.0 has.1 has.2

-- and back
pub contains : {A : Type 0} (xs : List A) (x : A) → Among xs x → Contains xs x
contains [] x has = absurd has
contains (y ∷ ys) x (inl same) = (0, omega arith, same)
contains (y ∷ ys) x (inr later) = let at = contains ys x later in let lt = at.1 in (suc at.0, omega (arith, lt), at.2)

pub among_left : {A : Type 0} (xs ys : List A) (x : A) → Among xs x → Among (xs ++ ys) x
among_left [] ys x has = absurd has
among_left (y ∷ xs) ys x (inl same) = inl same
among_left (y ∷ xs) ys x (inr later) = inr (among_left xs ys x later)

pub among_right : {A : Type 0} (xs ys : List A) (x : A) → Among ys x → Among (xs ++ ys) x
among_right [] ys x has = has
among_right (y ∷ xs) ys x has = inr (among_right xs ys x has)

-- ---- what is so of each

pub all_at : {A : Type 0} (P : A → Type 0) (xs : List A) (x : A) → AllByRecursion P xs → Among xs x → P x
all_at P [] x all has = absurd has
all_at P (y ∷ ys) x all (inl is) = subst P is all.0
all_at P (y ∷ ys) x all (inr later) = all_at P ys x all.1 later

-- what is so of each one of them
pub all_among : {A : Type 0} (P : A → Type 0) (xs : List A) → ((x : A) → Among xs x → P x) → AllByRecursion P xs
all_among P [] f = tt
all_among P (x ∷ xs) f = (f x (inl refl), all_among P xs (λ y has. f y (inr has)))

pub all_mapped : {A B : Type 0} (P : B → Type 0) (f : A → B) (xs : List A) → AllByRecursion P (map f xs) → AllByRecursion (λ x. P (f x)) xs
all_mapped P f [] all = tt
all_mapped P f (x ∷ xs) all = (all.0, all_mapped P f xs all.1)
