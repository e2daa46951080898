-- What holds of each element of a list, by recursion.
use Rattle.rw_order.proofs.Common.{AllByRecursion, Bool, List, [], false, filter, if◌then◌else◌, true, ◌++◌, ◌∷◌}

pub all_left : {A : Type 0} (P : A → Type 0) (xs ys : List A) → AllByRecursion P (xs ++ ys) → AllByRecursion P xs
all_left P [] ys all = tt
all_left P (x ∷ xs) ys all = (all.0, all_left P xs ys all.1)

pub all_right : {A : Type 0} (P : A → Type 0) (xs ys : List A) → AllByRecursion P (xs ++ ys) → AllByRecursion P ys
all_right P [] ys all = all
all_right P (x ∷ xs) ys all = all_right P xs ys all.1

all_if : {A : Type 0} (P : A → Type 0) (test : Bool) (xs ys : List A) → AllByRecursion P xs → AllByRecursion P ys
    → AllByRecursion P (if test then xs else ys)
all_if P true xs ys first second = first
all_if P false xs ys first second = second

pub all_kept : {A : Type 0} (P : A → Type 0) (p : A → Bool) (xs : List A) → AllByRecursion P xs → AllByRecursion P (filter p xs)
all_kept P p [] all = tt
all_kept P p (x ∷ xs) all =
    all_if P (p x) (x ∷ filter p xs) (filter p xs) (all.0, all_kept P p xs all.1) (all_kept P p xs all.1)
