-- What a sink tells grows part by part.
use Rattle.rw_base.proofs.Common.{◌≡◌, ℕ, ◌+◌, List, ◌++◌, length, take, drop, min, sym, ◌∙◌, subst, arith, append_assoc, None, Some, Option, Result, Ok, Err, OnErr}
use Rattle.rw_base.proofs.Common.{take-append-le, take_min, take-add, take-append-add}
use Rattle.rw_io.specs.Known.{GrowsBy, PrefixGrew}

-- what has grown by one text and then by another has grown by both
pub GrowsBy-trans : (a b c : Option (List ℕ)) (xs ys : List ℕ) → GrowsBy a b xs → GrowsBy b c ys → GrowsBy a c (xs ++ ys)
GrowsBy-trans a b None xs ys h k = tt
GrowsBy-trans a None (Some zs) xs ys h k = absurd k
GrowsBy-trans None (Some bs) (Some zs) xs ys h k = absurd h
GrowsBy-trans (Some as') (Some bs) (Some zs) xs ys h k = rw (k, h) (append_assoc as' xs ys)

-- what has grown by a front of a text, and then by what comes next in it
pub GrowsBy-next : (a b c : Option (List ℕ)) (done n : ℕ) (text : List ℕ) → GrowsBy a b (take done text)
    → GrowsBy b c (take n (drop done text)) → GrowsBy a c (take (done + n) text)
GrowsBy-next a b c done n text h k =
    let P : List ℕ → Type 0 = λ t. GrowsBy a c t in
    subst P (sym (take-add done n text)) (GrowsBy-trans a b c (take done text) (take n (drop done text)) h k)

-- a front of the first text is one of both
pub PrefixGrew-left : (a b : Option (List ℕ)) (xs ys : List ℕ) → PrefixGrew a b xs → PrefixGrew a b (xs ++ ys)
PrefixGrew-left a b xs ys h =
    let P : List ℕ → Type 0 = λ t. GrowsBy a b t in
    let front : take (min h.0 (length xs)) (xs ++ ys) ≡ take h.0 xs = take-append-le (min h.0 (length xs)) xs ys (omega arith) ∙ take_min h.0 xs in
    (min h.0 (length xs), subst P (sym front) h.1)

-- the first text and a front of the second are a front of both
pub PrefixGrew-right : (a b c : Option (List ℕ)) (xs ys : List ℕ) → GrowsBy a b xs → PrefixGrew b c ys → PrefixGrew a c (xs ++ ys)
PrefixGrew-right a b c xs ys h k =
    let P : List ℕ → Type 0 = λ t. GrowsBy a c t in
    (length xs + k.0, subst P (sym (take-append-add xs ys k.0)) (GrowsBy-trans a b c xs (take k.0 ys) h k.1))

-- two texts, one behind the other, where the second one may break off
pub PrefixGrew-both : {T E : Type 0} (result : Result T E) (a b c : Option (List ℕ)) (xs ys : List ℕ) → GrowsBy a b xs
    → OnErr result (PrefixGrew b c ys) → OnErr result (PrefixGrew a c (xs ++ ys))
PrefixGrew-both (Ok x) a b c xs ys h k = tt
PrefixGrew-both (Err e) a b c xs ys h k = PrefixGrew-right a b c xs ys h k
