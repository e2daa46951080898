-- Lists, options and tests: what the library leaves out.
use Rattle.rw_base.proofs.Common.{AllByRecursion, Bool, IsSome, List, None, Option, Some, [], ap, arith, drop, false, get_or_from_slice_get}
use Rattle.rw_base.proofs.Common.{is_some, length, map, none-some, option_or, refl, set, slice_get, slice_get_within, suc, sym, true, zero, ℕ, ◌&&◌}
use Rattle.rw_base.proofs.Common.{◌++◌, ◌+◌, ◌<◌, ◌||◌, ◌∙◌, ◌∷◌, ◌≡◌}
use Rattle.std.proofs.Math.Seq.{drop-cons}

-- ---- what is so of each element

pub weaker_all : {A : Type 0} (P Q : A → Type 0) (xs : List A) → ((x : A) → P x → Q x) → AllByRecursion P xs → AllByRecursion Q xs
weaker_all P Q [] f all = tt
weaker_all P Q (x ∷ xs) f all = (f x all.0, weaker_all P Q xs f all.1)

pub both_all : {A : Type 0} (P Q : A → Type 0) (xs : List A) → AllByRecursion P xs → AllByRecursion Q xs → AllByRecursion (λ x. P x × Q x) xs
both_all P Q [] p q = tt
both_all P Q (x ∷ xs) p q = ((p.0, q.0), both_all P Q xs p.1 q.1)

pub all_append : {A : Type 0} (P : A → Type 0) (xs ys : List A) → AllByRecursion P xs → AllByRecursion P ys → AllByRecursion P (xs ++ ys)
all_append P [] ys p q = q
all_append P (x ∷ xs) ys p q = (p.0, all_append P xs ys p.1 q)

pub mapped_all : {A B : Type 0} (P : B → Type 0) (f : A → B) (xs : List A) → AllByRecursion (λ x. P (f x)) xs → AllByRecursion P (map f xs)
mapped_all P f [] all = tt
mapped_all P f (x ∷ xs) all = (all.0, mapped_all P f xs all.1)

-- ---- what stands in a place

pub got_in_front : {A : Type 0} (xs ys : List A) (place : ℕ) → place < length xs → slice_get (xs ++ ys) place ≡ slice_get xs place
got_in_front [] ys place within = absurd (omega (arith, within))
got_in_front (x ∷ xs) ys zero within = refl
got_in_front (x ∷ xs) ys (suc place) within = let near : place < length xs = omega (arith, within) in got_in_front xs ys place near

pub got_last : {A : Type 0} (xs : List A) (last : A) → slice_get (xs ++ last ∷ []) (length xs) ≡ Some last
got_last [] last = refl
got_last (x ∷ xs) last = got_last xs last

pub got_set : {A : Type 0} (xs : List A) (place : ℕ) (new : A) → place < length xs → slice_get (set xs place new) place ≡ Some new
got_set [] place new within = absurd (omega (arith, within))
got_set (x ∷ xs) zero new within = refl
got_set (x ∷ xs) (suc place) new within = got_set xs place new (omega (arith, within))

pub got_within : {A : Type 0} (xs : List A) (place : ℕ) → place < length xs → (x : A) × (slice_get xs place ≡ Some x)
got_within [] place within = absurd (omega (arith, within))
got_within (x ∷ xs) zero within = (x, refl)
got_within (x ∷ xs) (suc place) within = let near : place < length xs = omega (arith, within) in got_within xs place near

-- the list from a place on begins with what stands there
pub dropped_to : {A : Type 0} (xs : List A) (place : ℕ) (x : A) → slice_get xs place ≡ Some x → drop place xs ≡ x ∷ drop (place + 1) xs
dropped_to xs place x at =
    let next : suc place ≡ place + 1 = omega arith in
    drop-cons xs place x (slice_get_within xs place x at)
    ∙ ap (λ first. first ∷ drop (suc place) xs) (get_or_from_slice_get xs place x x at)
    ∙ ap (λ n. x ∷ drop n xs) next

-- ---- options

pub some_there : {A : Type 0} (found : Option A) → IsSome found → (thing : A) × (found ≡ Some thing)
some_there None some = absurd (cc)
some_there (Some thing) some = (thing, refl)

pub none_there : {A : Type 0} (found : Option A) → is_some found ≡ false → found ≡ None
none_there None none = refl
none_there (Some thing) none = absurd (cc)

pub option_or_joined : {A : Type 0} (a b c : Option A) → option_or (option_or a b) c ≡ option_or a (option_or b c)
option_or_joined None b c = refl
option_or_joined (Some x) b c = refl

pub neither_there : {A : Type 0} (a b : Option A) → option_or a b ≡ None → (a ≡ None) × (b ≡ None)
neither_there None b none = (refl, none)
neither_there (Some x) b none = absurd (none-some x (sym none))

-- ---- tests

pub or_second : (a b : Bool) → b ≡ true → (a || b) ≡ true
or_second true b passes = refl
or_second false b passes = passes

pub and_second_fails : (a b : Bool) → b ≡ false → (a && b) ≡ false
and_second_fails true b fails = fails
and_second_fails false b fails = refl
