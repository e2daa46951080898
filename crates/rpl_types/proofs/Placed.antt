-- Functions, of which the first of each name is found by its place.
use Rattle.rw_base.proofs.Common.{◌≡◌, ℕ, suc, Bool, true, false, List, [], ◌∷◌, ◌++◌, length, Option, None, Some, bytes_eq, refl, sym, ap, ◌∙◌, Bor}
use Rattle.rw_base.proofs.Common.{bytes_eq-Decides, if◌then◌else◌, is_some, option_and_then, option_map, slice_get, slice_get_read}
use Rattle.rpl_scope.specs.Scope.{first_named}
use Rattle.rpl_types.specs.Functions as F
use Rattle.rpl_types.specs.Functions.{signature_named}
use Rattle.rpl_types.specs.Seen.{AreFirst, function_place, signature_of, signatures_of, with_first}
use Rattle.rpl_types.specs.declared.functions.Signature.{Signature}

-- the function in a place, if there is a place
abbrev pub in_place : List Signature → Option ℕ → Option F.Signature
in_place all place = option_map signature_of (option_and_then (slice_get all) place)

one_more : (s : Signature) (all : List Signature) (place : Option ℕ) → in_place (s ∷ all) (option_map suc place) ≡ in_place all place
one_more s all None = refl
one_more s all (Some place) = refl

in_first_place : (test : Bool) (s : Signature) (all : List Signature) (x : List ℕ)
    → in_place all (function_place all x) ≡ signature_named (signatures_of all) x
    → in_place (s ∷ all) (if test then Some 0 else option_map suc (function_place all x))
    ≡ (if test then Some (signature_of s) else signature_named (signatures_of all) x)
in_first_place true s all x rest = refl
in_first_place false s all x rest = one_more s all (function_place all x) ∙ rest

pub found_in_place : (all : List Signature) (x : List ℕ) → in_place all (function_place all x) ≡ signature_named (signatures_of all) x
found_in_place [] x = refl
found_in_place (s ∷ all) x = in_first_place (bytes_eq s.name.now x) s all x (found_in_place all x)

-- the function that a slice lends at a place
pub item_at : (all : List Signature) (place : ℕ) (item : Option (Bor Signature))
    → option_map (λ (found : Bor Signature). found.now) item ≡ slice_get all place
    → option_map (λ (found : Bor Signature). signature_of found.now) item ≡ in_place all (Some place)
item_at all place None lent = ap (option_map signature_of) lent
item_at all place (Some found) lent = ap (option_map signature_of) lent

-- ---- one more function, behind all others

-- a place, or else another one
abbrev pub place_or : Option ℕ → Option ℕ → Option ℕ
place_or None other = other
place_or (Some place) other = Some place

abbrev last_place : Bool → ℕ → Option ℕ
last_place test place = if test then Some place else None

one_further : (place : Option ℕ) (test : Bool) (n : ℕ)
    → option_map suc (place_or place (last_place test n)) ≡ place_or (option_map suc place) (last_place test (suc n))
one_further None true n = refl
one_further None false n = refl
one_further (Some place) test n = refl

alone : (test : Bool) → (if test then Some 0 else option_map suc None) ≡ last_place test 0
alone true = refl
alone false = refl

behind : (first test : Bool) (n : ℕ) (place longer : Option ℕ) → longer ≡ place_or place (last_place test n)
    → (if first then Some 0 else option_map suc longer) ≡ place_or (if first then Some 0 else option_map suc place) (last_place test (suc n))
behind true test n place longer rest = refl
behind false test n place longer rest = ap (option_map suc) rest ∙ one_further place test n

pub with_last : (all : List Signature) (s : Signature) (x : List ℕ)
    → function_place (all ++ s ∷ []) x ≡ place_or (function_place all x) (last_place (bytes_eq s.name.now x) (length all))
with_last [] s x = alone (bytes_eq s.name.now x)
with_last (t ∷ all) s x =
    behind (bytes_eq t.name.now x) (bytes_eq s.name.now x) (length all) (function_place all x) (function_place (all ++ s ∷ []) x) (with_last all s x)

-- a name that no function has yet
added : (test : Bool) (s : Signature) (all : List Signature) (places : List (List ℕ × ℕ)) (x : List ℕ) → AreFirst all places
    → first_named places s.name.now ≡ None → bytes_eq s.name.now x ≡ test
    → (if test then Some (length all) else first_named places x) ≡ place_or (function_place all x) (last_place test (length all))
added true s all places x first new same =
    let none : function_place all x ≡ None =
    ap (function_place all) (sym ((bytes_eq-Decides s.name.now x).0 same)) ∙ sym (first s.name.now) ∙ new in
    rw none refl
added false s all places x first new same = first x ∙ kept (function_place all x)
  where
    kept : (place : Option ℕ) → place ≡ place_or place None
    kept None = refl
    kept (Some place) = refl

first_with_new : (s : Signature) (all : List Signature) (places : List (List ℕ × ℕ)) → AreFirst all places
    → first_named places s.name.now ≡ None → AreFirst (all ++ s ∷ []) ((s.name.now, length all) ∷ places)
first_with_new s all places first new x =
    added (bytes_eq s.name.now x) s all places x first new refl ∙ sym (with_last all s x)

-- a name that a function has
present : (test : Bool) (place found : Option ℕ) (n : ℕ) → found ≡ place → (place ≡ None → test ≡ false)
    → found ≡ place_or place (last_place test n)
present test None found n same never = rw (never refl) same
present test (Some place) found n same never = same

first_with_known : (s : Signature) (all : List Signature) (places : List (List ℕ × ℕ)) (known : ℕ) → AreFirst all places
    → first_named places s.name.now ≡ Some known → AreFirst (all ++ s ∷ []) places
first_with_known s all places known first there x =
    present (bytes_eq s.name.now x) (function_place all x) (first_named places x) (length all) (first x)
    (λ none. never (bytes_eq s.name.now x) refl none)
    ∙ sym (with_last all s x)
  where
    never : (test : Bool) → bytes_eq s.name.now x ≡ test → function_place all x ≡ None → test ≡ false
    never true same none =
        let same_name = (bytes_eq-Decides s.name.now x).0 same in
        let both : Some known ≡ None = sym there ∙ first s.name.now ∙ ap (function_place all) same_name ∙ none in
        absurd (cc both)
    never false same none = refl

by_search : (s : Signature) (all : List Signature) (places : List (List ℕ × ℕ)) (found : Option ℕ) → AreFirst all places
    → first_named places s.name.now ≡ found
    → AreFirst (all ++ s ∷ []) (if is_some found then places else (s.name.now, length all) ∷ places)
by_search s all places None first none = first_with_new s all places first none
by_search s all places (Some known) first there = first_with_known s all places known first there

pub first_with_last : (s : Signature) (all : List Signature) (places : List (List ℕ × ℕ)) → AreFirst all places
    → AreFirst (all ++ s ∷ []) (with_first s.name.now (length all) places)
first_with_last s all places first = by_search s all places (first_named places s.name.now) first refl
