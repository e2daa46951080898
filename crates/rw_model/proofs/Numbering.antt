-- Which number an object's slots have, and what stands under a number.
use Rattle.rw_base.proofs.Common.{◌≡◌, ◌≢◌, ℕ, zero, suc, ◌+◌, ◌-◌, ◌<◌, ◌≤◌, List, [], ◌∷◌, ◌++◌, length, Bool, false, Option, Some, None, refl, sym}
use Rattle.rw_base.proofs.Common.{ap, subst, ◌∙◌, arith, slice_index_or, ◌⊎◌, All, take, slice_get, if◌then◌else◌, option_map, option_and_then}
use Rattle.rw_base.proofs.Common.{slice_get_within, get_or_from_slice_get, inl, inr, ⊎_elim}
use Rattle.std.proofs.lemmas.List.{length-append}
use Rattle.rw_model.specs.declared.kind.Kind.{Kind}
use Rattle.rw_model.specs.Slot.{Slot}
use Rattle.rw_model.specs.Slots.{slots_of, slot_in}
use Rattle.rw_model.proofs.Numbered.{numbered-found, numbered-known}
use Rattle.rw_model.specs.Objects.{Object, Placed, placed_from, slots_from, all_slots, first_from, object_at, is_in_place, is_named}
use Rattle.rw_model.specs.declared.place.Place.{Place}
use Rattle.rw_model.specs.Kept.{firsts_from, place_of}

-- ---- before an object's own slots stand those of the objects before it

pub length-firsts_from : (number before : ℕ) (objects : List Object) → length (firsts_from number before objects) ≡ length objects
length-firsts_from number before [] = refl
length-firsts_from number before (o ∷ objects) =
    let rest = length-firsts_from (number + 1) (before + length (placed_from number 0 (slots_of o.kind))) objects in omega (arith, rest)

pub get_or-firsts_from : (number before : ℕ) (objects : List Object) (k d : ℕ) → k < length objects
    → slice_index_or (firsts_from number before objects) k d ≡ before + length (slots_from number (take k objects))
get_or-firsts_from number before [] k d within = omega arith
get_or-firsts_from number before (o ∷ objects) zero d within = omega arith
get_or-firsts_from number before (o ∷ objects) (suc k) d within =
    let own = placed_from number 0 (slots_of o.kind) in
    let rest = get_or-firsts_from (number + 1) (before + length own) objects k d (omega arith) in
    omega (arith, rest, length-append own (slots_from (number + 1) (take k objects)))

pub some_slots : (number : ℕ) (objects : List Object) (k : ℕ) → length (slots_from number (take k objects)) ≤ length (slots_from number objects)
some_slots number [] zero = omega arith
some_slots number [] (suc k) = omega arith
some_slots number (o ∷ objects) zero = omega arith
some_slots number (o ∷ objects) (suc k) =
    let own = placed_from number 0 (slots_of o.kind) in
    omega (
      arith,
      some_slots (number + 1) objects k,
      length-append own (slots_from (number + 1) (take k objects)),
      length-append own (slots_from (number + 1) objects),
    )

-- ---- a slot of one object is found among that object's own slots

-- no slot passes the test
abbrev pub IsPassed : (Placed → Bool) → List Placed → Type 0
IsPassed test [] = Unit {0}
IsPassed test (placed ∷ slots) = (test placed ≡ false) × IsPassed test slots

-- only slots of this object pass the test
abbrev pub IsOfOwner : ℕ → (Placed → Bool) → Type 0
IsOfOwner owner test = (placed : Placed) → placed.owner ≢ owner → test placed ≡ false

passed-placed : (test : Placed → Bool) (owner number place : ℕ) (slots : List (Option Slot)) → IsOfOwner owner test → number ≢ owner
    → IsPassed test (placed_from number place slots)
passed-placed test owner number place [] of other = tt
passed-placed test owner number place (None ∷ slots) of other = passed-placed test owner number (place + 1) slots of other
passed-placed test owner number place (Some slot ∷ slots) of other = (of _ other, passed-placed test owner number (place + 1) slots of other)

passed-append : (test : Placed → Bool) (xs ys : List Placed) → IsPassed test xs → IsPassed test ys → IsPassed test (xs ++ ys)
passed-append test [] ys p q = q
passed-append test (x ∷ xs) ys p q = (p.0, passed-append test xs ys p.1 q)

passed-slots : (test : Placed → Bool) (owner number : ℕ) (objects : List Object) → IsOfOwner owner test → owner < number
    → IsPassed test (slots_from number objects)
passed-slots test owner number [] of later = tt
passed-slots test owner number (o ∷ objects) of later =
    let other : number ≢ owner = omega arith in
    let behind : owner < number + 1 = omega arith in
    passed-append test _ _ (passed-placed test owner number 0 (slots_of o.kind) of other) (passed-slots test owner (number + 1) objects of behind)

first_from-passed : (n : ℕ) (test : Placed → Bool) (xs : List Placed) → IsPassed test xs → first_from n test xs ≡ None
first_from-passed n test [] p = refl
first_from-passed n test (x ∷ xs) p = rw p.0 (first_from-passed (n + 1) test xs p.1)

first_from-before : (n : ℕ) (test : Placed → Bool) (xs ys : List Placed) → IsPassed test ys → first_from n test (xs ++ ys) ≡ first_from n test xs
first_from-before n test [] ys p = first_from-passed n test ys p
first_from-before n test (x ∷ xs) ys p = ap (λ rest. if test x then Some n else rest) (first_from-before (n + 1) test xs ys p)

first_from-behind : (n : ℕ) (test : Placed → Bool) (xs ys : List Placed) → IsPassed test xs
    → first_from n test (xs ++ ys) ≡ first_from (n + length xs) test ys
first_from-behind n test [] ys p =
    let same : n ≡ n + 0 = omega arith in ap (λ m. first_from m test ys) same
first_from-behind n test (x ∷ xs) ys p =
    let same : (n + 1) + length xs ≡ n + length (x ∷ xs) = omega arith in
    rw p.0 (first_from-behind (n + 1) test xs ys p.1 ∙ ap (λ m. first_from m test ys) same)

pub first_from-own : (n : ℕ) (test : Placed → Bool) (owner number : ℕ) (objects : List Object) (k : ℕ) (object : Object)
    → IsOfOwner owner test → owner ≡ number + k → slice_get objects k ≡ Some object
    → first_from n test (slots_from number objects)
    ≡ first_from (n + length (slots_from number (take k objects))) test (placed_from owner 0 (slots_of object.kind))
first_from-own n test owner number [] k object of at found = absurd (cc)
first_from-own n test owner number (o ∷ objects) zero object of at found =
    let same : o ≡ object = cc in
    let own : number ≡ owner = omega (arith, at) in
    let behind : owner < number + 1 = omega (arith, at) in
    let start : n ≡ n + 0 = omega arith in
    first_from-before n test (placed_from number 0 (slots_of o.kind)) (slots_from (number + 1) objects)
    (passed-slots test owner (number + 1) objects of behind)
    ∙ ap (λ m. first_from n test (placed_from m 0 (slots_of o.kind))) own
    ∙ ap (λ (x : Object). first_from n test (placed_from owner 0 (slots_of x.kind))) same
    ∙ ap (λ m. first_from m test (placed_from owner 0 (slots_of object.kind))) start
first_from-own n test owner number (o ∷ objects) (suc k) object of at found =
    let own = placed_from number 0 (slots_of o.kind) in
    let other : number ≢ owner = omega (arith, at) in
    let next : owner ≡ (number + 1) + k = omega (arith, at) in
    let start : (n + length own) + length (slots_from (number + 1) (take k objects)) ≡ n + length (own ++ slots_from (number + 1) (take k objects)) =
    omega (arith, length-append own (slots_from (number + 1) (take k objects))) in
    first_from-behind n test own (slots_from (number + 1) objects) (passed-placed test owner number 0 (slots_of o.kind) of other)
    ∙ first_from-own (n + length own) test owner (number + 1) objects k object of next found
    ∙ ap (λ m. first_from m test (placed_from owner 0 (slots_of object.kind))) start

-- ---- what stands under a number

-- a slot of one object is its kind's slot in that place
placed-stands : (owner place : ℕ) (slots : List (Option Slot)) (k : ℕ) (p : Placed) → slice_get (placed_from owner place slots) k ≡ Some p
    → (j : ℕ) × (p.owner ≡ owner) × (p.place ≡ place + j) × (slice_index_or slots j None ≡ Some p.slot)
placed-stands owner place [] k p found = absurd (cc)
placed-stands owner place (None ∷ slots) k p found =
    let rest = placed-stands owner (place + 1) slots k p found in (suc rest.0, rest.1, omega (arith, rest.2), rest.3)
placed-stands owner place (Some slot ∷ slots) zero p found =
    let same : record { owner = owner; place = place; slot = slot } ≡ p = cc in
    let placed : p.place ≡ place = ap (λ (x : Placed). x.place) (sym same) in
    (0, ap (λ (x : Placed). x.owner) (sym same), omega (arith, placed), ap (λ (x : Placed). Some x.slot) same)
placed-stands owner place (Some slot ∷ slots) (suc k) p found =
    let rest = placed-stands owner (place + 1) slots k p found in (suc rest.0, rest.1, omega (arith, rest.2), rest.3)

either_part : (xs ys : List Placed) (k : ℕ) (p : Placed) → slice_get (xs ++ ys) k ≡ Some p
    → (slice_get xs k ≡ Some p) ⊎ ((j : ℕ) × (slice_get ys j ≡ Some p))
either_part [] ys k p found = inr (k, found)
either_part (x ∷ xs) ys zero p found = inl found
either_part (x ∷ xs) ys (suc k) p found = either_part xs ys k p found

slots-stand : (number : ℕ) (objects : List Object) (k : ℕ) (p : Placed) → slice_get (slots_from number objects) k ≡ Some p
    → (j : ℕ) × (object : Object) × (p.owner ≡ number + j) × (slice_get objects j ≡ Some object) × (slot_in object.kind p.place ≡ Some p.slot)
slots-stand number [] k p found = absurd (cc)
slots-stand number (o ∷ objects) k p found = ⊎_elim
    (λ own.
    let stands = placed-stands number 0 (slots_of o.kind) k p own in
    let place : p.place ≡ stands.0 = omega (arith, stands.2) in
    (0, o, omega (arith, stands.1), refl, ap (λ q. slice_index_or (slots_of o.kind) q None) place ∙ stands.3))
    (λ later.
    let stands = slots-stand (number + 1) objects later.0 p later.1 in
    (suc stands.0, stands.1, omega (arith, stands.2), stands.3, stands.4))
    (either_part (placed_from number 0 (slots_of o.kind)) (slots_from (number + 1) objects) k p found)

-- the owner of a slot exists, and has that slot in that place
pub record StandsAt (objects : List Object) (k : ℕ) (place : Place) : Type 0 where
  pub first : 1 ≤ place.owner
  pub last : place.owner ≤ length objects
  pub slot : option_and_then (λ (object : Object). slot_in object.kind place.place) (object_at objects place.owner)
      ≡ option_map (λ (placed : Placed). placed.slot) (slice_get (all_slots objects) k)

stands_at : (objects : List Object) (k : ℕ) (place : Place) (found : Option Placed) → slice_get (all_slots objects) k ≡ found
    → option_map place_of found ≡ Some place → StandsAt objects k place
stands_at objects k place None found stored = absurd (cc)
stands_at objects k place (Some p) found stored =
    let same : place_of p ≡ place = cc in
    let stands = slots-stand 1 objects k p found in
    let owner : p.owner ≡ place.owner = ap (λ (x : Place). x.owner) same in
    let here : place.owner - 1 ≡ stands.0 = omega (arith, stands.2, owner) in
    let within = slice_get_within objects stands.0 stands.1 stands.3 in
    let first : 1 ≤ place.owner = omega (arith, stands.2, owner) in
    record {
      first = first;
      last = omega (arith, stands.2, owner, within);
      slot = ap (option_and_then (λ (object : Object). slot_in object.kind place.place)) (numbered-known objects place.owner first)
          ∙ ap (λ n. option_and_then (λ (object : Object). slot_in object.kind place.place) (slice_get objects n)) here
          ∙ ap (option_and_then (λ (object : Object). slot_in object.kind place.place)) stands.3
          ∙ ap (λ (x : Place). slot_in stands.1.kind x.place) (sym same)
          ∙ stands.4
          ∙ ap (option_map (λ (placed : Placed). placed.slot)) (sym found);
    }

pub StandsAt-stored : (objects : List Object) (k : ℕ) (place : Place) → option_map place_of (slice_get (all_slots objects) k) ≡ Some place
    → StandsAt objects k place
StandsAt-stored objects k place stored = stands_at objects k place (slice_get (all_slots objects) k) refl stored

few_at : (objects : List Object) (k : ℕ) (kind : Kind) (found : Option Object) → slice_get objects k ≡ found
    → All (λ (object : Object). length (slots_of object.kind) ≤ 11) objects → option_map (λ (object : Object). object.kind) found ≡ Some kind
    → length (slots_of kind) ≤ 11
few_at objects k kind None found all seen = absurd (cc)
few_at objects k kind (Some object) found all seen =
    let same : object.kind ≡ kind = cc in
    let here =
    subst (λ (x : Object). length (slots_of x.kind) ≤ 11) (get_or_from_slice_get objects k object object found)
    (all k object (slice_get_within objects k object found)) in
    subst (λ x. length (slots_of x) ≤ 11) same here

-- each object's kind has few places where all have
pub few-places-at : (objects : List Object) (k : ℕ) (kind : Kind) → All (λ (object : Object). length (slots_of object.kind) ≤ 11) objects
    → option_map (λ (object : Object). object.kind) (slice_get objects k) ≡ Some kind → length (slots_of kind) ≤ 11
few-places-at objects k kind all seen = few_at objects k kind (slice_get objects k) refl all seen

own_slots : (objects : List Object) (owner : ℕ) (kind : Kind) (test : Placed → Bool) (before : ℕ) (found : Option Object)
    → object_at objects owner ≡ found → 1 ≤ owner → IsOfOwner owner test → option_map (λ (object : Object). object.kind) found ≡ Some kind
    → before ≡ length (slots_from 1 (take (owner - 1) objects))
    → first_from (before + 1) test (placed_from owner 0 (slots_of kind)) ≡ first_from 1 test (all_slots objects)
own_slots objects owner kind test before None found first of seen counted = absurd (cc)
own_slots objects owner kind test before (Some object) found first of seen counted =
    let same : kind ≡ object.kind = cc in
    let at : owner ≡ 1 + (owner - 1) = omega (arith, first) in
    let start : before + 1 ≡ 1 + length (slots_from 1 (take (owner - 1) objects)) = omega (arith, counted) in
    ap (λ x. first_from (before + 1) test (placed_from owner 0 (slots_of x))) same
    ∙ ap (λ n. first_from n test (placed_from owner 0 (slots_of object.kind))) start
    ∙ sym (first_from-own 1 test owner 1 objects (owner - 1) object of at (numbered-found objects owner object found))

-- what is found among an object's own slots is what is found among all
pub first_from-all_slots : (objects : List Object) (owner : ℕ) (kind : Kind) (test : Placed → Bool) (before : ℕ)
    → 1 ≤ owner → IsOfOwner owner test → option_map (λ (object : Object). object.kind) (object_at objects owner) ≡ Some kind
    → before ≡ length (slots_from 1 (take (owner - 1) objects))
    → first_from (before + 1) test (placed_from owner 0 (slots_of kind)) ≡ first_from 1 test (all_slots objects)
first_from-all_slots objects owner kind test before = own_slots objects owner kind test before (object_at objects owner) refl

pub IsOfOwner-is_in_place : (owner place : ℕ) → IsOfOwner owner (is_in_place owner place)
IsOfOwner-is_in_place owner place placed other = grind arith

pub IsOfOwner-is_named : (owner : ℕ) (name : List ℕ) → IsOfOwner owner (is_named owner name)
IsOfOwner-is_named owner name placed other = grind arith
