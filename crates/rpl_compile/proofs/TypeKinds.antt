-- What types that fit say of kinds: for each form the kind that it has, and what it asks of the kinds of its parts.
use Rattle.rpl_compile.proofs.Common.{And, Append, AreComparable, Bool, Boolean, ConvertWord, Datetime, Dimension, Divide, Err, FitsIn, IsAnyList}
use Rattle.rpl_compile.proofs.Common.{IsElement, Item, Kind, Known, Length, Less_by, List, ListTooLong, Minus, None, Not, Numeric, NumericList, Ok}
use Rattle.rpl_compile.proofs.Common.{OneTakes, OneWord, Option, Or, Plus, RplType, Slot, SlotList, Some, Times, TwoTakes, TwoWord, TypeKind, Typed}
use Rattle.rpl_compile.proofs.Common.{[], a_dimension, and_true, answers, ap, append_type, arith, asks, compared_type, cond_both, convert_type}
use Rattle.rpl_compile.proofs.Common.{date_kind, difference_type, element_of, element_type, false, if◌then◌else◌, inl, inr, is_boolean, is_datetime}
use Rattle.rpl_compile.proofs.Common.{item_type, join, joined_type, length, length_misfit, length_type, list_kind, list_type, longest, look_type}
use Rattle.rpl_compile.proofs.Common.{mapped_type, max, measured_in, misfit, misfit_among, nat_le, nat_lt, nat_tests, negative_type, number_kind}
use Rattle.rpl_compile.proofs.Common.{numbers_kind, one_kind, one_type, only_if, per_of, product_type, refl, refusal_order, room_of, slot_kind}
use Rattle.rpl_compile.proofs.Common.{slots_kind, sooner, sum_type, times_of, true, truth_kind, two_kind, two_type, unit_misfit, ℕ, ◌&&◌, ◌+◌, ◌<◌}
use Rattle.rpl_compile.proofs.Common.{◌∙◌, ◌∷◌, ◌≡◌, ◌≤◌, ◌⊎◌}
use Rattle.rw_base.specs.Answers.{unless_refused}

abbrev pub kind_of_rpl_type : RplType → Kind
kind_of_rpl_type (Numeric dimension) = number_kind
kind_of_rpl_type Boolean = truth_kind
kind_of_rpl_type Datetime = date_kind
kind_of_rpl_type (Slot dimension) = slot_kind
kind_of_rpl_type (NumericList room dimension) = numbers_kind room
kind_of_rpl_type (SlotList room dimension) = slots_kind room

-- ---- answers

abbrev pub typed : RplType → Typed
typed whole = Ok whole

abbrev type_or : RplType → Typed → RplType
type_or whole (Ok own) = own
type_or whole (Err kind) = whole

pub same_type : (own whole : RplType) → typed own ≡ Ok whole → own ≡ whole
same_type own whole accepted = ap (type_or own) accepted

pub same_kind : (own whole : RplType) → typed own ≡ Ok whole → kind_of_rpl_type own ≡ kind_of_rpl_type whole
same_kind own whole accepted = ap kind_of_rpl_type (same_type own whole accepted)

pub unrefused : (found : Option TypeKind) (own whole : RplType) → unless_refused found own ≡ typed whole
    → (found ≡ None) × (kind_of_rpl_type own ≡ kind_of_rpl_type whole)
unrefused None own whole same = (refl, same_kind own whole same)
unrefused (Some kind) own whole same = absurd (cc same)

pub none_of_two : (first second : Option TypeKind) → sooner first second ≡ None → (first ≡ None) × (second ≡ None)
none_of_two None second none_there = (refl, none_there)
none_of_two (Some first) None none_there = absurd (cc none_there)
none_of_two (Some first) (Some second) none_there =
    cond_both (nat_lt (refusal_order second) (refusal_order first)) (Some second) (Some first)
    (λ found. found ≡ None → (Some first ≡ None) × (Some second ≡ None))
    (λ e none_there. absurd (cc none_there)) (λ e none_there. absurd (cc none_there)) none_there

only : (test : Bool) (own whole : RplType) → only_if test own ≡ Ok whole → (test ≡ true) × (kind_of_rpl_type own ≡ kind_of_rpl_type whole)
only true own whole accepted = (refl, same_kind own whole accepted)
only false own whole accepted = absurd (cc accepted)

few : (count most : ℕ) → length_misfit count most ≡ None → count ≤ most
few count most none =
    cond_both (nat_le count most) None (Some ListTooLong) (λ found. found ≡ None → count ≤ most) (λ e h. grind (arith, nat_tests, e))
    (λ e h. absurd (cc h)) none

truth_is : (whole : RplType) → is_boolean whole ≡ true → kind_of_rpl_type whole ≡ truth_kind
truth_is Boolean holds = refl
truth_is _ holds = absurd (cc holds)

date_is : (whole : RplType) → is_datetime whole ≡ true → kind_of_rpl_type whole ≡ date_kind
date_is Datetime holds = refl
date_is _ holds = absurd (cc holds)

-- ---- one kind for another

same_or_below : (room place_room : ℕ) → room ≤ place_room → (place_room ≡ room) ⊎ (room < place_room)
same_or_below room place_room at_most = by (nat_lt room place_room) refl
  where
    by : (test : Bool) → nat_lt room place_room ≡ test → (place_room ≡ room) ⊎ (room < place_room)
    by true same = inr (grind (arith, nat_tests, same))
    by false same = inl (grind (arith, nat_tests, same, at_most))

numbers_fit : (room place_room : ℕ) → (place_room ≡ room) ⊎ (room < place_room) → FitsIn (numbers_kind place_room) (numbers_kind room)
numbers_fit room place_room (inl e) = inl (ap numbers_kind e)
numbers_fit room place_room (inr lt) = inr (place_room, room, lt, inl (refl, refl))

slots_fit : (room place_room : ℕ) → (place_room ≡ room) ⊎ (room < place_room) → FitsIn (slots_kind place_room) (slots_kind room)
slots_fit room place_room (inl e) = inl (ap slots_kind e)
slots_fit room place_room (inr lt) = inr (place_room, room, lt, inr (refl, refl))

pub kinds_fit : (whole asked : RplType) → misfit whole asked ≡ None → FitsIn (kind_of_rpl_type asked) (kind_of_rpl_type whole)
kinds_fit (Numeric dimension) (Numeric place_dimension) none = inl refl
kinds_fit Boolean Boolean none = inl refl
kinds_fit Datetime Datetime none = inl refl
kinds_fit (Slot dimension) (Slot place_dimension) none = inl refl
kinds_fit (NumericList room dimension) (NumericList place_room place_dimension) none =
    numbers_fit room place_room
    (same_or_below room place_room
    (few room place_room ((none_of_two (unit_misfit dimension place_dimension) (length_misfit room place_room) none).1)))
kinds_fit (SlotList room dimension) (SlotList place_room place_dimension) none =
    slots_fit room place_room
    (same_or_below room place_room
    (few room place_room ((none_of_two (unit_misfit dimension place_dimension) (length_misfit room place_room) none).1)))
kinds_fit _ _ none = absurd (cc none)

abbrev pub Joins : Kind → Kind → RplType → Type 0
Joins left_kind right_kind whole = (join left_kind right_kind ≡ kind_of_rpl_type whole) × FitsIn (join left_kind right_kind) left_kind
    × FitsIn (join left_kind right_kind) right_kind

numbers_join : (left_room right_room : ℕ) (test : Bool) → nat_lt left_room right_room ≡ test
    → let kind = if test then numbers_kind right_room else numbers_kind left_room in
    (kind ≡ numbers_kind (max left_room right_room)) × FitsIn kind (numbers_kind left_room)
    × FitsIn kind (numbers_kind right_room)
numbers_join left_room right_room true test_is =
    let less : left_room < right_room = grind (arith, nat_tests, test_is) in
    let most : right_room ≡ max left_room right_room = omega (arith, less) in
    (ap numbers_kind most, numbers_fit left_room right_room (inr less), inl refl)
numbers_join left_room right_room false test_is =
    let at_most : right_room ≤ left_room = grind (arith, nat_tests, test_is) in
    let most : left_room ≡ max left_room right_room = omega (arith, at_most) in
    (ap numbers_kind most, inl refl, numbers_fit right_room left_room (same_or_below right_room left_room at_most))

slots_join : (left_room right_room : ℕ) (test : Bool) → nat_lt left_room right_room ≡ test
    → let kind = if test then slots_kind right_room else slots_kind left_room in
    (kind ≡ slots_kind (max left_room right_room)) × FitsIn kind (slots_kind left_room)
    × FitsIn kind (slots_kind right_room)
slots_join left_room right_room true test_is =
    let less : left_room < right_room = grind (arith, nat_tests, test_is) in
    let most : right_room ≡ max left_room right_room = omega (arith, less) in
    (ap slots_kind most, slots_fit left_room right_room (inr less), inl refl)
slots_join left_room right_room false test_is =
    let at_most : right_room ≤ left_room = grind (arith, nat_tests, test_is) in
    let most : left_room ≡ max left_room right_room = omega (arith, at_most) in
    (ap slots_kind most, inl refl, slots_fit right_room left_room (same_or_below right_room left_room at_most))

pub kinds_join : (left right whole : RplType) → joined_type left right ≡ Ok whole → Joins (kind_of_rpl_type left) (kind_of_rpl_type right) whole
kinds_join (NumericList left_room left_dimension) (NumericList right_room right_dimension) whole accepted =
    let joins = numbers_join left_room right_room (nat_lt left_room right_room) refl in (
      joins.0 ∙ (unrefused (unit_misfit left_dimension right_dimension) (NumericList (max left_room right_room) left_dimension) whole accepted).1,
      joins.1,
      joins.2,
    )
kinds_join (SlotList left_room left_dimension) (SlotList right_room right_dimension) whole accepted =
    let joins = slots_join left_room right_room (nat_lt left_room right_room) refl in (
      joins.0 ∙ (unrefused (unit_misfit left_dimension right_dimension) (SlotList (max left_room right_room) left_dimension) whole accepted).1,
      joins.1,
      joins.2,
    )
kinds_join (Numeric left_dimension) (Numeric right_dimension) whole accepted =
    ((unrefused (unit_misfit left_dimension right_dimension) (Numeric left_dimension) whole accepted).1, inl refl, inl refl)
kinds_join Boolean Boolean whole accepted = (same_kind Boolean whole accepted, inl refl, inl refl)
kinds_join Datetime Datetime whole accepted = (same_kind Datetime whole accepted, inl refl, inl refl)
kinds_join (Slot left_dimension) (Slot right_dimension) whole accepted =
    ((unrefused (unit_misfit left_dimension right_dimension) (Slot left_dimension) whole accepted).1, inl refl, inl refl)
kinds_join _ _ whole accepted = absurd (cc accepted)

-- ---- one part

abbrev pub TakesOne : OneWord → RplType → RplType → Type 0
TakesOne word part whole = (one_kind word ≡ kind_of_rpl_type whole) × OneTakes word (kind_of_rpl_type part)

negative : (part whole : RplType) → negative_type part ≡ Ok whole → TakesOne Minus part whole
negative (Numeric dimension) whole accepted = (same_kind (Numeric dimension) whole accepted, refl)
negative _ whole accepted = absurd (cc accepted)

counted : (part whole : RplType) → length_type part ≡ Ok whole → TakesOne Length part whole
counted (NumericList room dimension) whole accepted = (same_kind _ whole accepted, (room, inl refl))
counted (SlotList room dimension) whole accepted = (same_kind _ whole accepted, (room, inr refl))
counted _ whole accepted = absurd (cc accepted)

-- of a word but KNOWN, which asks for a look
abbrev pub IsPlain : OneWord → Type 0
IsPlain Known = ⊥
IsPlain _ = Unit {0}

pub one_takes : (word : OneWord) (looks : Bool) (part whole : RplType) → IsPlain word → one_type word looks part ≡ Ok whole → TakesOne word part whole
one_takes Not looks part whole is_plain accepted = let parts = only (is_boolean part) Boolean whole accepted in (parts.1, truth_is part parts.0)
one_takes Minus looks part whole is_plain accepted = negative part whole accepted
one_takes Known looks part whole is_plain accepted = absurd is_plain
one_takes Length looks part whole is_plain accepted = counted part whole accepted
one_takes _ looks part whole is_plain accepted = let parts = only (is_datetime part) _ whole accepted in (parts.1, date_is part parts.0)

pub known_takes : (looks : Bool) (part whole : RplType) → one_type Known looks part ≡ Ok whole → (looks ≡ true)
    × (truth_kind ≡ kind_of_rpl_type whole)
known_takes looks part whole accepted = only looks Boolean whole accepted

-- ---- two parts

abbrev pub TakesTwo : TwoWord → RplType → RplType → RplType → Type 0
TakesTwo word left right whole =
    (two_kind word (kind_of_rpl_type left) (kind_of_rpl_type right) ≡ kind_of_rpl_type whole)
    × TwoTakes word (kind_of_rpl_type left) (kind_of_rpl_type right)

compared : (left right whole : RplType) → compared_type left right ≡ Ok whole → (truth_kind ≡ kind_of_rpl_type whole)
    × AreComparable (kind_of_rpl_type left) (kind_of_rpl_type right)
compared (Numeric left_dimension) (Numeric right_dimension) whole accepted =
    ((unrefused (unit_misfit left_dimension right_dimension) Boolean whole accepted).1, inl (refl, refl))
compared Datetime Datetime whole accepted = (same_kind Boolean whole accepted, inr (refl, refl))
compared _ _ whole accepted = absurd (cc accepted)

truths : (left right whole : RplType) → only_if (is_boolean left && is_boolean right) Boolean ≡ Ok whole → TakesTwo Or left right whole
truths left right whole accepted =
    let parts = only (is_boolean left && is_boolean right) Boolean whole accepted in
    let both = and_true (is_boolean left) (is_boolean right) parts.0 in
    (parts.1, (truth_is left both.0, truth_is right both.1))

summed : (left right whole : RplType) → sum_type left right ≡ Ok whole → TakesTwo Plus left right whole
summed (Numeric left_dimension) (Numeric right_dimension) whole accepted =
    ((unrefused (unit_misfit left_dimension right_dimension) (Numeric left_dimension) whole accepted).1, inl (refl, refl))
summed Datetime (Numeric right_dimension) whole accepted = ((unrefused (unit_misfit right_dimension _) Datetime whole accepted).1, inr (refl, refl))
summed _ _ whole accepted = absurd (cc accepted)

parted : (left right whole : RplType) → difference_type left right ≡ Ok whole → TakesTwo Less_by left right whole
parted Datetime Datetime whole accepted = (same_kind _ whole accepted, inr (refl, refl))
parted (Numeric left_dimension) (Numeric right_dimension) whole accepted =
    ((unrefused (unit_misfit left_dimension right_dimension) (Numeric left_dimension) whole accepted).1, inl (inl (refl, refl)))
parted Datetime (Numeric right_dimension) whole accepted =
    ((unrefused (unit_misfit right_dimension _) Datetime whole accepted).1, inl (inr (refl, refl)))
parted _ _ whole accepted = absurd (cc accepted)

pub measured : (dimension : Option Dimension) (whole : RplType) → measured_in dimension ≡ Ok whole → number_kind ≡ kind_of_rpl_type whole
measured None whole accepted = absurd (cc accepted)
measured (Some dimension) whole accepted = same_kind (Numeric dimension) whole accepted

multiplied : (made : Dimension → Dimension → Dimension) (left right whole : RplType) → product_type made left right ≡ Ok whole
    → TakesTwo Times left right whole
multiplied made (Numeric left_dimension) (Numeric right_dimension) whole accepted =
    (measured (a_dimension (made left_dimension right_dimension)) whole accepted, (refl, refl))
multiplied made _ _ whole accepted = absurd (cc accepted)

room_left : (m : ℕ) (found : Option TypeKind) → sooner found (length_misfit (m + 1) longest) ≡ None → m < 4096
room_left m found none = let le = few (m + 1) longest ((none_of_two found (length_misfit (m + 1) longest) none).1) in omega (arith, le)

appended : (left right whole : RplType) → append_type left right ≡ Ok whole → TakesTwo Append left right whole
appended (NumericList room left_dimension) (Numeric right_dimension) whole accepted =
    let parts =
    unrefused (sooner (unit_misfit left_dimension right_dimension) (length_misfit (room + 1) longest))
    (NumericList (room + 1) left_dimension) whole accepted in
    (parts.1, (room, room_left room (unit_misfit left_dimension right_dimension) parts.0, inl (refl, refl)))
appended (SlotList room left_dimension) (Slot right_dimension) whole accepted =
    let parts =
    unrefused (sooner (unit_misfit left_dimension right_dimension) (length_misfit (room + 1) longest))
    (SlotList (room + 1) left_dimension) whole accepted in
    (parts.1, (room, room_left room (unit_misfit left_dimension right_dimension) parts.0, inr (refl, refl)))
appended _ _ whole accepted = absurd (cc accepted)

picked : (left right whole : RplType) → item_type left right ≡ Ok whole → TakesTwo Item left right whole
picked (NumericList room left_dimension) (Numeric right_dimension) whole accepted =
    ((unrefused (unit_misfit right_dimension _) (Numeric left_dimension) whole accepted).1, ((room, inl refl), refl))
picked (SlotList room left_dimension) (Numeric right_dimension) whole accepted =
    ((unrefused (unit_misfit right_dimension _) (Slot left_dimension) whole accepted).1, ((room, inr refl), refl))
picked _ _ whole accepted = absurd (cc accepted)

pub two_takes : (word : TwoWord) (left right whole : RplType) → two_type word left right ≡ Ok whole → TakesTwo word left right whole
two_takes Or left right whole accepted = truths left right whole accepted
two_takes And left right whole accepted = truths left right whole accepted
two_takes Plus left right whole accepted = summed left right whole accepted
two_takes Less_by left right whole accepted = parted left right whole accepted
two_takes Times left right whole accepted = multiplied times_of left right whole accepted
two_takes Divide left right whole accepted = multiplied per_of left right whole accepted
two_takes Append left right whole accepted = appended left right whole accepted
two_takes Item left right whole accepted = picked left right whole accepted
two_takes _ left right whole accepted = compared left right whole accepted

-- ---- looks, tables, lists

pub look_takes : (place date whole : RplType) → look_type place date ≡ Ok whole
    → (number_kind ≡ kind_of_rpl_type whole) × (kind_of_rpl_type place ≡ slot_kind) × (kind_of_rpl_type date ≡ date_kind)
look_takes (Slot dimension) Datetime whole accepted = (same_kind (Numeric dimension) whole accepted, refl, refl)
look_takes _ _ whole accepted = absurd (cc accepted)

pub measured_number : (whole : RplType) (dimension : Dimension) → misfit whole (Numeric dimension) ≡ None → kind_of_rpl_type whole ≡ number_kind
measured_number (Numeric left_dimension) dimension none = refl
measured_number _ dimension none = absurd (cc none)

pub convert_takes : (word : ConvertWord) (named table : Bool) (part whole : RplType) → convert_type word named table part ≡ Ok whole
    → (number_kind ≡ kind_of_rpl_type whole) × (table ≡ true) × (kind_of_rpl_type part ≡ number_kind)
convert_takes word false table part whole accepted = absurd (cc accepted)
convert_takes word true false part whole accepted = absurd (cc accepted)
convert_takes word true true part whole accepted =
    let parts = unrefused (misfit part (Numeric (asks word))) (Numeric (answers word)) whole accepted in
    (parts.1, refl, measured_number part (asks word) parts.0)

pub element_is : (all item : RplType) → element_type all ≡ Ok item
    → IsAnyList (kind_of_rpl_type all) × (element_of (kind_of_rpl_type all) ≡ kind_of_rpl_type item)
element_is (NumericList room dimension) item accepted = ((room, inl refl), same_kind (Numeric dimension) item accepted)
element_is (SlotList room dimension) item accepted = ((room, inr refl), same_kind (Slot dimension) item accepted)
element_is _ item accepted = absurd (cc accepted)

pub mapped_takes : (all turn whole : RplType) → mapped_type all turn ≡ Ok whole
    → (numbers_kind (room_of (kind_of_rpl_type all)) ≡ kind_of_rpl_type whole) × (kind_of_rpl_type turn ≡ number_kind)
mapped_takes (NumericList room dimension) (Numeric other_dimension) whole accepted =
    (same_kind (NumericList room other_dimension) whole accepted, refl)
mapped_takes (SlotList room dimension) (Numeric other_dimension) whole accepted = (same_kind (NumericList room other_dimension) whole accepted, refl)
mapped_takes _ _ whole accepted = absurd (cc accepted)

-- all of them are of one kind
abbrev pub AreAlike : Kind → List RplType → Type 0
AreAlike kind [] = Unit {0}
AreAlike kind (its_type ∷ types) = (kind_of_rpl_type its_type ≡ kind) × AreAlike kind types

slot_is : (whole : RplType) (dimension : Dimension) → misfit whole (Slot dimension) ≡ None → kind_of_rpl_type whole ≡ slot_kind
slot_is (Slot left_dimension) dimension none = refl
slot_is _ dimension none = absurd (cc none)

pub numbers_alike : (types : List RplType) (dimension : Dimension) → misfit_among types (Numeric dimension) ≡ None → AreAlike number_kind types
numbers_alike [] dimension none = tt
numbers_alike (its_type ∷ types) dimension none =
    let parts = none_of_two (misfit its_type (Numeric dimension)) (misfit_among types (Numeric dimension)) none in
    (measured_number its_type dimension parts.0, numbers_alike types dimension parts.1)

slots_alike : (types : List RplType) (dimension : Dimension) → misfit_among types (Slot dimension) ≡ None → AreAlike slot_kind types
slots_alike [] dimension none = tt
slots_alike (its_type ∷ types) dimension none =
    let parts = none_of_two (misfit its_type (Slot dimension)) (misfit_among types (Slot dimension)) none in
    (slot_is its_type dimension parts.0, slots_alike types dimension parts.1)

pub record Listed (types : List RplType) (its_type : RplType) : Type 0 where
  pub first : RplType
  pub rest : List RplType
  pub are : types ≡ first ∷ rest
  pub element : IsElement (kind_of_rpl_type first)
  pub alike : AreAlike (kind_of_rpl_type first) rest
  pub short : length rest + 1 ≤ 4096
  pub whole : list_kind (length rest + 1) (kind_of_rpl_type first) ≡ kind_of_rpl_type its_type

pub list_takes : (types : List RplType) (its_type : RplType) → list_type types ≡ Ok its_type → Listed types its_type
list_takes [] its_type accepted = absurd (cc accepted)
list_takes (Numeric dimension ∷ types) its_type accepted =
    let parts =
    unrefused (sooner (misfit_among types (Numeric dimension)) (length_misfit (length types + 1) longest))
    (NumericList (length types + 1) dimension) its_type accepted in
    let misfits = none_of_two (misfit_among types (Numeric dimension)) (length_misfit (length types + 1) longest) parts.0 in
    record {
      first = Numeric dimension;
      rest = types;
      are = refl;
      element = inl refl;
      alike = numbers_alike types dimension misfits.0;
      short =
          few (length types + 1) longest misfits.1;
      whole = parts.1;
    }
list_takes (Slot dimension ∷ types) its_type accepted =
    let parts =
    unrefused (sooner (misfit_among types (Slot dimension)) (length_misfit (length types + 1) longest))
    (SlotList (length types + 1) dimension) its_type accepted in
    let misfits = none_of_two (misfit_among types (Slot dimension)) (length_misfit (length types + 1) longest) parts.0 in
    record {
      first = Slot dimension;
      rest = types;
      are = refl;
      element = inr refl;
      alike = slots_alike types dimension misfits.0;
      short =
          few (length types + 1) longest misfits.1;
      whole = parts.1;
    }
list_takes (_ ∷ types) its_type accepted = absurd (cc accepted)
