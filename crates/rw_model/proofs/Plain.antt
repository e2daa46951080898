-- What a basin has by name has a plain name, which is a text.
use Rattle.rw_base.proofs.Common.{◌≡◌, ◌+◌, ◌==◌, ◌&&◌, ◌||◌, ◌<◌, ℕ, Bool, true, false, List, [], ◌∷◌, ◌++◌, length, map, Option, Some, None, IsSome}
use Rattle.rw_base.proofs.Common.{refl, sym, subst, arith, bytes_eq, nat_le, nat_tests, not, option_and_then, AllByRecursion, list_all}
use Rattle.rw_base.proofs.Common.{IsAscii, IsUtf8, IsUtf8-from_ascii, IsAscii-nil, IsAscii-cons, and_parts, cond_both, recursion_from_All}
use Rattle.rw_base.proofs.Common.{bytes_eq-Decides}
use Rattle.rw_base.specs.Byte.{is_digit, is_letter}
use Rattle.rw_model.specs.declared.limits.TheConstants.{NAME_MAX}
use Rattle.rw_model.specs.declared.data_slots.DataSlot.{DataSlot}
use Rattle.rw_model.specs.declared.kind.Kind.{Kind}
use Rattle.rw_model.specs.declared.kind.Kind.TheVariants.{DataObject, Gage, Confluence, Bifurcation, Reach, Reservoir, WaterUser, Canal}
use Rattle.rw_model.specs.declared.kind.Kind.TheVariants.{PowerReservoir, RoutedReach}
use Rattle.rw_model.specs.declared.kind.Supply.TheVariants.{Request, Rule}
use Rattle.rw_model.specs.declared.role.Role.TheVariants.{Neither}
use Rattle.rw_model.specs.Name.{IsName, is_plain, is_word, reserved_words}
use Rattle.rw_model.specs.Kind.{IsKind}
use Rattle.rw_model.specs.Slot.{Slot, of_range, all_quantities}
use Rattle.rw_model.specs.Slots.{slots_of, where_chosen}
use Rattle.rw_model.specs.Objects.{Object, Placed, all_slots, first_from, is_named, object_from, object_named, placed_from, slot_named, slots_from}
use Rattle.rw_model.specs.Draft.{Draft, IsSound}
use Rattle.rw_model.specs.Basin.{IsBasin}
use Rattle.rw_model.proofs.NameFacts.{Decides-name}

-- ---- a plain name is a text

letter_small : (byte : ℕ) → is_letter byte ≡ true → byte < 128
letter_small byte holds = grind (arith, nat_tests, holds)

byte_small : (byte : ℕ) → (is_letter byte || is_digit byte) ≡ true → byte < 128
byte_small byte holds = grind (arith, nat_tests, holds)

all_ascii : (bytes : List ℕ) → list_all (λ b. is_letter b || is_digit b) bytes ≡ true → IsAscii bytes
all_ascii [] holds = IsAscii-nil
all_ascii (byte ∷ bytes) holds =
    let parts = and_parts (is_letter byte || is_digit byte) (list_all (λ b. is_letter b || is_digit b) bytes) holds in
    IsAscii-cons byte bytes (byte_small byte parts.0) (all_ascii bytes parts.1)

plain_ascii : (name : List ℕ) → is_plain name ≡ true → IsAscii name
plain_ascii [] holds = IsAscii-nil
plain_ascii (byte ∷ bytes) holds =
    let further = list_all (λ b. is_letter b || is_digit b) bytes in
    let parts = and_parts (nat_le (length (byte ∷ bytes)) NAME_MAX) (is_letter byte && further) holds in
    let letters = and_parts (is_letter byte) further parts.1 in
    IsAscii-cons byte bytes (letter_small byte letters.0) (all_ascii bytes letters.1)

pub plain_utf8 : (name : List ℕ) → is_plain name ≡ true → IsUtf8 name
plain_utf8 name holds = IsUtf8-from_ascii name (plain_ascii name holds)

-- ---- names are plain

name_plain : (text : List ℕ) → IsName text → is_plain text ≡ true
name_plain text is_name = (and_parts (is_plain text) (not (is_word reserved_words text)) ((Decides-name text).1 is_name)).0

same_plain : (word name : List ℕ) → bytes_eq word name ≡ true → is_plain name ≡ true → is_plain word ≡ true
same_plain word name equal plain = subst (λ text. is_plain text ≡ true) (sym ((bytes_eq-Decides word name).0 equal)) plain

-- ---- objects

sound_objects : (basin : Draft) → IsBasin basin → AllByRecursion IsSound basin.objects
sound_objects basin is_basin = recursion_from_All IsSound basin.objects is_basin.whole.sound

object_plain : (number : ℕ) (objects : List Object) (name : List ℕ) → AllByRecursion IsSound objects → IsSome (object_from number objects name)
    → is_plain name ≡ true
object_plain number [] name sound is_some = absurd (cc is_some)
object_plain number (object ∷ objects) name sound is_some =
    cond_both _ _ _ (λ found. IsSome found → is_plain name ≡ true)
    (λ equal found_so. same_plain name object.name equal (name_plain object.name sound.0.name))
    (λ equal. object_plain (number + 1) objects name sound.1) is_some

-- ---- slots

abbrev IsSlotPlain : Option Slot → Type 0
IsSlotPlain None = Unit {0}
IsSlotPlain (Some slot) = is_plain slot.name ≡ true

abbrev IsPlacedPlain : Placed → Type 0
IsPlacedPlain placed = is_plain placed.slot.name ≡ true

chosen_plain : (test : Bool) (slot : Slot) → is_plain slot.name ≡ true → IsSlotPlain (where_chosen test slot)
chosen_plain true slot plain = plain
chosen_plain false slot plain = tt

data_plain : (slots : List DataSlot) → AllByRecursion (λ (slot : DataSlot). IsName slot.name) slots
    → AllByRecursion IsSlotPlain (map (λ (slot : DataSlot). Some (of_range slot.name slot.dim Neither all_quantities)) slots)
data_plain [] named = tt
data_plain (slot ∷ slots) named = (name_plain slot.name named.0, data_plain slots named.1)

kind_plain : (kind : Kind) → IsKind kind → AllByRecursion IsSlotPlain (slots_of kind)
kind_plain (DataObject slots) is_kind = data_plain slots (recursion_from_All (λ (slot : DataSlot). IsName slot.name) slots is_kind.named)
kind_plain Gage is_kind = (refl, (refl, tt))
kind_plain Confluence is_kind = (refl, (refl, (refl, tt)))
kind_plain Bifurcation is_kind = (refl, (refl, (refl, tt)))
kind_plain (Reach lag history local_inflow diversion return_flow) is_kind =
    (refl, (refl, (chosen_plain _ _ refl, (chosen_plain _ _ refl, (chosen_plain _ _ refl, tt)))))
kind_plain (Reservoir initial_storage table local_inflow diversion return_flow evaporation max_release) is_kind = (
  refl,
  (
    refl,
    (
      refl,
      (
        chosen_plain _ _ refl,
        (
          chosen_plain _ _ refl,
          (
            chosen_plain _ _ refl,
            (chosen_plain _ _ refl, (chosen_plain _ _ refl, (chosen_plain _ _ refl, (chosen_plain _ _ refl, (chosen_plain _ _ refl, tt))))),
          ),
        ),
      ),
    ),
  ),
)
kind_plain (WaterUser depletion Request) is_kind = (refl, (refl, (refl, (refl, tt))))
kind_plain (WaterUser depletion Rule) is_kind = (refl, (refl, (refl, (refl, tt))))
kind_plain (Canal seepage) is_kind = (refl, (refl, (refl, tt)))
kind_plain (PowerReservoir initial_storage table max_release tailwater power) is_kind =
    (refl, (refl, (refl, (refl, (refl, (refl, (refl, (refl, tt))))))))
kind_plain (RoutedReach initial_content release) is_kind = (refl, (refl, (refl, tt)))

both_all : {X : Type 0} (P : X → Type 0) (xs ys : List X) → AllByRecursion P xs → AllByRecursion P ys → AllByRecursion P (xs ++ ys)
both_all P [] ys all also = also
both_all P (x ∷ xs) ys all also = (all.0, both_all P xs ys all.1 also)

placed_plain : (owner place : ℕ) (slots : List (Option Slot)) → AllByRecursion IsSlotPlain slots
    → AllByRecursion IsPlacedPlain (placed_from owner place slots)
placed_plain owner place [] plain = tt
placed_plain owner place (None ∷ slots) plain = placed_plain owner (place + 1) slots plain.1
placed_plain owner place (Some slot ∷ slots) plain = (plain.0, placed_plain owner (place + 1) slots plain.1)

slots_plain : (number : ℕ) (objects : List Object) → AllByRecursion IsSound objects → AllByRecursion IsPlacedPlain (slots_from number objects)
slots_plain number [] sound = tt
slots_plain number (object ∷ objects) sound =
    both_all IsPlacedPlain (placed_from number 0 (slots_of object.kind)) (slots_from (number + 1) objects)
    (placed_plain number 0 (slots_of object.kind) (kind_plain object.kind sound.0.kind))
    (slots_plain (number + 1) objects sound.1)

first_plain : (number owner : ℕ) (name : List ℕ) (slots : List Placed) → AllByRecursion IsPlacedPlain slots
    → IsSome (first_from number (is_named owner name) slots) → is_plain name ≡ true
first_plain number owner name [] plain is_some = absurd (cc is_some)
first_plain number owner name (placed ∷ slots) plain is_some =
    cond_both _ _ _ (λ found. IsSome found → is_plain name ≡ true)
    (λ equal found_so. same_plain name placed.slot.name (and_parts (placed.owner == owner) (bytes_eq name placed.slot.name) equal).1 plain.0)
    (λ equal. first_plain (number + 1) owner name slots plain.1) is_some

-- ---- in a basin

module _ (basin : Draft) (valid : IsBasin basin) where
  pub object_is_plain : (name : List ℕ) → IsSome (object_named basin.objects name) → is_plain name ≡ true
  object_is_plain name is_some = object_plain 1 basin.objects name (sound_objects basin valid) is_some

  -- of the slot, and of its object
  pub slot_is_plain : (object name : List ℕ) → IsSome (slot_named basin.objects object name) → (is_plain object ≡ true) × (is_plain name ≡ true)
  slot_is_plain object name is_some = by (object_named basin.objects object) refl is_some
    where
      by : (found : Option ℕ) → object_named basin.objects object ≡ found
          → IsSome (option_and_then (λ owner. first_from 1 (is_named owner name) (all_slots basin.objects)) found)
          → (is_plain object ≡ true) × (is_plain name ≡ true)
      by None same is_some = absurd (cc is_some)
      by (Some owner) same is_some = (
        object_is_plain object (rw same refl),
        first_plain 1 owner name (all_slots basin.objects) (slots_plain 1 basin.objects (sound_objects basin valid)) is_some,
      )
