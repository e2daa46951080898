-- What is no text names no object and no slot, since these have plain names, and no unit either.
use Rattle.rw_base.proofs.Common.{◌≡◌, ℕ, ℤ, Bool, true, List, [], ◌∷◌, Option, Some, None, IsSome}
use Rattle.rw_base.proofs.Common.{refl, subst, inl, inr, bytes_eq, nat_lt}
use Rattle.rw_base.proofs.Common.{list_all, IsAscii, IsUtf8, IsUtf8-from_ascii, IsAscii-nil, IsAscii-cons, and_parts, cases_Bool, ltb-true, bytes_eq-Decides}
use Rattle.rw_base.specs.Dimension.{Dimension}
use Rattle.rw_base.specs.Unit.{units, unit_in}
use Rattle.rw_model.proofs.Common.{Draft, IsBasin, object_named, slot_named}
use Rattle.rw_model.proofs.Plain.{object_is_plain, plain_utf8, slot_is_plain}

-- ---- words

abbrev is_small : List ℕ → Bool
is_small = list_all (λ b. nat_lt b 128)

small_ascii : (word : List ℕ) → is_small word ≡ true → IsAscii word
small_ascii [] holds = IsAscii-nil
small_ascii (byte ∷ bytes) holds =
    let parts = and_parts (nat_lt byte 128) (is_small bytes) holds in IsAscii-cons byte bytes (ltb-true byte 128 parts.0) (small_ascii bytes parts.1)

pub small_text : (word : List ℕ) → is_small word ≡ true → IsUtf8 word
small_text word holds = IsUtf8-from_ascii word (small_ascii word holds)

-- ---- units

no_row : (rows : List (List ℕ × Dimension × ℤ)) (word : List ℕ) → list_all (λ row. is_small row.0) rows ≡ true
    → ¬ (IsUtf8 word) → unit_in rows word ≡ None
no_row [] word holds not = refl
no_row (row ∷ rows) word holds not =
    let parts = and_parts (is_small row.0) (list_all (λ r. is_small r.0) rows) holds in
    elim (cases_Bool (bytes_eq row.0 word)) [
      | inl here ↦ absurd (not (subst IsUtf8 ((bytes_eq-Decides row.0 word).0 here) (small_text row.0 parts.0)))
      | inr other ↦ rw other (no_row rows word parts.1 not)
    ]

pub no_unit : (word : List ℕ) → ¬ (IsUtf8 word) → unit_in units word ≡ None
no_unit word not = no_row units word refl not

-- ---- in a basin

-- what isn't there isn't found
absent : {X : Type 0} (found : Option X) → ¬ (IsSome found) → found ≡ None
absent None none = refl
absent (Some x) none = absurd (none refl)

pub slot_texts : (basin : Draft) → IsBasin basin → (object name : List ℕ) → IsSome (slot_named basin.objects object name)
    → IsUtf8 object × IsUtf8 name
slot_texts basin valid object name is_some =
    let plain = slot_is_plain basin valid object name is_some in (plain_utf8 object plain.0, plain_utf8 name plain.1)

pub object_text : (basin : Draft) (name : List ℕ) → IsBasin basin → IsSome (object_named basin.objects name) → IsUtf8 name
object_text basin name valid is_some = plain_utf8 name (object_is_plain basin valid name is_some)

pub no_slot : (basin : Draft) (object name : List ℕ) → IsBasin basin → ¬ (IsUtf8 name) → slot_named basin.objects object name ≡ None
no_slot basin object name valid not =
    absent (slot_named basin.objects object name) (λ found. not (slot_texts basin valid object name found).1)

pub no_owner : (basin : Draft) (object name : List ℕ) → IsBasin basin → ¬ (IsUtf8 object) → slot_named basin.objects object name ≡ None
no_owner basin object name valid not =
    absent (slot_named basin.objects object name) (λ found. not (slot_texts basin valid object name found).0)
