-- What is written of a word is read as the same.
use Rattle.rw_base.proofs.Common.{◌≡◌, ℕ, suc, List, [], ◌∷◌, ◌++◌, Bool, true, false, refl, ap, ◌∙◌, ◌<◌, ◌≤◌, ◌^◌, ◌+◌, ◌%◌, arith, ℤ, pos, negsuc}
use Rattle.rw_base.proofs.Common.{◌&&◌, nat_le, Some, option_map, ◌||◌, length, map, codes, neg_ℤ, AllByRecursion, list_all, bytes_eq, decimal}
use Rattle.rw_base.proofs.Common.{signed_decimal, decimal_is_IsNumeral, decimal_by_steps, bytes_eq-Decides, ne_eqb, le-leb, and_parts, nat_tests}
use Rattle.rw_base.proofs.Common.{ints}
use Rattle.std.specs.Fmt.{digits}
use Rattle.rw_base.specs.declared.limits.TheConstants.{LIST_MAX}
use Rattle.rw_base.specs.Quantity.{IsQuantity}
use Rattle.rw_model.specs.declared.limits.TheConstants.{NAME_MAX}
use Rattle.rpl_code.specs.declared.kind.ValueKind.{ValueKind}
use Rattle.rpl_code.specs.declared.kind.ValueKind.TheVariants as K
use Rattle.rw_base.specs.Byte.{is_letter, is_digit}
use Rattle.rpl_code.specs.Bounds.{IsNumber, IsLength, IsCodeName, IsCodeKind, AreKinds}
use Rattle.rpl_code.specs.Parting.{parted}
use Rattle.rpl_code.specs.Words.{number_in, count_in, length_in, quantity_in, truth_in, name_in, slot_spelt, kind_in, kinds_in, each_kind}
use Rattle.rpl_code.specs.Spelling.{each_after, kind_text, kinds_text, slot_text, truth_text}
use Rattle.rpl_code.proofs.Parted.{Lacks, Above, all_append, lacks_above, parted_whole, parted_at, parted_joined}

-- ---- numbers

pub decimal_above : (n : ℕ) → n < 2 ^ 64 → Above 46 (decimal n)
decimal_above n h = decimal_by_steps (λ m ds. Above 46 ds) (λ m lt. (omega arith, tt))
    (λ m ds le above. all_append (λ b. 46 < b) ds ((48 + m % 10) ∷ []) above (omega arith, tt)) n h

pub number_is : (least most n : ℕ) → least ≤ n → n ≤ most → n < 2 ^ 64 → number_in least most (decimal n) ≡ Some n
number_is least most n low high small =
    let value = (decimal_is_IsNumeral n small).1 in
    let same = (bytes_eq-Decides (decimal n) (decimal n)).1 refl in
    rw (value, le-leb least n low, le-leb n most high, same) refl

pub count_is : (n : ℕ) → IsNumber n → count_in (decimal n) ≡ Some n
count_is n h = number_is 0 4294967295 n (omega arith) (omega (arith, h)) (omega (arith, h))

pub length_is : (n : ℕ) → IsLength n → length_in (decimal n) ≡ Some n
length_is n h = number_is 1 LIST_MAX n h.0 h.1 (omega (arith, h.1))

unsigned : (text : List ℕ) → Above 46 text → quantity_in text ≡ option_map pos (number_in 0 100000000000000000 text)
unfolding digits
unsigned [] above = refl
unsigned (b ∷ bs) above = rw (ne_eqb b 45 (λ e. omega (arith, e, above.0))) refl

pub quantity_is : (z : ℤ) → IsQuantity z → quantity_in (signed_decimal z) ≡ Some z
quantity_is (pos n) q =
    let most : n ≤ 100000000000000000 = omega (arith, ints, q.high) in
    unsigned (decimal n) (decimal_above n (omega (arith, most)))
    ∙ ap (option_map pos) (number_is 0 100000000000000000 n (omega arith) most (omega (arith, most)))
quantity_is (negsuc n) q =
    let most : suc n ≤ 100000000000000000 = omega (arith, ints, q.low) in
    ap (option_map (λ m. neg_ℤ (pos m))) (number_is 1 100000000000000000 (suc n) (omega arith) most (omega (arith, most)))

pub truth_is : (b : Bool) → truth_in (truth_text b) ≡ Some b
truth_is true = refl
truth_is false = refl

-- ---- names

letter_above : (b : ℕ) → is_letter b ≡ true → 46 < b
letter_above b h = grind (arith, nat_tests)

further_above : (bs : List ℕ) → list_all (λ c. is_letter c || is_digit c) bs ≡ true → Above 46 bs
further_above [] h = tt
further_above (b ∷ bs) h =
    let parts = and_parts (is_letter b || is_digit b) (list_all (λ c. is_letter c || is_digit c) bs) h in
    (byte_above b parts.0, further_above bs parts.1)
  where
    byte_above : (b : ℕ) → (is_letter b || is_digit b) ≡ true → 46 < b
    byte_above b h = grind (arith, nat_tests)

pub name_above : (name : List ℕ) → IsCodeName name → Above 46 name
name_above [] h = tt
name_above (b ∷ bs) h =
    let parts = and_parts (nat_le (length (b ∷ bs)) NAME_MAX) (is_letter b && list_all (λ c. is_letter c || is_digit c) bs) h in
    let bytes = and_parts (is_letter b) (list_all (λ c. is_letter c || is_digit c) bs) parts.1 in
    (letter_above b bytes.0, further_above bs bytes.1)

pub name_is : (name : List ℕ) → IsCodeName name → name_in name ≡ Some name
name_is name h = rw h refl

pub slot_is : (object slot : List ℕ) → IsCodeName object → IsCodeName slot → slot_spelt (slot_text object slot) ≡ Some (object, slot)
slot_is object slot o s =
    let parts = parted_at 46 object slot (lacks_above 46 46 object (omega arith) (name_above object o))
    ∙ ap (λ rest. object ∷ rest) (parted_whole 46 slot (lacks_above 46 46 slot (omega arith) (name_above slot s))) in
    rw (parts, o, s) refl

-- ---- kinds

length_text : (n : ℕ) → IsLength n → parted 42 (decimal n) ≡ decimal n ∷ []
length_text n h = parted_whole 42 (decimal n) (lacks_above 46 42 (decimal n) (omega arith) (decimal_above n (omega (arith, h.1))))

pub kind_is : (kind : ValueKind) → IsCodeKind kind → kind_in (kind_text kind) ≡ Some kind
kind_is K.N h = refl
kind_is K.B h = refl
kind_is K.D h = refl
kind_is K.S h = refl
kind_is (K.NList most) h = rw (length_text most h, length_is most h) refl
kind_is (K.SList most) h = rw (length_text most h, length_is most h) refl

kind_lacks : (kind : ValueKind) → IsCodeKind kind → Lacks 44 (kind_text kind)
kind_lacks K.N h = (refl, tt)
kind_lacks K.B h = (refl, tt)
kind_lacks K.D h = (refl, tt)
kind_lacks K.S h = (refl, tt)
kind_lacks (K.NList most) h = (refl, (refl, lacks_above 46 44 (decimal most) (omega arith) (decimal_above most (omega (arith, h.1)))))
kind_lacks (K.SList most) h = (refl, (refl, lacks_above 46 44 (decimal most) (omega arith) (decimal_above most (omega (arith, h.1)))))

kinds_lack : (kinds : List ValueKind) → AreKinds kinds → AllByRecursion (Lacks 44) (map kind_text kinds)
kinds_lack [] h = tt
kinds_lack (kind ∷ kinds) h = (kind_lacks kind h.0, kinds_lack kinds h.1)

each_is : (kinds : List ValueKind) → AreKinds kinds → each_kind (map kind_text kinds) ≡ Some kinds
each_is [] h = refl
each_is (kind ∷ kinds) h = rw (kind_is kind h.0, each_is kinds h.1) refl

not_none : (kind : ValueKind) (rest : List ℕ) → bytes_eq (kind_text kind ++ rest) (codes "-") ≡ false
not_none K.N rest = refl
not_none K.B rest = refl
not_none K.D rest = refl
not_none K.S rest = refl
not_none (K.NList most) rest = refl
not_none (K.SList most) rest = refl

pub kinds_are : (kinds : List ValueKind) → AreKinds kinds → kinds_in (kinds_text kinds) ≡ Some kinds
kinds_are [] h = refl
kinds_are (kind ∷ kinds) h =
    rw (not_none kind (each_after 44 (map kind_text kinds)), parted_joined 44 (kind_text kind) (map kind_text kinds) (kinds_lack (kind ∷ kinds) h))
    (each_is (kind ∷ kinds) h)
