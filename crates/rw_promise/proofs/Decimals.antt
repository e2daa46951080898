-- The decimals of numbers below 1000 read back.
use Rattle.rw_base.proofs.Common.{arith, nat_tests, and_parts, decimal, decimal_by_steps, length, list_all, nat_le, option_map, pos, refl, ap, sym}
use Rattle.rw_base.proofs.Common.{true, false, List, [], Some, None, ℕ, ◌+◌, ◌*◌, ◌-◌, ◌%◌, ◌/◌, ◌<◌, ◌≤◌, ◌++◌, ◌∷◌, ◌≡◌, ◌==◌, ◌∙◌}
use Rattle.rw_base.proofs.Common.{if◌then◌else◌}
use Rattle.std.proofs.lemmas.Fmt.{decimal_nonempty, length-decimal-le}
use Rattle.rw_base.specs.Byte.{is_digit}
use Rattle.rw_base.specs.Digit.{are_digits, number_after}
use Rattle.rw_base.proofs.Digits.{digit_bounds}
use Rattle.rw_inputs.specs.Number.{byte_position, read_number, read_signed}
use Rattle.rw_inputs.specs.Row.{span_in}
use Rattle.rw_inputs.proofs.Digits.{one_number}

-- digits that spell a number
pub record Spells (number : ℕ) (text : List ℕ) : Type 0 where
  pub digits : list_all is_digit text ≡ true
  pub value : number_after 0 text ≡ number

digit_is : (digit : ℕ) → digit < 10 → is_digit (48 + digit) ≡ true
digit_is digit small = grind (arith, nat_tests)

all_more : (digits : List ℕ) (digit : ℕ) → list_all is_digit digits ≡ true → is_digit digit ≡ true → list_all is_digit (digits ++ digit ∷ []) ≡ true
all_more [] digit all is = rw is refl
all_more (first ∷ digits) digit all is =
    let parts = and_parts (is_digit first) (list_all is_digit digits) all in
    rw (parts.0, all_more digits digit parts.1 is) refl

value_more : (n : ℕ) (digits : List ℕ) (digit : ℕ) → number_after n (digits ++ digit ∷ []) ≡ number_after n digits * 10 + (digit - 48)
value_more n [] digit = refl
value_more n (first ∷ digits) digit = value_more (n * 10 + (first - 48)) digits digit

one_digit : (n : ℕ) → n < 10 → Spells n ((48 + n) ∷ [])
one_digit n small = record { digits = rw (digit_is n small) refl; value = omega arith }

digit_more : (n : ℕ) (digits : List ℕ) → 10 ≤ n → Spells (n / 10) digits → Spells n (digits ++ (48 + n % 10) ∷ [])
digit_more n digits large front = record {
  digits = all_more digits (48 + n % 10) front.digits (digit_is (n % 10) (omega arith));
  value = value_more 0 digits (48 + n % 10) ∙ ap (λ m. m * 10 + (48 + n % 10 - 48)) front.value ∙ omega arith;
}

pub spelt : (n : ℕ) → n < 1000 → Spells n (decimal n)
spelt n small = decimal_by_steps Spells one_digit digit_more n (omega arith)

-- ---- and are read

pub read_back : (n : ℕ) → n < 1000 → read_number (decimal n) ≡ Some n
read_back n small =
    let some = decimal_nonempty n (omega arith) in
    let few = length-decimal-le 3 n (omega arith) (omega arith) (omega arith) in
    let least : nat_le 1 (length (decimal n)) ≡ true = grind (arith, nat_tests, some) in
    let most : nat_le (length (decimal n)) 18 ≡ true = grind (arith, nat_tests, few) in
    let text = spelt n small in
    let is : are_digits 18 (decimal n) ≡ true = rw (least, most, text.digits) refl in
    ap (λ t. if t then Some (number_after 0 (decimal n)) else None) is ∙ ap Some text.value

signed : (text : List ℕ) (n : ℕ) → list_all is_digit text ≡ true → read_number text ≡ Some n → read_signed text ≡ Some (pos n)
signed [] n all read = absurd (cc)
signed (byte ∷ text) n all read =
    let here = digit_bounds byte (and_parts (is_digit byte) (list_all is_digit text) all).0 in
    let other : (byte == 45) ≡ false = grind (arith, nat_tests, here) in
    rw other (ap (option_map (λ m. pos m)) read)

pub signed_back : (n : ℕ) → n < 1000 → read_signed (decimal n) ≡ Some (pos n)
signed_back n small = signed (decimal n) n (spelt n small).digits (read_back n small)

pub span_back : (n : ℕ) → n < 1000 → span_in (decimal n) (byte_position 45 (decimal n)) ≡ Some (n, n)
span_back n small = sym (one_number (decimal n) n (sym (read_back n small)))
