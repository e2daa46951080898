-- The numbers that texts of digits spell.
use Rattle.rw_base.proofs.Common.{◌≡◌, ℕ, zero, suc, ◌+◌, ◌-◌, ◌*◌, ◌<◌, ◌≤◌, ◌^◌, ◌&&◌, if◌then◌else◌, true, false, Bool, Option, Some, None}
use Rattle.rw_base.proofs.Common.{List, [], ◌∷◌, length, drop, slice_index_or, mul-le-mul_right, arith, lit≤, refl, ap, sym, ◌∙◌, common_steps, ForSome}
use Rattle.rw_base.proofs.Common.{nat_le, list_all, option_and_then, unwrap_or, pow-le-pow_right, and_parts, nat_tests}
use Rattle.std.proofs.Math.Nat.{pow-suc}
use Rattle.std.proofs.lemmas.List.{at_drop_all, at_drop_more}
use Rattle.rw_base.specs.Byte.{is_digit}
use Rattle.rw_base.specs.Digit.{number_after, are_digits, read_digits, within_64_bits}

pub digit_bounds : (byte : ℕ) → is_digit byte ≡ true → (48 ≤ byte) × (byte ≤ 57)
digit_bounds byte digit = (grind (arith, nat_tests), grind (arith, nat_tests))

-- a digit more makes no number less
pub least_after : (n : ℕ) (digits : List ℕ) → n ≤ number_after n digits
least_after n [] = omega arith
least_after n (digit ∷ digits) = let more = least_after (n * 10 + (digit - 48)) digits in omega (arith, more)

pub in_64_bits : (number : ℕ) → number ≤ 18446744073709551615 → within_64_bits number ≡ Some number
in_64_bits number small =
    let near : nat_le number 18446744073709551615 ≡ true = grind (arith, nat_tests) in ap (λ t. if t then Some number else None) near

-- a number that is left out stays left out, whatever digits follow
large_after : (n : ℕ) (digits : List ℕ) → within_64_bits n ≡ None → within_64_bits (number_after n digits) ≡ None
large_after n digits large = by (nat_le n 18446744073709551615) refl
  where
    by : (near : Bool) → nat_le n 18446744073709551615 ≡ near → within_64_bits (number_after n digits) ≡ None
    by true near =
        let some : Some n ≡ None = sym (ap (λ t. if t then Some n else None) near) ∙ large in absurd (cc)
    by false far =
        let more = least_after n digits in
        let still : nat_le (number_after n digits) 18446744073709551615 ≡ false = grind (arith, nat_tests) in
        ap (λ t. if t then Some (number_after n digits) else None) still

-- the number that a text of digits alone spells, at most 2^64 - 1
abbrev pub number_in : List ℕ → Option ℕ
number_in text = if list_all is_digit text then within_64_bits (number_after 0 text) else None

left_out : (all : Bool) (number : ℕ) → within_64_bits number ≡ None → None ≡ (if all then within_64_bits number else None)
left_out true number none = sym none
left_out false number none = refl

-- the digits in front and the next are too large already
pub too_large : (text : List ℕ) (number i : ℕ) → i < length text → number_after number (drop i text) ≡ number_after 0 text
    → None ≡ within_64_bits (number * 10 + (slice_index_or text i 0 - 48)) → None ≡ number_in text
too_large text number i near whole large =
    left_out (list_all is_digit text) (number_after 0 text)
    (ap within_64_bits (sym whole ∙ at_drop_more (number_after number) text i 0 near)
    ∙ large_after (number * 10 + (slice_index_or text i 0 - 48)) (drop (i + 1) text) (sym large))

-- all digits are read
pub all_read : (text : List ℕ) (number i : ℕ) → length text ≤ i → number ≤ 18446744073709551615 → number_after number (drop i text) ≡ number_after 0 text
    → list_all is_digit (drop i text) ≡ list_all is_digit text → Some number ≡ number_in text
all_read text number i end small whole all =
    let is : number ≡ number_after 0 text = sym (at_drop_all (number_after number) text i end) ∙ whole in
    let digits : true ≡ list_all is_digit text = sym (at_drop_all (list_all is_digit) text i end) ∙ all in
    sym (in_64_bits number small) ∙ ap within_64_bits is ∙ ap (λ t. if t then within_64_bits (number_after 0 text) else None) digits

-- ---- texts of so many digits

scaled : (n p : ℕ) → (n * 10 + 10) * p ≡ (n + 1) * (p * 10)
scaled n p = omega arith

-- digits spell a number below that power of 10
below_power : (n : ℕ) (digits : List ℕ) → list_all is_digit digits ≡ true → number_after n digits < (n + 1) * 10 ^ length digits
below_power n [] all = omega arith
below_power n (digit ∷ digits) all =
    let parts = and_parts (is_digit digit) (list_all is_digit digits) all in
    let small = digit_bounds digit parts.0 in
    let later = below_power (n * 10 + (digit - 48)) digits parts.1 in
    let more : (n * 10 + (digit - 48) + 1) * 10 ^ length digits ≤ (n * 10 + 10) * 10 ^ length digits =
    mul-le-mul_right (10 ^ length digits) (omega (arith, small)) in
    let is : (n * 10 + 10) * 10 ^ length digits ≡ (n + 1) * 10 ^ suc (length digits) =
    scaled n (10 ^ length digits) ∙ ap (λ p. (n + 1) * p) (sym (pow-suc 10 (length digits))) in
    omega (arith, later, more, is)

pub number_below : (most : ℕ) (text : List ℕ) → are_digits most text ≡ true → number_after 0 text < 10 ^ most
number_below most text is =
    let parts = and_parts (nat_le 1 (length text) && nat_le (length text) most) (list_all is_digit text) is in
    let few : length text ≤ most = let lengths = and_parts (nat_le 1 (length text)) (nat_le (length text) most) parts.0 in grind (arith, nat_tests, lengths.1) in
    let power : 10 ^ length text ≤ 10 ^ most = pow-le-pow_right (lit≤ tt) few in
    let below = below_power 0 text parts.1 in
    omega (arith, power, below)

-- up to 19 digits, 64 bits are enough
pub read_in_64_bits : (most : ℕ) (text : List ℕ) → 10 ^ most ≤ 18446744073709551616 → option_and_then within_64_bits (read_digits most text) ≡ read_digits most text
read_in_64_bits most text small = by (are_digits most text) refl
  where
    by : (is : Bool) → are_digits most text ≡ is
        → option_and_then within_64_bits (if is then Some (number_after 0 text) else None) ≡ (if is then Some (number_after 0 text) else None)
    by true is = let below = number_below most text is in in_64_bits (number_after 0 text) (omega (arith, small, below))
    by false is = refl

pub read_below : (most : ℕ) (text : List ℕ) → ForSome (read_digits most text) (λ number. number < 10 ^ most)
read_below most text = by (are_digits most text) refl
  where
    by : (is : Bool) → are_digits most text ≡ is → ForSome (if is then Some (number_after 0 text) else None) (λ number. number < 10 ^ most)
    by true is = λ number same.
        let it : number_after 0 text ≡ number = ap (λ found. unwrap_or found 0) same in
        let below = number_below most text is in
        omega (arith, it, below)
    by false is = λ number same. absurd (cc)
