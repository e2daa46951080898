-- Numbers as bits of words.
use Rattle.rw_base.proofs.Common.{Bool, List, ap, arith, false, get_or, get_or-set_other, get_or-set_same, length, nat_eq, nat_tests, not, refl, set}
use Rattle.rw_base.proofs.Common.{replicate, slice_index_or, suc, sym, true, w64, zero, ℕ, ◌%◌, ◌&&◌, ◌*◌, ◌/◌, ◌<◌, ◌==◌, ◌^◌, ◌||◌, ◌∙◌, ◌≡◌, ◌≢◌}
use Rattle.std.proofs.lemmas.Nat.Bits.{bit_at-zero, bit_at_clear_other, bit_at_clear_same, bit_at_set_other, bit_at_set_same}
use Rattle.std.specs.Int.{bit_at, bit_not}
use Rattle.std.specs.Int.Bits.{bit_and}
use Rattle.std.specs.Int.RustNames.{bit_or}
use Rattle.rw_base.specs.Bit.{has_bit}

-- a number is one bit of one word
same_number : (number other : ℕ) → other / 64 ≡ number / 64 → other % 64 ≡ number % 64 → other ≡ number
same_number number other word bit = omega (arith, word, bit)

bit_below : (number : ℕ) → number % 64 < 64
bit_below number = omega arith

apart_word : (number other : ℕ) → other / 64 ≢ number / 64 → (other == number) ≡ false
apart_word number other apart = by (other == number) refl
  where
    by : (same : Bool) → (other == number) ≡ same → same ≡ false
    by true same = let is : other ≡ number = grind (arith, nat_tests, same) in absurd (apart (ap (λ k. k / 64) is))
    by false same = refl

apart_bit : (number other : ℕ) → other % 64 ≢ number % 64 → (other == number) ≡ false
apart_bit number other apart = by (other == number) refl
  where
    by : (same : Bool) → (other == number) ≡ same → same ≡ false
    by true same = let is : other ≡ number = grind (arith, nat_tests, same) in absurd (apart (ap (λ k. k % 64) is))
    by false same = refl

-- one bit more is set
pub added : (words : List ℕ) (number other : ℕ) → number / 64 < length words
    → has_bit (set words (number / 64) (bit_or (slice_index_or words (number / 64) 0) (1 * 2 ^ (number % 64) % 2 ^ 64))) other
    ≡ (other == number || has_bit words other)
added words number other near = by (nat_eq (other / 64) (number / 64)) refl
  where
    word : ℕ
    word = slice_index_or words (number / 64) 0

    new : ℕ
    new = bit_or word (1 * 2 ^ (number % 64) % 2 ^ 64)

    bit : (same : Bool) → other / 64 ≡ number / 64 → nat_eq (other % 64) (number % 64) ≡ same
        → (bit_at new (other % 64) == 1) ≡ (other == number || (bit_at word (other % 64) == 1))
    bit true place same =
        let is_bit : other % 64 ≡ number % 64 = grind (arith, nat_tests, same) in
        let is : other ≡ number = same_number number other place is_bit in
        let set_now : bit_at new (other % 64) ≡ 1 = ap (bit_at new) is_bit ∙ bit_at_set_same w64 word (number % 64) (bit_below number) in
        let here : (other == number) ≡ true = grind (arith, nat_tests, is) in
        ap (λ k. k == 1) set_now ∙ sym (ap (λ t. t || (bit_at word (other % 64) == 1)) here)
    bit false place apart =
        let away : other % 64 ≢ number % 64 = grind (arith, nat_tests, apart) in
        ap (λ k. k == 1) (bit_at_set_other w64 word (number % 64) (bit_below number) (other % 64) away)
        ∙ sym (ap (λ t. t || (bit_at word (other % 64) == 1)) (apart_bit number other away))

    by : (same : Bool) → nat_eq (other / 64) (number / 64) ≡ same
        → has_bit (set words (number / 64) new) other ≡ (other == number || has_bit words other)
    by true same =
        let place : other / 64 ≡ number / 64 = grind (arith, nat_tests, same) in
        ap (λ k. bit_at k (other % 64) == 1) (ap (λ p. get_or (set words (number / 64) new) p 0) place
        ∙ get_or-set_same words (number / 64) new 0 near)
        ∙ bit (nat_eq (other % 64) (number % 64)) place refl
        ∙ ap (λ p. other == number || (bit_at (get_or words p 0) (other % 64) == 1)) (sym place)
    by false apart =
        let away : other / 64 ≢ number / 64 = grind (arith, nat_tests, apart) in
        ap (λ k. bit_at k (other % 64) == 1) (get_or-set_other words (number / 64) (other / 64) new 0 away)
        ∙ sym (ap (λ t. t || has_bit words other) (apart_word number other away))

-- one bit less
pub taken : (words : List ℕ) (number other : ℕ) → number / 64 < length words
    → has_bit (set words (number / 64) (bit_and (slice_index_or words (number / 64) 0) (bit_not w64 (1 * 2 ^ (number % 64) % 2 ^ 64)))) other
    ≡ (not (other == number) && has_bit words other)
taken words number other near = by (nat_eq (other / 64) (number / 64)) refl
  where
    word : ℕ
    word = slice_index_or words (number / 64) 0

    new : ℕ
    new = bit_and word (bit_not w64 (1 * 2 ^ (number % 64) % 2 ^ 64))

    bit : (same : Bool) → other / 64 ≡ number / 64 → nat_eq (other % 64) (number % 64) ≡ same
        → (bit_at new (other % 64) == 1) ≡ (not (other == number) && (bit_at word (other % 64) == 1))
    bit true place same =
        let is_bit : other % 64 ≡ number % 64 = grind (arith, nat_tests, same) in
        let is : other ≡ number = same_number number other place is_bit in
        let none_now : bit_at new (other % 64) ≡ 0 = ap (bit_at new) is_bit ∙ bit_at_clear_same w64 word (number % 64) (bit_below number) in
        let here : (other == number) ≡ true = grind (arith, nat_tests, is) in
        ap (λ k. k == 1) none_now ∙ sym (ap (λ t. not t && (bit_at word (other % 64) == 1)) here)
    bit false place apart =
        let away : other % 64 ≢ number % 64 = grind (arith, nat_tests, apart) in
        ap (λ k. k == 1) (bit_at_clear_other w64 word (number % 64) (bit_below number) (other % 64) (bit_below other) away)
        ∙ sym (ap (λ t. not t && (bit_at word (other % 64) == 1)) (apart_bit number other away))

    by : (same : Bool) → nat_eq (other / 64) (number / 64) ≡ same
        → has_bit (set words (number / 64) new) other ≡ (not (other == number) && has_bit words other)
    by true same =
        let place : other / 64 ≡ number / 64 = grind (arith, nat_tests, same) in
        ap (λ k. bit_at k (other % 64) == 1) (ap (λ p. get_or (set words (number / 64) new) p 0) place ∙ get_or-set_same words (number / 64) new 0 near)
        ∙ bit (nat_eq (other % 64) (number % 64)) place refl
        ∙ ap (λ p. not (other == number) && (bit_at (get_or words p 0) (other % 64) == 1)) (sym place)
    by false apart =
        let away : other / 64 ≢ number / 64 = grind (arith, nat_tests, apart) in
        ap (λ k. bit_at k (other % 64) == 1) (get_or-set_other words (number / 64) (other / 64) new 0 away)
        ∙ sym (ap (λ t. not t && has_bit words other) (apart_word number other away))

-- at first no bit is set
pub blank_at : {X : Type 0} (x : X) (n k : ℕ) → get_or (replicate n x) k x ≡ x
blank_at x zero k = refl
blank_at x (suc n) zero = refl
blank_at x (suc n) (suc k) = blank_at x n k

pub no_bit : (n number : ℕ) → has_bit (replicate n 0) number ≡ false
no_bit n number =
    ap (λ word. bit_at word (number % 64) == 1) (blank_at {X = ℕ} 0 n (number / 64)) ∙ ap (λ bit. bit == 1) (bit_at-zero (number % 64))
