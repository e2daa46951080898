-- The first turn in words.
use Rattle.rw_base.proofs.Common.{◌≡◌, ◌∙◌, ◌≢◌, ◌*◌, ◌+◌, ◌-◌, ◌/◌, ◌%◌, ◌^◌, ◌<◌, ◌≤◌, ◌==◌, ◌||◌, ◌&&◌, ◌⊎◌, ℕ, inl, inr, Bool, true, false, not}
use Rattle.rw_base.proofs.Common.{List, None, Some, ap, arith, get_or, get_or-set_other, get_or-set_same, get_or_past, if◌then◌else◌, length, nat_eq}
use Rattle.rw_base.proofs.Common.{nat_tests, refl, set, slice_index_or, subst, sym, w64}
use Rattle.std.proofs.Math.Nat.{div-div-eq-div-mul}
use Rattle.std.proofs.lemmas.Bool.{cases_lt}
use Rattle.std.proofs.lemmas.Nat.{pow-add, shr_le}
use Rattle.std.proofs.lemmas.Nat.Bits.{bit_at-trailing_zeros, bit_at-zero, bit_at_above, bit_at_clear_other, bit_at_clear_same, bit_at_set_other}
use Rattle.std.proofs.lemmas.Nat.Bits.{bit_at_set_same}
use Rattle.std.specs.Int.{bit_at, bit_not, trailing_zeros}
use Rattle.std.specs.Int.Bits.{bit_and}
use Rattle.std.specs.Int.RustNames.{bit_or}
use Rattle.rw_base.specs.Bit.{has_bit}
use Rattle.rw_agenda.specs.Marks.{IsFirstBit, IsFirstOf, IsFirstTurn}

-- ---- the first bit of a word

shifted : (word from bit : ℕ) → bit_at (word / 2 ^ from) bit ≡ bit_at word (from + bit)
shifted word from bit =
    ap (λ k. k % 2) (div-div-eq-div-mul word (2 ^ from) (2 ^ bit) ∙ ap (λ d. word / d) (sym (pow-add 2 from bit)))

shifted_from : (word from bit : ℕ) → from ≤ bit → bit_at word bit ≡ bit_at (word / 2 ^ from) (bit - from)
shifted_from word from bit after =
    let at : from + (bit - from) ≡ bit = omega (arith, after) in
    sym (shifted word from (bit - from) ∙ ap (bit_at word) at)

pub none_left : (word from : ℕ) → word / 2 ^ from ≡ 0 → IsFirstBit word from None
none_left word from none bit after =
    shifted_from word from bit after ∙ ap (λ left. bit_at left (bit - from)) none ∙ bit_at-zero (bit - from)

pub first_left : (word from : ℕ) → word < 2 ^ 64 → 0 < word / 2 ^ from → IsFirstBit word from (Some (from + trailing_zeros w64 (word / 2 ^ from)))
first_left word from small some = record {
  from_there = omega arith;
  last = within (cases_lt (from + k) 64);
  there = is_set;
  none_before = λ bit after below.
      let near : bit - from < k = omega (arith, after, below) in shifted_from word from bit after ∙ lowest.2 (bit - from) near;
}
  where
    left : ℕ
    left = word / 2 ^ from

    k : ℕ
    k = trailing_zeros w64 left

    left_small : left < 2 ^ 64
    left_small = let less = shr_le word from in omega (arith, less, small)

    lowest : (k < 64) × (bit_at left k ≡ 1) × ((i : ℕ) → i < k → bit_at left i ≡ 0)
    lowest = bit_at-trailing_zeros w64 left some left_small

    is_set : bit_at word (from + k) ≡ 1
    is_set = sym (shifted word from k) ∙ lowest.1

    within : (from + k < 64) ⊎ (64 ≤ from + k) → from + k < 64
    within (inl near) = near
    within (inr far) = let none : 1 ≡ 0 = sym is_set ∙ bit_at_above word 64 (from + k) small far in absurd (omega (arith, none))

-- ---- the first turn

abbrev pub low_in : ℕ → ℕ → ℕ
low_in from place = if from / 64 == place then from % 64 else 0

low_first : (from place bit : ℕ) → from / 64 ≤ place → low_in from place ≤ bit → from ≤ place * 64 + bit
low_first from place bit near low = by (from / 64 == place) refl low
  where
    by : (same : Bool) → (from / 64 == place) ≡ same → (if same then from % 64 else 0) ≤ bit → from ≤ place * 64 + bit
    by true same low = let is : from / 64 ≡ place = grind (arith, nat_tests, same) in omega (arith, is, low)
    by false same low = let apart : from / 64 ≢ place = grind (arith, nat_tests, same) in omega (arith, apart, near)

no_turn : (words : List ℕ) (place turn : ℕ) → turn / 64 ≡ place → bit_at (slice_index_or words place 0) (turn % 64) ≡ 0 → has_bit words turn ≡ false
no_turn words place turn at none =
    ap (λ p. bit_at (slice_index_or words p 0) (turn % 64) == 1) at ∙ ap (λ k. k == 1) none

-- no turn counts in the words before a place
abbrev pub NoneBefore : List ℕ → ℕ → ℕ → Type 0
NoneBefore words from place = (turn : ℕ) → from ≤ turn → turn < place * 64 → has_bit words turn ≡ false
