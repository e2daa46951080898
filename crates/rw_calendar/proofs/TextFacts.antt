-- What the formatter writes of a number with leading zeros is the number in so many digits.
use Rattle.rw_base.proofs.Common.{◌≡◌, ℕ, ◌+◌, ◌-◌, ◌/◌, ◌%◌, ◌<◌, ◌≤◌, ◌^◌, inl, inr, List, [], ◌∷◌, ◌++◌, ap, ◌∙◌, arith, cases_lt, decimal_digit}
use Rattle.rw_base.proofs.Common.{decimal_step, format_spec, styled_decimal, decimal}
use Rattle.std.specs.Fmt.{padded_integral, char_count}
use Rattle.rw_calendar.specs.Stamps.{in_digits}

-- what `{:02}` and `{:04}` write
abbrev pub with_zeros : ℕ → ℕ → List ℕ
with_zeros width = styled_decimal (format_spec 32 0 4 width (2 ^ 64 - 1))

decimal_two : (n : ℕ) → 10 ≤ n → n < 100 → decimal n ≡ (48 + n / 10) ∷ (48 + n % 10) ∷ []
decimal_two n ten h = decimal_step n ten (omega arith) ∙ ap (λ ds. ds ++ (48 + n % 10) ∷ []) (decimal_digit (n / 10) (omega arith))

decimal_three : (n : ℕ) → 100 ≤ n → n < 1000 → decimal n ≡ (48 + n / 10 / 10) ∷ (48 + n / 10 % 10) ∷ (48 + n % 10) ∷ []
decimal_three n hundred h =
    decimal_step n (omega arith) (omega arith) ∙ ap (λ ds. ds ++ (48 + n % 10) ∷ []) (decimal_two (n / 10) (omega arith) (omega arith))

decimal_four : (n : ℕ) → 1000 ≤ n → n < 10000
    → decimal n ≡ (48 + n / 10 / 10 / 10) ∷ (48 + n / 10 / 10 % 10) ∷ (48 + n / 10 % 10) ∷ (48 + n % 10) ∷ []
decimal_four n thousand h =
    decimal_step n (omega arith) (omega arith) ∙ ap (λ ds. ds ++ (48 + n % 10) ∷ []) (decimal_three (n / 10) (omega arith) (omega arith))

pub two_digits : (n : ℕ) → n < 100 → with_zeros 2 n ≡ in_digits 2 n
unfolding padded_integral char_count
two_digits n h = elim (cases_lt n 10) [
  | inl one ↦
      let tens : n / 10 ≡ 0 = omega arith in
      let ones : n % 10 ≡ n = omega arith in
      rw (decimal_digit n one, tens, ones)
  | inr two ↦
      let tens : n / 10 % 10 ≡ n / 10 = omega arith in
      rw (decimal_two n two h, tens)
]

pub four_digits : (n : ℕ) → n < 10000 → with_zeros 4 n ≡ in_digits 4 n
unfolding padded_integral char_count
four_digits n h = elim (cases_lt n 10) [
  | inl one ↦
      let tens : n / 10 ≡ 0 = omega arith in
      let ones : n % 10 ≡ n = omega arith in
      rw (decimal_digit n one, tens, ones)
  | inr two ↦ elim (cases_lt n 100) [
    | inl below ↦
        let hundreds : n / 10 / 10 ≡ 0 = omega arith in
        let tens : n / 10 % 10 ≡ n / 10 = omega arith in
        rw (decimal_two n two below, hundreds, tens)
    | inr three ↦ elim (cases_lt n 1000) [
      | inl below ↦
          let thousands : n / 10 / 10 / 10 ≡ 0 = omega arith in
          let hundreds : n / 10 / 10 % 10 ≡ n / 10 / 10 = omega arith in
          rw (decimal_three n three below, thousands, hundreds)
      | inr four ↦
          let thousands : n / 10 / 10 / 10 % 10 ≡ n / 10 / 10 / 10 = omega arith in
          rw (decimal_four n four h, thousands)
    ]
  ]
]
