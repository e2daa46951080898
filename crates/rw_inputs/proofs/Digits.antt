-- Digits alone are one number.
use Rattle.rw_base.proofs.Common.{◌≡◌, ℕ, ◌+◌, ◌==◌, if◌then◌else◌, true, false, Bool, Option, Some, None, List, [], ◌∷◌, arith, refl, ap, sym, ◌∙◌}
use Rattle.rw_base.proofs.Common.{list_all, and_parts, nat_tests}
use Rattle.rw_base.specs.Byte.{is_digit}
use Rattle.rw_base.specs.Digit.{are_digits, number_after}
use Rattle.rw_base.proofs.Digits.{digit_bounds}
use Rattle.rw_inputs.specs.Number.{read_number, place_from, byte_position}
use Rattle.rw_inputs.specs.Row.{span_of, span_in}

-- digits alone have no `-`
no_dash : (text : List ℕ) (place : ℕ) → list_all is_digit text ≡ true → place_from place 45 text ≡ None
no_dash [] place all = refl
no_dash (byte ∷ text) place all =
    let here = digit_bounds byte (and_parts _ _ all).0 in
    let other : (byte == 45) ≡ false = grind (arith, nat_tests, here) in
    rw other (no_dash text (place + 1) (and_parts _ _ all).1)

all_digits : (text : List ℕ) (number : ℕ) (test : Bool) → are_digits 18 text ≡ test → Some number ≡ read_number text → list_all is_digit text ≡ true
all_digits text number true is some = (and_parts _ _ is).1
all_digits text number false is some =
    let none : Some number ≡ None = some ∙ ap (λ (t : Bool). if t then Some (number_after 0 text) else None) is in absurd (cc)

pub one_number : (text : List ℕ) (number : ℕ) → Some number ≡ read_number text → Some (number, number) ≡ span_in text (byte_position 45 text)
one_number text number some =
    let none = no_dash text 0 (all_digits text number (are_digits 18 text) refl some) in
    ap (λ (read : Option ℕ). span_of read read) some ∙ ap (span_in text) (sym none)
