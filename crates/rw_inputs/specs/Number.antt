-- The numbers that texts spell, and the place of a byte in a text.
use Rattle.std.specs.Prelude.{ℕ, ◌+◌, ◌==◌, ℤ, pos, neg_ℤ, if◌then◌else◌, List, [], ◌∷◌, Option, Some, None, option_map}
use Rattle.rw_base.specs.Digit.{read_digits}
use Rattle.rw_inputs.specs.declared.limits.TheConstants.{DIGITS_MAX}

-- the number that a text of 1 to 18 digits spells
abbrev pub read_number : List ℕ → Option ℕ
read_number text = read_digits DIGITS_MAX text

-- the same, and behind a `-` the number below 0
abbrev pub read_signed : List ℕ → Option ℤ
read_signed [] = None
read_signed (byte ∷ text) =
    if byte == 45 then option_map (λ n. neg_ℤ (pos n)) (read_number text) else option_map (λ n. pos n) (read_number (byte ∷ text))

-- the first place of the byte, where places count from the one that is given
abbrev pub place_from : ℕ → ℕ → List ℕ → Option ℕ
place_from place byte [] = None
place_from place byte (b ∷ text) = if b == byte then Some place else place_from (place + 1) byte text

-- the first place of the byte in a text, counted from 0
abbrev pub byte_position : ℕ → List ℕ → Option ℕ
byte_position byte text = place_from 0 byte text
