-- The numbers that texts of digits spell.
use Rattle.std.specs.Prelude.{ℕ, ◌+◌, ◌-◌, ◌*◌, nat_le, Bool, ◌&&◌, if◌then◌else◌, List, [], ◌∷◌, length, Option, Some, None}
use Rattle.std.specs.List.{list_all}
use Rattle.rw_base.specs.Byte.{is_digit}

-- the number that digits spell behind those that spell n
abbrev pub number_after : ℕ → List ℕ → ℕ
number_after n [] = n
number_after n (digit ∷ digits) = number_after (n * 10 + (digit - 48)) digits

-- 1 to so many digits
abbrev pub are_digits : ℕ → List ℕ → Bool
are_digits most text = (nat_le 1 (length text) && nat_le (length text) most) && list_all is_digit text

-- the number that a text of 1 to so many digits spells
abbrev pub read_digits : ℕ → List ℕ → Option ℕ
read_digits most text = if are_digits most text then Some (number_after 0 text) else None

-- a number of at most 2^64 - 1
abbrev pub within_64_bits : ℕ → Option ℕ
within_64_bits number = if nat_le number 18446744073709551615 then Some number else None
