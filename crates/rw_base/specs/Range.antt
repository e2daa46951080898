-- Ranges of whole numbers.
use Rattle.std.specs.Prelude.{ℤ, int_le, Bool, ◌&&◌}

-- a whole number from the lowest to the highest
abbrev pub is_from_to : ℤ → ℤ → ℤ → Bool
is_from_to low high z = int_le low z && int_le z high
