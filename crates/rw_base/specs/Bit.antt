-- Numbers as bits of words.
use Rattle.std.specs.Prelude.{◌/◌, ◌%◌, ◌==◌, ℕ, Bool, List, slice_index_or}
use Rattle.std.specs.Int.{bit_at}

-- the bit of a number is set: 64 in each word, that of 0 first
abbrev pub has_bit : List ℕ → ℕ → Bool
has_bit words number = bit_at (slice_index_or words (number / 64) 0) (number % 64) == 1
