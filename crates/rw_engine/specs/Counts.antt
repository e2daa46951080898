-- Counts of numbered things, that of number 1 first.
use Rattle.std.specs.Prelude.{ℕ, ◌+◌, ◌-◌, ◌≤◌, List, [], ◌∷◌, length, set, slice_index_or}

-- there is a count for the number
pub record HasCount (counts : List ℕ) (number : ℕ) : Type 0 where
  pub first : 1 ≤ number
  pub last : number ≤ length counts

abbrev pub count_of_number : List ℕ → ℕ → ℕ
count_of_number counts number = slice_index_or counts (number - 1) 0

-- the number is counted once more
abbrev pub raised : List ℕ → ℕ → List ℕ
raised counts number = set counts (number - 1) (count_of_number counts number + 1)

-- how often the numbers may still be counted, up to a limit each
abbrev pub room : ℕ → List ℕ → ℕ
room limit [] = 0
room limit (count ∷ counts) = (limit - count) + room limit counts
