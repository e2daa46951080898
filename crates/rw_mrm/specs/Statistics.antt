-- The least value of a list, its greatest, and its median.
use Rattle.std.specs.Prelude.{ℕ, ◌+◌, nat_le, ℤ, int_le, Bool, List, [], ◌∷◌, length, Option, Some, None}
use Rattle.std.specs.Int.{int_min, int_max}
use Rattle.std.specs.List.{filter, fold}

-- the lesser of the first and of each; an empty list has none
abbrev pub least_value : List ℤ → Option ℤ
least_value [] = None
least_value (first ∷ rest) = Some (fold int_min first (first ∷ rest))

-- the greater of the first and of each
abbrev pub greatest_value : List ℤ → Option ℤ
greatest_value [] = None
greatest_value (first ∷ rest) = Some (fold int_max first (first ∷ rest))

-- how many of the values are at most this one
abbrev pub count_up_to : List ℤ → ℤ → ℕ
count_up_to values most = length (filter (λ value. int_le value most) values)

-- at least half of the values are at most this one
abbrev pub is_half : List ℤ → ℤ → Bool
is_half values most = nat_le (length values) (count_up_to values most + count_up_to values most)

-- the least of the values of which that is so
abbrev pub median : List ℤ → Option ℤ
median values = least_value (filter (is_half values) values)
