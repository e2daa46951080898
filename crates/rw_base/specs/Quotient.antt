-- The quotient of whole numbers, rounded down.
use Rattle.std.specs.Prelude.{ℤ, pos, negsuc, suc, neg_ℤ, ◌+ℤ◌, ◌*ℤ◌, ◌≤ℤ◌, ◌<ℤ◌}
use Rattle.std.specs.Int.{int_div_euclid}

-- a / b rounded down, where b is not 0. Over a divisor above 0 the remainder is not negative, and a / -b is -a / b
abbrev pub floor_div : ℤ → ℤ → ℤ
floor_div a (pos b) = int_div_euclid a (pos b)
floor_div a (negsuc b) = int_div_euclid (neg_ℤ a) (pos (suc b))

-- q is the greatest whole number that is not above the exact quotient a / b: q <= a / b < q + 1, times b
pub record IsFloor (a b q : ℤ) : Type 0 where
  pub over_positive : pos 0 <ℤ b → ((q *ℤ b) ≤ℤ a) × (a <ℤ ((q +ℤ pos 1) *ℤ b))
  pub over_negative : b <ℤ pos 0 → (((q +ℤ pos 1) *ℤ b) <ℤ a) × (a ≤ℤ (q *ℤ b))
