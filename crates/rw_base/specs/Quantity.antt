-- Quantities, and what exact arithmetic answers.
use Rattle.std.specs.Prelude.{◌≡◌, ℤ, pos, ◌-ℤ◌, ◌≤ℤ◌, Result, Ok, Err}
use Rattle.rw_base.specs.declared.quantity.ArithFault.{ArithFault}
use Rattle.rw_base.specs.declared.quantity.ArithFault.TheVariants.{ZeroDivisor, OutOfRange}

-- Q, the greatest quantity
abbrev pub quantity_max : ℤ
quantity_max = pos 100000000000000000

-- a whole number from -Q to Q
pub record IsQuantity (z : ℤ) : Type 0 where
  pub low : (pos 0 -ℤ quantity_max) ≤ℤ z
  pub high : z ≤ℤ quantity_max

-- the exact result where it is a quantity, and otherwise a fault that carries it
abbrev pub AnswersExactly : ℤ → Result ℤ ArithFault → Type 0
AnswersExactly exact (Ok q) = IsQuantity exact × (q ≡ exact)
AnswersExactly exact (Err ZeroDivisor) = ⊥
AnswersExactly exact (Err (OutOfRange found)) = ¬ IsQuantity exact × (found ≡ exact)
