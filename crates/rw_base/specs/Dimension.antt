-- Dimensions: in which powers of the base units a quantity is measured.
use Rattle.std.specs.Prelude.{ℤ, pos, neg_ℤ, ◌+ℤ◌, ◌-ℤ◌, ◌≤ℤ◌, Option, SomeIff}

-- the exponents of the base units: m3 for volumes, mm for lengths, the timestep, and kWh for energy
pub record Dimension : Type 0 where
  pub volume : ℤ
  pub length : ℤ
  pub step : ℤ
  pub energy : ℤ

-- the dimension with these exponents, in the order above
abbrev pub dimension : ℤ → ℤ → ℤ → ℤ → Dimension
dimension v l s e = record { volume = v; length = l; step = s; energy = e }

-- a whole number from -6 to 6
pub record IsExponent (z : ℤ) : Type 0 where
  pub low : neg_ℤ (pos 6) ≤ℤ z
  pub high : z ≤ℤ pos 6

-- each exponent is from -6 to 6
pub record IsDimension (d : Dimension) : Type 0 where
  pub volume : IsExponent d.volume
  pub length : IsExponent d.length
  pub step : IsExponent d.step
  pub energy : IsExponent d.energy

-- the dimension where each of its exponents is from -6 to 6, and otherwise none
abbrev pub AnswersDimension : Dimension → Option Dimension → Type 0
AnswersDimension d answer = SomeIff answer (IsDimension d) d

-- the dimension of a product: the exponents added
abbrev pub times_of : Dimension → Dimension → Dimension
times_of a b = dimension (a.volume +ℤ b.volume) (a.length +ℤ b.length) (a.step +ℤ b.step) (a.energy +ℤ b.energy)

-- the dimension of a quotient: the exponents of b taken from those of a
abbrev pub per_of : Dimension → Dimension → Dimension
per_of a b = dimension (a.volume -ℤ b.volume) (a.length -ℤ b.length) (a.step -ℤ b.step) (a.energy -ℤ b.energy)

-- the dimension of a product over a number: the exponents of a and b added, and those of c taken away
abbrev pub times_per_of : Dimension → Dimension → Dimension → Dimension
times_per_of a b c = per_of (times_of a b) c
