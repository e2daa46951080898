-- The predefined functions, which rules call by name, on whole numbers. A rule's call hands over up to three arguments, and 0 for the others.
use Rattle.std.specs.Prelude.{◌≡◌, ℕ, zero, ◌==◌, if◌then◌else◌, ℤ, pos, ◌-ℤ◌, ◌*ℤ◌, ◌≤ℤ◌, ◌⊎◌, int_div, unsigned_abs}
use Rattle.std.specs.Int.{int_min, int_max, int_signum}
use Rattle.rw_base.specs.Quantity.{quantity_max}
use Rattle.rw_base.specs.Quotient.{floor_div}

-- a without its sign
abbrev pub size_of : ℤ → ℤ
size_of a = pos (unsigned_abs a)

-- a brought to at most c, and then to at least b
abbrev pub clamped : ℤ → ℤ → ℤ → ℤ
clamped a b c = int_max b (int_min a c)

-- the multiple of b nearest to a between 0 and a, and a itself where b is 0
abbrev pub rounded_down : ℤ → ℤ → ℤ
rounded_down a (pos zero) = a
rounded_down a b = int_div a b *ℤ b

-- -1 below 0, 0 at 0, 1 above
abbrev pub sign_of : ℤ → ℤ
sign_of = int_signum

-- a brought within -Q and Q
abbrev pub nearest_quantity : ℤ → ℤ
nearest_quantity a = clamped a (pos 0 -ℤ quantity_max) quantity_max

-- the floor of a * b / c, brought within -Q and Q, and 0 where c is 0
abbrev pub mul_div : ℤ → ℤ → ℤ → ℤ
mul_div a b (pos zero) = pos 0
mul_div a b c = nearest_quantity (floor_div (a *ℤ b) c)

-- 1 Min(a, b), 2 Max(a, b), 3 Abs(a), 4 Clamp(a, b, c), 5 RoundDown(a, b), 6 Sign(a), 7 MulDiv(a, b, c)
abbrev pub predefined_of : ℕ → ℤ → ℤ → ℤ → ℤ
predefined_of k a b c =
    if k == 1 then int_min a b else
    (if k == 2 then int_max a b else
    (if k == 3 then size_of a else
    (if k == 4 then clamped a b c else
    (if k == 5 then rounded_down a b else
    (if k == 6 then sign_of a else
    (if k == 7 then mul_div a b c else pos 0))))))

-- m lies between 0 and a, both included
abbrev pub IsFromZeroTo : ℤ → ℤ → Type 0
IsFromZeroTo a m = ((pos 0 ≤ℤ m) × (m ≤ℤ a)) ⊎ ((a ≤ℤ m) × (m ≤ℤ pos 0))

abbrev pub IsMultipleOf : ℤ → ℤ → Type 0
IsMultipleOf b m = (n : ℤ) × (m ≡ n *ℤ b)

-- how far m is from a
abbrev pub distance : ℤ → ℤ → ℕ
distance a m = unsigned_abs (a -ℤ m)
