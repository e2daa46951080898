-- Rounding down by the remainder.
use Rattle.rw_base.proofs.Common.{◌≡◌, ◌≢◌, ℤ, pos, ◌-ℤ◌, ◌≤ℤ◌, ◌∙◌, ap, subst, arith, rules, FitsSigned, to_z, of_z}
use Rattle.rw_base.proofs.Common.{w64, int_rem, Option, Some, None, SomeIff, ints, quot-rem, to_z-of_z}
use Rattle.rw_base.specs.Quantity.{IsQuantity}
use Rattle.rw_base.specs.Predefined.{rounded_down}
use Rattle.rw_base.proofs.Rounding.{rounded_down_is}

-- a number without what is left of it over b
rounded_by_rest : (a b : ℤ) → b ≢ pos 0 → (a -ℤ int_rem a b) ≡ rounded_down a b
rounded_by_rest a b h = let rounded = rounded_down_is a b h in omega (arith, ints, quot-rem a b)

-- 64 bits hold the difference of two quantities
abbrev pub cast : ℤ → ℤ
cast z = to_z w64 (of_z w64 z)

abbrev pub twice_most : ℤ
twice_most = pos 200000000000000000

cast_same : (z : ℤ) → (pos 0 -ℤ twice_most) ≤ℤ z → z ≤ℤ twice_most → cast z ≡ z
cast_same z low high = to_z-of_z w64 z (search (rules, low, high))

cast_quantity : (z : ℤ) → IsQuantity z → cast z ≡ z
cast_quantity z q = cast_same z (omega (arith, ints, q.low)) (omega (arith, ints, q.high))

cast_rest : (a b : ℤ) → b ≢ pos 0 → IsQuantity a → IsQuantity (rounded_down a b) → cast (int_rem a b) ≡ int_rem a b
cast_rest a b h q r =
    let rounded = rounded_by_rest a b h in
    cast_same (int_rem a b) (omega (arith, ints, q.low, r.high)) (omega (arith, ints, q.high, r.low))

pub difference : (a b : ℤ) → b ≢ pos 0 → IsQuantity a → IsQuantity b → IsQuantity (rounded_down a b)
    → (cast a -ℤ cast (int_rem (cast a) (cast b))) ≡ rounded_down a b
difference a b h q s r = rw (cast_quantity a q, cast_quantity b s, cast_rest a b h q r) (rounded_by_rest a b h)

pub quantity_fits : (z : ℤ) → IsQuantity z → FitsSigned w64 z
quantity_fits z q = search (rules, q.low, q.high)

cast_difference : (z y : ℤ) → z ≡ y → IsQuantity y → cast z ≡ y
cast_difference z y e q = ap cast e ∙ cast_quantity y q

-- what is made of a quantity is there
made_of : (o : Option ℤ) (z : ℤ) → SomeIff o (IsQuantity z) z → IsQuantity z → o ≡ Some z
made_of (Some y) z h q = search (rules, h, q)
made_of None z h q = search (rules, h, q)

pub made : (o : Option ℤ) (z y : ℤ) → z ≡ y → SomeIff o (IsQuantity (cast z)) (cast z) → IsQuantity y → o ≡ Some y
made o z y e h q = made_of o y (subst (λ x. SomeIff o (IsQuantity x) x) (cast_difference z y e q) h) q
