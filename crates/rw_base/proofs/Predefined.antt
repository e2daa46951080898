-- The predefined functions lead from quantities to quantities.
use Rattle.rw_base.proofs.Common.{ℕ, zero, suc, ◌*ℤ◌, Bool, true, false, ℤ, pos, negsuc, arith, ◌==◌, if◌then◌else◌, ints, clamps, int_min, int_max}
use Rattle.rw_base.proofs.Common.{inl, inr}
use Rattle.rw_base.specs.Quantity.{IsQuantity}
use Rattle.rw_base.specs.Predefined.{size_of, rounded_down, sign_of, nearest_quantity, mul_div, predefined_of, IsFromZeroTo}
use Rattle.rw_base.specs.Quotient.{floor_div}
use Rattle.rw_base.proofs.Rounding.{IsFromZeroTo-rounded_down}

IsQuantity-if : (t : Bool) (x y : ℤ) → IsQuantity x → IsQuantity y → IsQuantity (if t then x else y)
IsQuantity-if true x y p q = p
IsQuantity-if false x y p q = q

-- what lies between 0 and a quantity is one
IsQuantity-between : (a m : ℤ) → IsQuantity a → IsFromZeroTo a m → IsQuantity m
IsQuantity-between a m q (inl up) = record { low = omega (arith, ints); high = omega (arith, ints, q.high) }
IsQuantity-between a m q (inr down) = record { low = omega (arith, ints, q.low); high = omega (arith, ints) }

IsQuantity-size_of : (a : ℤ) → IsQuantity a → IsQuantity (size_of a)
IsQuantity-size_of a q = record { low = omega (arith, ints); high = omega (arith, ints, q.low, q.high) }

IsQuantity-sign_of : (a : ℤ) → IsQuantity (sign_of a)
IsQuantity-sign_of (pos n) = record { low = omega (arith, ints); high = omega (arith, ints) }
IsQuantity-sign_of (negsuc n) = record { low = omega (arith, ints); high = omega (arith, ints) }

IsQuantity-int_min : (a b : ℤ) → IsQuantity a → IsQuantity b → IsQuantity (int_min a b)
IsQuantity-int_min a b p q = record { low = omega (arith, ints, clamps, p.low, q.low); high = omega (arith, ints, clamps, p.high) }

IsQuantity-int_max : (a b : ℤ) → IsQuantity a → IsQuantity b → IsQuantity (int_max a b)
IsQuantity-int_max a b p q = record { low = omega (arith, ints, clamps, p.low); high = omega (arith, ints, clamps, p.high, q.high) }

IsQuantity-nearest : (a : ℤ) → IsQuantity (nearest_quantity a)
IsQuantity-nearest a = record { low = omega (arith, ints, clamps); high = omega (arith, ints, clamps) }

IsQuantity-mul_div : (a b c : ℤ) → IsQuantity (mul_div a b c)
IsQuantity-mul_div a b (pos zero) = record { low = omega (arith, ints); high = omega (arith, ints) }
IsQuantity-mul_div a b (pos (suc c)) = IsQuantity-nearest (floor_div (a *ℤ b) (pos (suc c)))
IsQuantity-mul_div a b (negsuc c) = IsQuantity-nearest (floor_div (a *ℤ b) (negsuc c))

pub IsQuantity-predefined_of : (k : ℕ) (a b c : ℤ) → IsQuantity a → IsQuantity b → IsQuantity c → IsQuantity (predefined_of k a b c)
IsQuantity-predefined_of k a b c p q r =
    IsQuantity-if (k == 1) _ _ (IsQuantity-int_min a b p q)
    (IsQuantity-if (k == 2) _ _ (IsQuantity-int_max a b p q)
    (IsQuantity-if (k == 3) _ _ (IsQuantity-size_of a p)
    (IsQuantity-if (k == 4) _ _ (IsQuantity-int_max b (int_min a c) q (IsQuantity-int_min a c p r))
    (IsQuantity-if (k == 5) _ _ (IsQuantity-between a (rounded_down a b) p (IsFromZeroTo-rounded_down a b))
    (IsQuantity-if (k == 6) _ _ (IsQuantity-sign_of a)
    (IsQuantity-if (k == 7) _ _ (IsQuantity-mul_div a b c) (record { low = omega (arith, ints); high = omega (arith, ints) })))))))
