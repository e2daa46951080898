-- Products of quantities, and their quotients.
use Rattle.rw_base.proofs.Common.{◌≡◌, ◌≢◌, ℕ, zero, suc, ◌*◌, ◌≤◌, ℤ, pos, negsuc, ◌-ℤ◌, ◌*ℤ◌, ◌≤ℤ◌, refl, arith, unsigned_abs, ints}
use Rattle.rw_base.proofs.Common.{unsigned_abs-mul}
use Rattle.std.proofs.Math.Nat.{mul-le-mul}
use Rattle.rw_base.specs.Quantity.{IsQuantity, quantity_max}
use Rattle.rw_base.specs.Quotient.{floor_div}
use Rattle.rw_base.specs.Predefined.{mul_div, nearest_quantity}

size_at_most : (a : ℤ) → IsQuantity a → unsigned_abs a ≤ 100000000000000000
size_at_most a q = omega (arith, ints, q.low, q.high)

-- a product of two quantities is at most Q * Q in size
pub product_in_range : (a b : ℤ) → IsQuantity a → IsQuantity b
    → ((pos 0 -ℤ (quantity_max *ℤ quantity_max)) ≤ℤ (a *ℤ b)) × ((a *ℤ b) ≤ℤ (quantity_max *ℤ quantity_max))
product_in_range a b p q =
    let size = mul-le-mul (size_at_most a p) (size_at_most b q) in
    (omega (arith, ints, unsigned_abs-mul a b, size), omega (arith, ints, unsigned_abs-mul a b, size))

pub mul_div_is : (a b c : ℤ) → c ≢ pos 0 → mul_div a b c ≡ nearest_quantity (floor_div (a *ℤ b) c)
mul_div_is a b (pos zero) h = absurd (h refl)
mul_div_is a b (pos (suc c)) h = refl
mul_div_is a b (negsuc c) h = refl
