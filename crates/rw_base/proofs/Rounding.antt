-- What rounding down gives.
use Rattle.rw_base.proofs.Common.{◌≡◌, ◌≢◌, ℕ, zero, suc, ◌*◌, ◌/◌, ◌<◌, ◌≤◌, ℤ, pos, negsuc, ◌*ℤ◌, refl, ap, ◌∙◌, arith, int_div, unsigned_abs, ints}
use Rattle.rw_base.proofs.Common.{quot-rem, unsigned_abs-mul, cases_lt, div-add-mod', mod-lt, mod-le, inl, inr, ⊎_elim}
use Rattle.std.proofs.Math.Nat.{mul-le-mul_right}
use Rattle.rw_base.specs.Predefined.{rounded_down, IsFromZeroTo, IsMultipleOf, distance}

pub rounded_down_is : (a b : ℤ) → b ≢ pos 0 → rounded_down a b ≡ int_div a b *ℤ b
rounded_down_is a (pos zero) h = absurd (h refl)
rounded_down_is a (pos (suc b)) h = refl
rounded_down_is a (negsuc b) h = refl

-- ---- where the rounded number lies: the remainder has the sign of a and at most its size

from_zero : (a b : ℤ) → b ≢ pos 0 → IsFromZeroTo a (rounded_down a b)
from_zero (pos n) b h = rw (rounded_down_is (pos n) b h)
    (inl (omega (arith, ints, quot-rem (pos n) b, mod-le n (unsigned_abs b)), omega (arith, ints, quot-rem (pos n) b)))
from_zero (negsuc n) b h = rw (rounded_down_is (negsuc n) b h)
    (inr (omega (arith, ints, quot-rem (negsuc n) b), omega (arith, ints, quot-rem (negsuc n) b, mod-le (suc n) (unsigned_abs b))))

pub IsFromZeroTo-rounded_down : (a b : ℤ) → IsFromZeroTo a (rounded_down a b)
IsFromZeroTo-rounded_down (pos n) (pos zero) = inl (omega (arith, ints), omega (arith, ints))
IsFromZeroTo-rounded_down (negsuc n) (pos zero) = inr (omega (arith, ints), omega (arith, ints))
IsFromZeroTo-rounded_down a (pos (suc b)) = from_zero a (pos (suc b)) (λ e. omega (arith, ints))
IsFromZeroTo-rounded_down a (negsuc b) = from_zero a (negsuc b) (λ e. omega (arith, ints))

-- ---- that no multiple is nearer: none has a greater size

unsigned_abs-int_div : (a b : ℤ) → unsigned_abs (int_div a b) ≡ unsigned_abs a / unsigned_abs b
unsigned_abs-int_div (pos n) (pos m) = refl
unsigned_abs-int_div (pos n) (negsuc m) = omega (arith, ints)
unsigned_abs-int_div (negsuc n) (pos m) = omega (arith, ints)
unsigned_abs-int_div (negsuc n) (negsuc m) = refl

last_multiple : (n d k : ℕ) → 0 < d → k * d ≤ n → k * d ≤ n / d * d
last_multiple n d k h e = ⊎_elim
    (λ more. absurd (omega (arith, mul-le-mul_right d more, div-add-mod' n d, mod-lt n h)))
    (λ less. mul-le-mul_right d less)
    (cases_lt (n / d) k)

unsigned_abs-between : (a m : ℤ) → IsFromZeroTo a m → unsigned_abs m ≤ unsigned_abs a
unsigned_abs-between a m (inl up) = omega (arith, ints)
unsigned_abs-between a m (inr down) = omega (arith, ints)

greater_nearer : (a r m : ℤ) → IsFromZeroTo a r → IsFromZeroTo a m → unsigned_abs m ≤ unsigned_abs r → distance a r ≤ distance a m
greater_nearer a r m (inl x) (inl y) h = omega (arith, ints)
greater_nearer a r m (inl x) (inr y) h = omega (arith, ints)
greater_nearer a r m (inr x) (inl y) h = omega (arith, ints)
greater_nearer a r m (inr x) (inr y) h = omega (arith, ints)

nearest : (a b m : ℤ) → b ≢ pos 0 → IsMultipleOf b m → IsFromZeroTo a m → distance a (rounded_down a b) ≤ distance a m
nearest a b m h k between =
    let d = unsigned_abs b in
    let some : 0 < d = omega (arith, ints) in
    let size = ap unsigned_abs k.1 ∙ unsigned_abs-mul k.0 b in
    let rounded = ap unsigned_abs (rounded_down_is a b h) ∙ unsigned_abs-mul (int_div a b) b ∙ ap (λ n. n * d) (unsigned_abs-int_div a b) in
    let last = last_multiple (unsigned_abs a) d (unsigned_abs k.0) some (omega (arith, unsigned_abs-between a m between)) in
    greater_nearer a (rounded_down a b) m (IsFromZeroTo-rounded_down a b) between (omega arith)

pub distance-rounded_down : (a b m : ℤ) → IsMultipleOf b m → IsFromZeroTo a m → distance a (rounded_down a b) ≤ distance a m
distance-rounded_down a (pos zero) m k between = omega (arith, ints)
distance-rounded_down a (pos (suc b)) m k between = nearest a (pos (suc b)) m (λ e. omega (arith, ints)) k between
distance-rounded_down a (negsuc b) m k between = nearest a (negsuc b) m (λ e. omega (arith, ints)) k between
