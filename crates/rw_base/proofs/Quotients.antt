-- What floor division gives.
use Rattle.rw_base.proofs.Common.{◌≡◌, ◌≢◌, ℕ, zero, suc, ◌+◌, ◌<◌, ◌≤◌, ℤ, pos, negsuc, neg_ℤ, ◌+ℤ◌, ◌*ℤ◌, ◌≤ℤ◌, ◌<ℤ◌, refl, ap, ◌∙◌, arith, ints}
use Rattle.rw_base.proofs.Common.{by_lt_z, div-add-mod', mod-lt, +ℤ_one, suc_ℤ-*ℤ, *ℤ-negsuc, int_div_euclid, up, down}
use Rattle.std.proofs.Math.Nat.{mul-le-mul_right}
use Rattle.rw_base.specs.Quotient.{floor_div, IsFloor}

add-one-times : (q b : ℤ) → (q +ℤ pos 1) *ℤ b ≡ q *ℤ b +ℤ b
add-one-times q b = ap (λ x. x *ℤ b) (+ℤ_one q) ∙ suc_ℤ-*ℤ q b

-- a number that is not 0 as a whole number is not 0
some : (b : ℕ) → pos b ≢ pos 0 → 0 < b
some zero h = absurd (h refl)
some (suc b) h = omega arith

-- ---- over a divisor above 0

not_above : (a : ℤ) (b : ℕ) → 0 < b → (int_div_euclid a (pos b) *ℤ pos b) ≤ℤ a
not_above (pos n) b h = omega (arith, ints, div-add-mod' n b)
not_above (negsuc n) b h = omega (arith, ints, div-add-mod' n b, mod-lt n h)

next_above : (a : ℤ) (b : ℕ) → 0 < b → a <ℤ (int_div_euclid a (pos b) *ℤ pos b +ℤ pos b)
next_above (pos n) b h = omega (arith, ints, div-add-mod' n b, mod-lt n h)
next_above (negsuc n) b h = omega (arith, ints, div-add-mod' n b)

-- multiples of a positive divisor keep the order
first_not_above : (a q r : ℤ) (b : ℕ) → (q *ℤ pos b) ≤ℤ a → a <ℤ (r *ℤ pos b +ℤ pos b) → q ≤ℤ r
first_not_above a q r b low high = by_lt_z r q
    (λ more. let gap : up r + down q + 1 ≤ up q + down r = omega (arith, ints) in absurd (omega (arith, ints, mul-le-mul_right b gap)))
    (λ less. less)

-- ---- over any divisor but 0

pub IsFloor-floor_div : (a b : ℤ) → IsFloor a b (floor_div a b)
IsFloor-floor_div a (pos b) = record {
  over_positive = λ some. (not_above a b (omega (arith, ints)), rw add-one-times (next_above a b (omega (arith, ints))));
  over_negative = λ none. absurd (omega (arith, ints));
}
IsFloor-floor_div a (negsuc b) =
    let q = floor_div a (negsuc b) in
    let turned = *ℤ-negsuc q b in
    let low = not_above (neg_ℤ a) (suc b) (omega arith) in
    let high = next_above (neg_ℤ a) (suc b) (omega arith) in
    record {
      over_positive = λ none. absurd (omega (arith, ints));
      over_negative = λ some. (rw add-one-times (omega (arith, ints)), omega (arith, ints));
    }

-- the floor is one number
pub IsFloor_alone : (a b q r : ℤ) → b ≢ pos 0 → IsFloor a b q → IsFloor a b r → q ≡ r
IsFloor_alone a (pos b) q r h f g =
    let positive : pos 0 <ℤ pos b = omega (arith, ints, some b h) in
    let one = rw add-one-times at (f.over_positive positive) in
    let other = rw add-one-times at (g.over_positive positive) in
    let up = first_not_above a q r b one.0 other.1 in
    let down = first_not_above a r q b other.0 one.1 in
    omega (arith, ints)
IsFloor_alone a (negsuc b) q r h f g =
    let negative : negsuc b <ℤ pos 0 = omega (arith, ints) in
    let one = rw add-one-times at (f.over_negative negative) in
    let other = rw add-one-times at (g.over_negative negative) in
    let turned-q = *ℤ-negsuc q b in
    let turned-r = *ℤ-negsuc r b in
    let up = first_not_above (neg_ℤ a) q r (suc b) (omega (arith, ints, one.1)) (omega (arith, ints, other.0)) in
    let down = first_not_above (neg_ℤ a) r q (suc b) (omega (arith, ints, other.1)) (omega (arith, ints, one.0)) in
    omega (arith, ints)
