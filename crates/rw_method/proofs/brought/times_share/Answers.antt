-- The product fits 128 bits.
use Rattle.rw_method.proofs.Common.{FitsSigned, IsWithin, arith, ints, neg_ℤ, of_z, pos, subst, sym, to_z, to_z-of_z, w128, ℕ, ℤ, ◌*ℤ◌, ◌≡◌, ◌≤ℤ◌}
use Rattle.rw_method.proofs.Common.{◌≤◌}
use Rattle.rw_method.proofs.LeastInflow.{times_rises}
use Rattle.rw_method.proofs.brought.times_share.Goals as goal

product_within : (amount : ℤ) (share : ℕ) → neg_ℤ (pos 18446744073709551616) ≤ℤ amount → amount ≤ℤ pos 18446744073709551616 → share ≤ 65535
    → IsWithin 13 (amount *ℤ pos share)
product_within amount share low high few = record {
  low = omega (arith, ints, few, times_rises (neg_ℤ (pos 18446744073709551616)) amount share low);
  high = omega (arith, ints, few, times_rises amount (pos 18446744073709551616) share high);
}

module _ (c : goal.After-from) where
  within : IsWithin 13 (c.args.amount *ℤ pos c.args.share)
  within = product_within c.args.amount c.args.share (omega (arith, ints)) (omega (arith, ints)) (omega (arith, ints))

  same : to_z w128 (of_z w128 (to_z w128 (of_z w128 c.args.amount) *ℤ to_z w128 (of_z w128 c.from.result))) ≡ c.args.amount *ℤ pos c.args.share
  same =
      let first : to_z w128 (of_z w128 c.args.amount) ≡ c.args.amount = omega (arith, ints) in
      let second : to_z w128 (of_z w128 c.from.result) ≡ pos c.args.share = omega (arith, ints) in
      let bounds = within in
      let fits : FitsSigned w128 (c.args.amount *ℤ pos c.args.share) = omega (arith, ints, bounds.low, bounds.high) in
      rw (first, second) (to_z-of_z w128 _ fits)

pub returns-clause-amount : goal.returns-clause-amount
returns-clause-amount c = same c

pub returns-clause-bound : goal.returns-clause-bound
returns-clause-bound c = subst (IsWithin 13) (sym (same c)) (within c)
