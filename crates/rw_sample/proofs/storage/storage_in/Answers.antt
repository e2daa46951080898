use Rattle.rw_base.proofs.Common.{FitsSigned, ap, ap₂, arith, ints, rules, suc-eq-add-one, sym, to_z-of_z, w128, ℕ, ℤ, ◌+ℤ◌, ◌+◌, ◌∙◌, ◌≡◌}
use Rattle.rw_series.specs.Series.{held}
use Rattle.rw_sample.specs.Line.{IsSumOf, stored_in, sum_to}
use Rattle.rw_sample.proofs.storage.storage_in.Goals as goal

-- the sum up to the next number
next_sum : (amount : ℕ → ℤ) (before : ℕ) (sum more next : ℤ) → sum ≡ sum_to amount before → more ≡ amount (before + 1) → next ≡ sum +ℤ more
    → next ≡ sum_to amount (before + 1)
next_sum amount before sum more next is adds added =
    let e = suc-eq-add-one before in
    added ∙ ap₂ (λ (a b : ℤ). a +ℤ b) is adds ∙ ap (λ n. sum_to amount before +ℤ amount n) (sym e) ∙ ap (sum_to amount) e

-- stays within so much for each number
next_bound : (before : ℕ) (sum more next : ℤ) → IsSumOf before sum → IsSumOf 1 more → next ≡ sum +ℤ more → IsSumOf (before + 1) next
next_bound before sum more next bound small added =
    record { low = omega (arith, ints, bound.low, small.low, added); high = omega (arith, ints, bound.high, small.high, added) }

pub loop-before-preserved : goal.loop-before-preserved
loop-before-preserved c =
    let fits : FitsSigned w128 c.plus-sum.result = search rules in
    let more_fits : FitsSigned w128 c.stored.result = search rules in
    let added = simp (to_z-of_z w128 _ more_fits) at c.plus-sum.ensures in
    rw (to_z-of_z w128 _ fits)
    record {
      so_far =
          next_sum (stored_in c.args.basin.now (held c.args.series.now) c.args.step.0) c.loop-before.before _ _ _ c.loop-before.invariant.so_far
          c.stored.ensures.amount added;
      bound = next_bound c.loop-before.before _ _ _ c.loop-before.invariant.bound c.stored.ensures.bound added;
    }
