use Rattle.rw_method.proofs.Common.{FitsSigned, IsWithin, List, Term, add-one, arith, brought_by, drop, drop-cons, get_or, ints, length, net_of}
use Rattle.rw_method.proofs.Common.{rules, to_z-of_z, w128, ℕ, ℤ, ◌+ℤ◌, ◌+◌, ◌<◌, ◌≡◌}
use Rattle.rw_method.proofs.solving.net_of.Goals as goal

-- what is left, once the next term is counted
next_term : (terms : List Term) (i : ℕ) (term : Term) (net next : ℤ) → i < length terms
    → net +ℤ net_of (drop i terms) ≡ net_of terms → term ≡ get_or terms i term → next ≡ net +ℤ brought_by term.share term.given
    → next +ℤ net_of (drop (i + 1) terms) ≡ net_of terms
next_term terms i term net next h rest is sum =
    let left = rw (drop-cons terms i term, ← is) at rest in
    rw add-one (omega (arith, ints, left, sum))

-- the sum stays within so much for each term
next_bound : (i : ℕ) (net more next : ℤ) → IsWithin i net → IsWithin 1 more → next ≡ net +ℤ more → IsWithin (i + 1) next
next_bound i net more next before small sum =
    record { low = omega (arith, ints, before.low, small.low, sum); high = omega (arith, ints, before.high, small.high, sum) }

pub loop-term-preserved : goal.loop-term-preserved
loop-term-preserved c =
    let fits : FitsSigned w128 c.sum_of-net.result = search rules in
    let more_fits : FitsSigned w128 c.brought_by.result = search rules in
    let sum = simp (to_z-of_z w128 _ more_fits) at c.sum_of-net.ensures in
    rw (to_z-of_z w128 _ fits)
    record {
      bound = next_bound c.loop-term.term-index _ _ _ c.loop-term.invariant.bound c.brought_by.ensures.bound sum;
      rest = next_term c.args.terms.now c.loop-term.term-index c.term-item.result _ _ c.loop-term-test.true c.loop-term.invariant.rest
          c.term-item.is (rw (← c.brought_by.ensures.amount) sum);
    }
