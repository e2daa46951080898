-- The product of two quantities fits 128 bits, so `within` is handed the exact product.
use Rattle.rw_base.proofs.Common.{rules, arith, ◌≡◌, ◌*ℤ◌, FitsSigned, to_z, of_z, w128, to_z-of_z, ints}
use Rattle.rw_base.proofs.quantity.Qty.mul.Goals as goal

pub returns : goal.returns
returns c =
    let fits : FitsSigned w128 (c.args.self *ℤ c.args.b) = search rules in
    let first : to_z w128 (of_z w128 c.from.result) ≡ c.args.self = omega (arith, ints) in
    let second : to_z w128 (of_z w128 c.from-2.result) ≡ c.args.b = omega (arith, ints) in
    simp (first, second, to_z-of_z w128 _ fits) at c.within.ensures
