use Rattle.rw_base.proofs.Common.{rules, arith, ◌≡◌, ◌*ℤ◌, FitsSigned, to_z, of_z, w128, to_z-of_z, ints}
use Rattle.rw_base.proofs.Products.{product_in_range}
use Rattle.rw_base.proofs.quantity.product_of.Goals as goal

pub returns-clause-low : goal.returns-clause-low
returns-clause-low c =
    let range = product_in_range _ _ c.requires.first c.requires.second in
    let fits : FitsSigned w128 (c.args.a *ℤ c.args.b) = search (rules, range.0, range.1) in
    let first : to_z w128 (of_z w128 c.from.result) ≡ c.args.a = omega (arith, ints) in
    let second : to_z w128 (of_z w128 c.from-2.result) ≡ c.args.b = omega (arith, ints) in
    rw (first, second, to_z-of_z w128 _ fits) range.0

pub returns-clause-high : goal.returns-clause-high
returns-clause-high c =
    let range = product_in_range _ _ c.requires.first c.requires.second in
    let fits : FitsSigned w128 (c.args.a *ℤ c.args.b) = search (rules, range.0, range.1) in
    let first : to_z w128 (of_z w128 c.from.result) ≡ c.args.a = omega (arith, ints) in
    let second : to_z w128 (of_z w128 c.from-2.result) ≡ c.args.b = omega (arith, ints) in
    rw (first, second, to_z-of_z w128 _ fits) range.1
