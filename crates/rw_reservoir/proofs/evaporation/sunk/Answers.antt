use Rattle.rw_base.proofs.Common.{rules, arith, ◌∙◌, ◌-ℤ◌, w64, FitsSigned, ints, to_z-of_z}
use Rattle.rw_reservoir.proofs.evaporation.sunk.Goals as goal

pub returns : goal.returns
returns c =
    let bounds = rw c.get.ensures.value at c.get.ensures.bounds in
    let rate : FitsSigned w64 c.args.rate = omega (arith, ints, bounds.low, bounds.high) in
    let fits : FitsSigned w64 (c.args.elevation -ℤ c.args.rate) = omega (arith, ints, c.requires.low, c.requires.high, bounds.low, bounds.high) in
    let found : FitsSigned w64 c.max.result = search rules in
    to_z-of_z w64 c.max.result found
    ∙ simp (
      c.get.ensures.value,
      to_z-of_z w64 c.args.elevation c.ranges.elevation,
      to_z-of_z w64 c.args.rate rate,
      to_z-of_z w64 _ fits,
      to_z-of_z w64 c.args.lowest c.ranges.lowest,
    ) at c.max.ensures.value
