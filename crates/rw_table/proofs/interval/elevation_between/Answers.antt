use Rattle.rw_base.proofs.Common.{◌≡◌, ◌+◌, pos, ◌-ℤ◌, arith, ints}
use Rattle.rw_table.proofs.Line.{last_on_line}
use Rattle.rw_table.proofs.interval.elevation_between.Goals as goal

pub overflow_cast-result : goal.overflow_cast-result
overflow_cast-result c = omega (arith, ints)

pub overflow_add-result : goal.overflow_add-result
overflow_add-result c = omega (arith, ints)

pub returns : goal.returns
returns c =
    let held : c.args.s -ℤ c.args.low.1 ≡ pos c.distance-held.result = omega (arith, ints) in
    let rise : c.args.high.1 -ℤ c.args.low.1 ≡ pos c.distance-rise.result = omega (arith, ints) in
    let run : c.args.high.0 -ℤ c.args.low.0 ≡ pos c.distance-run.result = omega (arith, ints) in
    let reach = c.reach-climbed in
    last_on_line c.args.low c.args.high c.args.s _ reach.result _ _ _ held rise run (omega (arith, ints)) reach.ensures.below reach.ensures.at_most
    (reach.ensures.greatest (reach.result + 1) (omega arith))
