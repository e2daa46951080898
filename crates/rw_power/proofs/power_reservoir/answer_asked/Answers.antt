use Rattle.rw_base.proofs.Common.{ap₂, to_z-of_z, w64, ◌∙◌}
use Rattle.rw_method.specs.Power.{Plant, plant}
use Rattle.rw_method.specs.Solving.{solved_balance}
use Rattle.rw_power.proofs.Parts.{answered_by, three_same}
use Rattle.rw_power.proofs.power_reservoir.answer_asked.Goals as goal

pub returns-in-None : goal.returns-in-None
returns-in-None c tailwater head asked =
    let of : Plant = plant c.args.rating.now c.args.max_release tailwater c.args.power in
    let view = c.args.view.now in
    let out = rw asked at c.lets_out.ensures in
    let terms = three_same _ _ _ _ _ _ c.term.ensures out c.stores.ensures in
    let put =
    rw (to_z-of_z w64 c.args.max_release c.ranges.max_release, to_z-of_z w64 c.args.head c.ranges.head) at
    (c.put_all.ensures tailwater) in
    answered_by of view c.args.head c.args.asked _ c.solve_balance-balanced.result c.fault_of_level.result c.put_all.result head asked terms
    (c.solve_balance-balanced.ensures ∙ ap₂ solved_balance c.steady.ensures.flow terms) c.fault_of_level.ensures put c.in-None.ensures
