use Rattle.rw_base.proofs.Common.{w64, sym, ◌∙◌, to_z-of_z}
use Rattle.rw_table.proofs.Laws.{elevation_inside}
use Rattle.rw_table.proofs.rating.Rating.elev_near.Goals as goal

pub returns-clause-inside : goal.returns-clause-inside
returns-clause-inside c e is =
    let found = rw (to_z-of_z w64 c.args.s c.ranges.s, c.deref.ensures.value) at c.elevation_near.ensures in
    rw (← c.self.view_is) (elevation_inside c.self.inside.rows.items c.args.s e c.self.invariant (sym found ∙ is))
