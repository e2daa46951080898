use Rattle.rw_base.proofs.Common.{◌∙◌}
use Rattle.rw_order.proofs.Searching.{level_is}
use Rattle.rw_order.proofs.free.is_level.Goals as goal

pub returns : goal.returns
returns c =
    c.is_either.ensures
    ∙ level_is c.args.basin.now.objects c.args.slot.0 c.owner-owner.result.0 c.kind.result.now c.is_reservoir-reservoir.result
    c.is_in_place-storage.result c.is_in_place-elevation.result
    c.requires.first c.owner-owner.ensures.owner c.kind.ensures.kind c.is_reservoir-reservoir.ensures c.is_in_place-storage.ensures
    c.is_in_place-elevation.ensures
