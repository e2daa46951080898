use Rattle.std.proofs.Common.{ap, ◌∙◌}
use Rattle.rw_model.specs.Slots.{where_chosen}
use Rattle.rw_model.proofs.slots.of_reach.Goals as goal

pub returns-in-2 : goal.returns-in-2
returns-in-2 c = rw c.in-2.is (c.where_chosen.ensures ∙ ap (where_chosen c.args.local_inflow) c.flow-in-2.ensures)
