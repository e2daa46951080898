use Rattle.rw_record.proofs.Common.{take}
use Rattle.rw_record.specs.HeldList.{AreListed}
use Rattle.rw_record.specs.InOrder.{RisesTo, picked_out}
use Rattle.rw_record.proofs.held_list.add_rising.Given as goal

abbrev pub invariant-loop-place : goal.invariant-loop-place
invariant-loop-place l =
    RisesTo l.items (take l.place-index l.order) l.last
    × AreListed (picked_out l.items (take l.place-index l.order)) l.cells.items l.contents.items
