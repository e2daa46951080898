use Rattle.rw_base.proofs.Common.{list_any, take}
use Rattle.rw_model.specs.Kept.{numbers_of}
use Rattle.rw_run.specs.Dispatch.{cell_at}
use Rattle.rw_agenda.specs.CellIndex.{has_watch}
use Rattle.rw_agenda.specs.Marks.{MarksMore}
use Rattle.rw_agenda.proofs.cell_index.CellIndex.mark.Given as goal

abbrev pub invariant-loop-slot : goal.invariant-loop-slot
invariant-loop-slot l =
    MarksMore (λ rule. list_any (λ slot. has_watch l.self (cell_at slot l.step.0) rule) (numbers_of (take l.slot-index l.group))) l.fn.marks l.marks
