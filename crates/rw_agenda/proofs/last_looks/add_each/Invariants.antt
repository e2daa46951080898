use Rattle.rw_base.proofs.Common.{take, ◌++◌, ◌≡◌, ◌≤◌}
use Rattle.rw_agenda.proofs.last_looks.add_each.Given as goal

abbrev pub invariant-loop-look : goal.invariant-loop-look
invariant-loop-look l = record { items : l.looks.items ≡ l.fn.looks.items ++ take l.look-index l.looked; room : l.fn.looks.cap ≤ l.looks.cap }
