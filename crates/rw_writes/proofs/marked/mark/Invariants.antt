use Rattle.rw_base.proofs.Common.{take, ◌≡◌}
use Rattle.rw_writes.specs.Writes.{MarksAll}
use Rattle.rw_writes.proofs.marked.mark.Given as goal

abbrev pub invariant-loop-write : goal.invariant-loop-write
invariant-loop-write l = record {
  order : l.agenda.order ≡ l.fn.agenda.order;
  rules : l.agenda.rules ≡ l.fn.agenda.rules;
  marked : MarksAll l.basin (take l.write-index l.writes) l.fn.agenda l.agenda;
}
