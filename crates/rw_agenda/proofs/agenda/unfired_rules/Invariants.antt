use Rattle.rw_base.proofs.Common.{map, take, ◌≡◌}
use Rattle.rw_agenda.specs.Agenda.{unfired}
use Rattle.rw_agenda.proofs.agenda.unfired_rules.Given as goal

abbrev pub invariant-loop-room : goal.invariant-loop-room
invariant-loop-room l = l.rules.items ≡ map unfired (take l.room-index l.reads)
