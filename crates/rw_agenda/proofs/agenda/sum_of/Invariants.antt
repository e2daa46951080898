use Rattle.rw_base.proofs.Common.{min, take, ◌-◌, ◌^◌, ◌≡◌}
use Rattle.std.specs.List.{sum}
use Rattle.rw_agenda.proofs.agenda.sum_of.Given as goal

abbrev pub invariant-loop-room : goal.invariant-loop-room
invariant-loop-room l = l.sum ≡ min (sum (take l.room-index l.reads)) (2 ^ 32 - 1)
