use Rattle.rw_base.proofs.Common.{◌/◌, ◌≤◌}
use Rattle.rw_agenda.proofs.Words.{NoneBefore}
use Rattle.rw_agenda.proofs.marks.first_turn.Given as goal

abbrev pub invariant-loop-place : goal.invariant-loop-place
invariant-loop-place l = (l.from / 64 ≤ l.place) × NoneBefore l.words l.from l.place
