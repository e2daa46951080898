use Rattle.rw_engine.proofs.Common.{held, take, ◌≡◌}
use Rattle.rw_record.specs.Noted.{cells_noted, with_noted}
use Rattle.rw_engine.proofs.replaying.note_again.Given as goal

abbrev pub invariant-loop-place : goal.invariant-loop-place
invariant-loop-place l = l.noted ≡ with_noted (held l.series) (cells_noted (take l.place l.looked)) l.fn.noted
