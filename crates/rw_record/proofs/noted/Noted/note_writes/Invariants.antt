use Rattle.rw_record.proofs.Common.{cells_reached, held, take, with_noted, ◌≡◌}
use Rattle.rw_record.proofs.noted.Noted.note_writes.Given as goal

abbrev pub invariant-loop-write : goal.invariant-loop-write
invariant-loop-write l = l.self ≡ with_noted (held l.series) (cells_reached l.basin (take l.write-index l.writes)) l.fn.self
