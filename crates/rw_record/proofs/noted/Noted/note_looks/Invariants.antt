use Rattle.rw_record.proofs.Common.{cells_looked, held, take, with_noted, ◌≡◌}
use Rattle.rw_record.proofs.noted.Noted.note_looks.Given as goal

abbrev pub invariant-loop-look : goal.invariant-loop-look
invariant-loop-look l = l.self ≡ with_noted (held l.series) (cells_looked (take l.look-index l.looks)) l.fn.self
