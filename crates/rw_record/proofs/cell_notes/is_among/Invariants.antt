use Rattle.rw_record.proofs.Common.{drop, is_noted, ◌≡◌}
use Rattle.rw_record.proofs.cell_notes.is_among.Given as goal

abbrev pub invariant-loop-one : goal.invariant-loop-one
invariant-loop-one l = is_noted (drop l.one-index l.items) l.cell ≡ is_noted l.items l.cell
