use Rattle.rw_base.proofs.Common.{length, ◌-◌, ◌≡◌}
use Rattle.rw_agenda.specs.CellIndex.{is_met}
use Rattle.rw_agenda.proofs.cell_index.is_met.Given as goal

abbrev pub invariant-loop-turn : goal.invariant-loop-turn
invariant-loop-turn l = is_met l.watches l.past (length l.watches - l.turn) l.number l.rule l.step ≡ is_met l.watches l.past (length l.watches) l.newest l.rule l.step
