use Rattle.rw_base.proofs.Common.{length, ℕ, ◌-◌, ◌<◌, ◌||◌, ◌≡◌}
use Rattle.rw_agenda.specs.CellIndex.{is_met}
use Rattle.rw_agenda.specs.Marks.{is_flagged}
use Rattle.rw_agenda.proofs.cell_index.mark_met.Given as goal

abbrev pub invariant-loop-turn : goal.invariant-loop-turn
invariant-loop-turn l = record {
  order : l.marks.order ≡ l.fn.marks.order;
  many : length l.marks.flags ≡ length l.fn.marks.flags;
  marked : (rule : ℕ) → rule < length l.fn.marks.flags
      → (is_flagged l.marks rule || is_met l.watches l.past (length l.watches - l.turn) l.number rule l.step)
      ≡ (is_flagged l.fn.marks rule || is_met l.watches l.past (length l.watches) l.newest rule l.step);
}
