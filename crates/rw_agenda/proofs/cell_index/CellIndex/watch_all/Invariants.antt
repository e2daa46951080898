use Rattle.rw_base.proofs.Common.{length, slice_index_or, true, ℕ, ◌-◌, ◌<◌, ◌≡◌}
use Rattle.rw_base.specs.declared.number.Cell.{Cell}
use Rattle.rw_firing.specs.declared.look.Look.{Look}
use Rattle.rw_agenda.specs.CellIndex.{is_watching}
use Rattle.rw_agenda.proofs.cell_index.CellIndex.watch_all.Given as goal

abbrev pub invariant-loop-place : goal.invariant-loop-place
invariant-loop-place l = record {
  watching : (k : ℕ) (d : Look) → k < l.place → is_watching l.self (slice_index_or l.looked k d).cell l.rule ≡ true;
  kept : (other : Cell) (earlier : ℕ) → is_watching l.fn.self other earlier ≡ true → is_watching l.self other earlier ≡ true;
}

abbrev pub decreases-loop-place : goal.decreases-loop-place
decreases-loop-place l = length l.looked - l.place
