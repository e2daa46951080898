use Rattle.rw_base.proofs.Common.{slice_index_or, ℕ, ◌<◌, ◌≤◌, ◌≡◌}
use Rattle.rw_firing.specs.declared.look.Look.{Look}
use Rattle.rw_agenda.proofs.cell_index.next_cell.Given as goal

abbrev pub invariant-loop-next : goal.invariant-loop-next
invariant-loop-next l =
    (k : ℕ) (d : Look) → l.place ≤ k → k < l.next → (slice_index_or l.looks k d).cell ≡ (slice_index_or l.looks l.place d).cell
