use Rattle.rw_base.proofs.Common.{length, ◌-◌, ◌≤◌}
use Rattle.rw_series.specs.Series.{held}
use Rattle.rw_agenda.proofs.Marking.{IsFrom}
use Rattle.rw_agenda.proofs.agenda.first_changed.Given as goal

abbrev pub invariant-loop-first : goal.invariant-loop-first
invariant-loop-first l = (l.turn ≤ length l.rules) × IsFrom l.marks l.rules (held l.series) l.turn

abbrev pub decreases-loop-first : goal.decreases-loop-first
decreases-loop-first l = length l.rules - l.turn
