use Rattle.rw_base.proofs.Common.{false, list_any, not, take, ◌≡◌}
use Rattle.rw_run.specs.Log.{value_in}
use Rattle.rw_run.specs.Next.{is_same_value}
use Rattle.rw_series.specs.Series.{held}
use Rattle.rw_firing.specs.declared.look.Look.{Look}
use Rattle.rw_agenda.proofs.last_looks.any_changed.Given as goal

abbrev pub invariant-loop-look : goal.invariant-loop-look
invariant-loop-look l =
    list_any (λ (look : Look). not (is_same_value look.seen (value_in (held l.series) look.cell))) (take l.look-index l.looks) ≡ false
