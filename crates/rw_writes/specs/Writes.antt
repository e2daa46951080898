-- The puts of a firing, and those of them that are written.
use Rattle.std.specs.Prelude.{ℕ, ◌≤◌, List}
use Rattle.rw_model.specs.Draft.{Draft}
use Rattle.rw_firing.specs.declared.fire.RulePut.{RulePut}
use Rattle.rw_run.specs.Dispatch.{puts_written}
use Rattle.rw_run.specs.Index.{MarksTouched}
use Rattle.rw_run.specs.Log.{Asked, Cells}
use Rattle.rw_run.specs.Next.{asked_of_rule, last_ones}
use Rattle.rw_agenda.specs.Agenda.{Agenda, is_marked, looked_by}
use Rattle.rw_writes.specs.declared.limits.TheConstants.{PUTS_MAX}

-- the puts of a firing that are in the run's timesteps, and those of them that are written
pub record Writes : Type 0 where
  pub asked : List Asked
  pub written : List Asked

-- without those that are put again later, those that the put rules write
abbrev pub written_puts : Draft → Cells → List Asked → List Asked
written_puts basin cells puts = puts_written cells (last_ones basin puts)

-- those of a rule's puts that are written
abbrev pub writes_of : Draft → Cells → ℕ → ℕ → List RulePut → List Asked
writes_of basin cells rule step puts = written_puts basin cells (asked_of_rule basin rule step puts)

-- so many are written, and there is room for the puts of any firing
pub record HasPutRoom (written asked kept : ℕ) : Type 0 where
  pub few : written ≤ PUTS_MAX
  pub for_asked : PUTS_MAX ≤ asked
  pub for_written : PUTS_MAX ≤ kept

-- each rule that was marked still is, and so is each that looked at a cell which shares its value with one of these
abbrev pub MarksAll : Draft → List Asked → Agenda → Agenda → Type 0
MarksAll basin puts old new = MarksTouched basin puts (looked_by new) (is_marked old) (is_marked new)
