-- Values that were told of a session's run, and those of the run behind it.
use Rattle.rw_base.proofs.Common.{◌≡◌, ◌<◌, ◌+◌, ◌∙◌, ℕ, ℤ, List, [], Option, ap, none-some, sym, subst}
use Rattle.rw_base.specs.declared.number.Cell.{Cell}
use Rattle.rw_engine.specs.Passing.{ComesTo}
use Rattle.rw_inputs.specs.Placings.{placings}
use Rattle.rw_model.proofs.Common.{Draft}
use Rattle.rw_report.proofs.Keeping.{values_alike}
use Rattle.rw_report.specs.Sheet.{AreToldBefore, AreToldOf}
use Rattle.rw_rerun.specs.Session.{HoldAsBefore, IsSessionOf, Session}
use Rattle.rw_rules.specs.Rules.{policy_in}
use Rattle.rpl_verify.specs.Verified.{Accepted}
use Rattle.rw_run.proofs.OneRun.{one_run}
use Rattle.rw_run.specs.Log.{Cells, cells_of}
use Rattle.rw_run.specs.declared.run.Run.{Run}
use Rattle.rw_series.specs.Series.{held}

-- what the run of a session holds
pub run_cells : (basin : Draft) (code : Accepted) (session : Session) (run : Run) → IsSessionOf basin code session
    → ComesTo basin (policy_in basin code) session.inputs run → (cell : Cell) → held run.series cell ≡ held session.engine.series cell
run_cells basin code session run is comes cell =
    comes.is.cells cell
    ∙ ap (λ log. cells_of basin log cell) (one_run basin (policy_in basin code) (placings basin session.inputs) comes.log is.log comes.whole is.whole)
    ∙ sym (is.shows.cells cell)

-- values are told alike of cells that hold alike
pub told_before_alike : (basin : Draft) (one other : Cells) (same : ℕ) (told : List (List (Option ℤ))) → ((cell : Cell) → one cell ≡ other cell)
    → AreToldBefore basin one same told → AreToldBefore basin other same told
told_before_alike basin one other same told alike are before values near there =
    are before values near there ∙ values_alike basin one other (before + 1) (λ cell at. alike cell)

pub told_alike : (basin : Draft) (one other : Cells) (told : List (List (Option ℤ))) → ((cell : Cell) → one cell ≡ other cell)
    → AreToldOf basin one told → AreToldOf basin other told
told_alike basin one other told alike are before values there =
    are before values there ∙ values_alike basin one other (before + 1) (λ cell at. alike cell)

-- before the first section nothing is told
pub none_told : (basin : Draft) (cells : Cells) (same : ℕ) → AreToldBefore basin cells same []
none_told basin cells same before values near there = absurd (none-some _ there)

-- behind a batch the cells of timesteps before all that it reaches have the values that were told
pub next_told : (basin : Draft) (old new : Session) (told : List (List (Option ℤ))) → HoldAsBefore old new
    → AreToldOf basin (held old.engine.series) told → AreToldBefore basin (held new.engine.series) new.same told
next_told basin old new told holds are before values near there =
    are before values there
    ∙ values_alike basin (held old.engine.series) (held new.engine.series) (before + 1)
    (λ cell at. sym (holds cell (subst (λ n. n < new.same) (sym at) near)))
