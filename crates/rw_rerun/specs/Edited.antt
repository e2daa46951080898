-- Within the crate: the cells of a batch, and the timesteps that it doesn't touch.
use Rattle.std.specs.Prelude.{◌≡◌, Bool, not, IsFalse, List, [], Contains, Option, IsSome, ℕ, ℤ, ◌+◌, ◌-◌, length, map, take}
use Rattle.std.specs.List.{All, filter, list_any, range_with_len}
use Rattle.rw_base.specs.declared.number.Cell.{Cell}
use Rattle.rw_model.specs.Draft.{Draft}
use Rattle.rw_inputs.specs.Edits.{Batch, after_batch}
use Rattle.rw_inputs.specs.Placings.{placings}
use Rattle.rw_inputs.specs.Inputs.{Inputs, IsInputsOf, kept_slot, value_at}
use Rattle.rw_inputs.specs.declared.edit.Edit.{Edit}
use Rattle.rw_series.specs.Series.{IsCell, is_shared}
use Rattle.rw_run.specs.Dispatch.{cell_at}
use Rattle.rw_run.specs.Log.{Log, cells_of}
use Rattle.rw_run.specs.Next.{Policy, is_same_value}
use Rattle.rw_run.specs.Runs.{with_inputs}
use Rattle.rw_run.specs.Step.{is_same_cell}
use Rattle.rw_record.specs.Record.{StepRecord}
use Rattle.rw_engine.specs.Engine.{Engine}
use Rattle.rw_engine.specs.Shows.{IsEngineOf, KeepsOn, Shows}
use Rattle.rpl_verify.specs.Verified.{Accepted}
use Rattle.rw_rules.specs.Rules.{policy_in}
use Rattle.rw_rerun.specs.Begun.{HasTakenOver}
use Rattle.rw_rerun.specs.Kept.{AreKept}
use Rattle.rw_rerun.specs.Spare.{GivesAll, StandsIn}
use Rattle.rw_rerun.specs.Touched.{CountsUntouched}
use Rattle.rw_rerun.specs.declared.spare.Spare.{Spare}

-- the cells that an edit names, at the slot at which their values are kept
abbrev pub cells_named : Draft → Edit → List Cell
cells_named basin edit = map (cell_at (kept_slot basin edit.slot)) (range_with_len edit.first (edit.last - edit.first + 1))

-- inputs don't give the cell this value
abbrev pub gives_another : Inputs → Option ℤ → Cell → Bool
gives_another inputs value cell = not (is_same_value (value_at inputs cell.slot.0 cell.step.0) value)

-- those of the cells that an edit names to which it gives another value than inputs do
abbrev pub cells_changed : Draft → Inputs → Edit → List Cell
cells_changed basin inputs edit = filter (gives_another inputs edit.value) (cells_named basin edit)

-- the cell shares its value with one of these
abbrev pub is_edited : Draft → List Cell → Cell → Bool
is_edited basin cells cell = list_any (λ edited. is_shared basin edited cell) cells

-- these are cells at which inputs are kept, and none of these inputs changes elsewhere
pub record AreEdited (basin : Draft) (batch : Batch) (inputs : Inputs) (cells : List Cell) : Type 0 where
  pub known : All (IsCell basin) cells
  pub least : (cell : Cell) → Contains cells cell → kept_slot basin cell.slot.0 ≡ cell.slot.0
  pub same : (cell : Cell) → IsFalse (list_any (is_same_cell cell) cells)
      → after_batch batch (value_at inputs) cell.slot.0 cell.step.0 ≡ value_at inputs cell.slot.0 cell.step.0

-- the run of these inputs takes so many first timesteps over: cells that aren't given anew hold there what they held in the earlier
-- run, and an engine that shows how they ended in that one shows how they end in this one, once the cells are given
pub record TakesFirst (basin : Draft) (policy : Policy) (inputs : Inputs) (cells : List Cell) (earlier end : Log) (was : List (Option StepRecord)) (behind : ℕ) : Type 0 where
  pub log : Log
  pub taken : HasTakenOver basin policy inputs earlier (take behind was) log behind
  pub alike : (cell : Cell) → IsFalse (is_edited basin cells cell) → cells_of basin end cell ≡ cells_of basin log cell
  pub shows : (old new : Engine) → Shows basin old end → GivesAll basin inputs cells old new → Shows basin new log

-- ---- a spare engine behind a batch

-- a batch leads from inputs to others by these cells, and touches none of so many first timesteps
pub record LeavesFirst (basin : Draft) (batch : Batch) (cells : List Cell) (old new : Inputs) (was : List (Option StepRecord)) (behind : ℕ) : Type 0 where
  pub old_made : IsInputsOf basin old
  pub new_made : IsInputsOf basin new
  pub values : value_at new ≡ after_batch batch (value_at old)
  pub edited : AreEdited basin batch old cells
  pub many : length was ≡ basin.control.stamps.count
  pub untouched : CountsUntouched basin cells was behind

-- it has come behind first timesteps of the run of these inputs, each taken over from an earlier run
pub record HasComeBehind (basin : Draft) (policy : Accepted) (inputs : Inputs) (earlier : Log) (was : List (Option StepRecord)) (spare : Spare) : Type 0 where
  pub made : IsEngineOf basin policy spare.engine
  pub noted : IsSome spare.engine.noted
  pub log : Log
  pub taken : HasTakenOver basin (policy_in basin policy) inputs earlier (take spare.behind was) log spare.behind
  pub shows : Shows basin spare.engine log

-- in whatever run the engine has passed all timesteps, the spare one has come behind first ones of the run after a batch that leaves them
pub record BecomesSpare (basin : Draft) (inputs : Inputs) (cells : List Cell) (was : List (Option StepRecord)) (behind : ℕ) (engine : Engine) (spare : Spare) : Type 0 where
  pub behind_is : spare.behind ≡ behind
  pub kept : KeepsOn engine spare.engine
  pub comes : (policy : Accepted) (old : Inputs) (batch : Batch) (earlier : Log) → LeavesFirst basin batch cells old inputs was behind
      → AreKept basin (policy_in basin policy) earlier 1 was
      → StandsIn basin policy (with_inputs [] (placings basin old)) earlier was (record { engine = engine; behind = basin.control.stamps.count })
      → HasComeBehind basin policy inputs earlier was spare
