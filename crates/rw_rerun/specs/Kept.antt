-- The timesteps of a run, as they are kept for the next one.
use Rattle.std.specs.Prelude.{length, ◌≡◌, ◌≤◌, ◌+◌, ℕ, List, [], ◌∷◌, Option, Some, None, IsSome, unwrap_or}
use Rattle.std.specs.List.{flat_map}
use Rattle.rw_model.specs.Draft.{Draft}
use Rattle.rw_run.specs.Frame.{log_after}
use Rattle.rw_run.specs.Log.{Event, Log, opened}
use Rattle.rw_run.specs.Next.{Policy}
use Rattle.rw_run.specs.Reuse.{most_kept}
use Rattle.rw_run.specs.RunOf.{lines}
use Rattle.rw_run.specs.Step.{before_closing, before_opening, cell_count, events_of, line_count, looked_at, reached_by}
use Rattle.rw_run.specs.Timestep.{IsTimestep}
use Rattle.rw_record.specs.Record.{StepRecord}
use Rattle.rw_engine.specs.Records.{RecordsThese}
use Rattle.rw_engine.specs.Shows.{CanShow}

-- the log closed the timestep, which has few enough cells and lines
pub record IsKeepable (basin : Draft) (log : Log) (step : ℕ) : Type 0 where
  pub closing : IsSome (before_closing step log)
  pub few_cells : cell_count (looked_at basin step log) ≤ most_kept
  pub few_lines : line_count step log ≤ most_kept

-- it can be kept, and the record stands for it as it went in the log
pub record IsKeptAs (basin : Draft) (policy : Policy) (log : Log) (step : ℕ) (kept : StepRecord) : Type 0 where
  pub keepable : IsKeepable basin log step
  pub old : Log
  pub first : Event
  pub events : List Event
  pub opening : before_opening step log ≡ Some old
  pub own : events_of step log ≡ log_after (first ∷ events) (opened step ∷ [])
  pub timestep : IsTimestep basin policy step old first events
  pub these : RecordsThese basin step old (first ∷ events) kept

-- there is a record exactly where the timestep can be kept
abbrev pub IsKeptOrNot : Draft → Policy → Log → ℕ → Option StepRecord → Type 0
IsKeptOrNot basin policy log step None = ¬ IsKeepable basin log step
IsKeptOrNot basin policy log step (Some kept) = IsKeptAs basin policy log step kept

-- so for each timestep, from this one on
abbrev pub AreKept : Draft → Policy → Log → ℕ → List (Option StepRecord) → Type 0
AreKept basin policy log step [] = Unit {0}
AreKept basin policy log step (kept ∷ rest) = IsKeptOrNot basin policy log step kept × AreKept basin policy log (step + 1) rest

-- ---- how they stand one behind the other

-- behind this log, which an engine of the basin can show, the timestep went so up to the next one, where it is kept
pub record IsLinkOf (basin : Draft) (policy : Policy) (step : ℕ) (log : Log) (kept : StepRecord) (next : Log) : Type 0 where
  pub first : Event
  pub events : List Event
  pub timestep : IsTimestep basin policy step log first events
  pub shown : CanShow basin step log
  pub these : RecordsThese basin step log (first ∷ events) kept
  pub is : next ≡ log_after (first ∷ events) (opened step ∷ log)
  pub few_cells : cell_count (flat_map (reached_by basin) (log_after (first ∷ events) (opened step ∷ []))) ≤ most_kept
  pub few_lines : length (flat_map lines (log_after (first ∷ events) (opened step ∷ []))) ≤ most_kept

abbrev pub IsStepLink : Draft → Policy → ℕ → Log → Option StepRecord → Log → Type 0
IsStepLink basin policy step log None next = Unit {0}
IsStepLink basin policy step log (Some kept) next = IsLinkOf basin policy step log kept next

-- from this log on, up to the last one, timestep by timestep
abbrev pub AreStepLinks : Draft → Policy → ℕ → Log → List (Option StepRecord) → Log → Type 0
AreStepLinks basin policy step log [] end = end ≡ log
AreStepLinks basin policy step log (kept ∷ rest) end =
    (next : Log) × IsStepLink basin policy step log kept next × AreStepLinks basin policy (step + 1) next rest end

-- ---- what a run changes of it

-- what is kept of the first timesteps, where a change takes its place
abbrev pub changed : List (Option StepRecord) → List (Option (Option StepRecord)) → List (Option StepRecord)
changed kept [] = []
changed [] (change ∷ changes) = []
changed (was ∷ kept) (change ∷ changes) = unwrap_or change was ∷ changed kept changes
