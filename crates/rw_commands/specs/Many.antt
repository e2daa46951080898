-- Runs of scenarios: one of each, from the inputs after its batch alone, and the summary of all.
use Rattle.std.specs.Prelude.{◌≡◌, ◌⊎◌, ℕ, ◌+◌, if◌then◌else◌, List, [], ◌∷◌, ◌++◌, map, take, ⊤}
use Rattle.rw_io.specs.Known.{GrowsBy}
use Rattle.rw_io.specs.Outside.{Change, SinkView}
use Rattle.std.specs.List.{All}
use Rattle.rw_model.specs.Draft.{Draft}
use Rattle.rw_inputs.specs.Edits.{Batch, after_batch}
use Rattle.rw_inputs.specs.Inputs.{Inputs, value_at}
use Rattle.rw_inputs.specs.Placings.{placings}
use Rattle.rw_run.specs.Log.{Log, cells_of}
use Rattle.rw_run.specs.RunOf.{end_of}
use Rattle.rw_run.specs.Runs.{IsRun}
use Rattle.rw_run.specs.declared.run.RunEnd.TheVariants.{Settled}
use Rattle.rw_report.specs.Outcome.{outcome_by}
use Rattle.rw_report.specs.Whole.{trace_of_run}
use Rattle.rw_mrm.specs.Summary.{Ended, summary_of}
use Rattle.rw_mrm.specs.Tally.{is_settled}
use Rattle.rw_commands.specs.Policy.{PolicyFile as Rules}
use Rattle.rw_commands.specs.RunText.{IsVerifiedRun, policy_in_run}
use Rattle.rw_commands.specs.Sections.{joined_sections}

-- ---- runs

-- the run of a scenario, whose batch counts over the inputs as they were read. Each firing in it is verified
pub record IsScenarioRun (basin : Draft) (policy : Rules) (inputs : Inputs) (batch : Batch) (log : Log) : Type 0 where
  pub edited : Inputs
  pub values : value_at edited ≡ after_batch batch (value_at inputs)
  pub run : IsRun basin (policy_in_run basin policy) (placings basin edited) log
  pub verified : IsVerifiedRun basin policy log

-- the runs of scenarios, one of each
abbrev pub AreScenarioRuns : Draft → Rules → Inputs → List Batch → List Log → Type 0
AreScenarioRuns basin policy inputs [] [] = ⊤
AreScenarioRuns basin policy inputs (batch ∷ batches) (log ∷ logs) =
    IsScenarioRun basin policy inputs batch log × AreScenarioRuns basin policy inputs batches logs
AreScenarioRuns basin policy inputs batches logs = ⊥

-- ---- their text

-- the section of each, which are numbered from this one on
abbrev pub scenario_texts : Draft → (number : ℕ) → List Log → List (List ℕ)
scenario_texts basin number [] = []
scenario_texts basin number (log ∷ logs) = trace_of_run basin number (outcome_by basin log) ∷ scenario_texts basin (number + 1) logs

-- how a run ended, as a summary counts it
abbrev pub as_ended : Draft → Log → Ended
as_ended basin log = record { settled = is_settled (end_of log); cells = cells_of basin log }

-- the section of each, and the summary of all
abbrev pub many_texts : Draft → List Log → List (List ℕ)
many_texts basin logs = scenario_texts basin 1 logs ++ summary_of basin (map (as_ended basin) logs) ∷ []

-- all of them settled
abbrev pub AllSettled : List Log → Type 0
AllSettled logs = All (λ log. end_of log ≡ Settled) logs

-- 0 where all settled, and 1 where one ended in a fault
abbrev pub status_of_runs : List Log → ℕ
status_of_runs [] = 0
status_of_runs (log ∷ logs) = if is_settled (end_of log) then status_of_runs logs else 1

-- all of it was appended, with the status of the runs
pub record AppendsMany (basin : Draft) (policy : Rules) (inputs : Inputs) (batches : List Batch) (out : Change SinkView) (status : ℕ) : Type 0 where
  pub logs : List Log
  pub are : AreScenarioRuns basin policy inputs batches logs
  pub status_is : status ≡ status_of_runs logs
  pub grew : GrowsBy out.before.contents out.after.contents (joined_sections (many_texts basin logs))

-- the first pieces of it: the sections of the first scenarios, or all sections and the summary
abbrev pub AreFirstPieces : Draft → Rules → Inputs → List Batch → List (List ℕ) → Type 0
AreFirstPieces basin policy inputs batches texts =
    ((count : ℕ) × (logs : List Log) × AreScenarioRuns basin policy inputs (take count batches) logs × (texts ≡ scenario_texts basin 1 logs))
    ⊎ ((logs : List Log) × AreScenarioRuns basin policy inputs batches logs × (texts ≡ many_texts basin logs))
