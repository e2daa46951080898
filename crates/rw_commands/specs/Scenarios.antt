-- Within the crate: sections of scenarios that are written one after another, and the tally of their runs.
use Rattle.std.specs.Prelude.{◌≡◌, ℕ, ◌≤◌, List, map, take}
use Rattle.rw_io.specs.Causes.{Rose}
use Rattle.rw_io.specs.Known.{GrowsBy, PrefixGrew}
use Rattle.rw_io.specs.Outside.{Change, SinkView}
use Rattle.rw_model.specs.Draft.{Draft}
use Rattle.rw_inputs.specs.Edits.{Batch, after_batch}
use Rattle.rw_inputs.specs.Inputs.{Inputs, value_at}
use Rattle.rw_run.specs.Log.{Log}
use Rattle.rw_run.specs.declared.run.Run.{Run}
use Rattle.rw_report.specs.Outcome.{outcome_of}
use Rattle.rw_report.specs.Whole.{trace_of_run}
use Rattle.rw_mrm.specs.Summary.{IsTallyOf}
use Rattle.rw_mrm.specs.Tally.{IsTallyFor, Tally}
use Rattle.rw_commands.specs.Many.{AreScenarioRuns, as_ended, scenario_texts, status_of_runs}
use Rattle.rw_commands.specs.Policy.{PolicyFile as Rules}
use Rattle.rw_commands.specs.RunText.{ComesBy}
use Rattle.rw_commands.specs.Sections.{joined_sections}
use Rattle.rw_commands.specs.declared.refusal.Refusal.{Refusal}
use Rattle.rw_commands.specs.declared.refusal.Refusal.TheVariants.{CannotWrite, NoMemory}

-- the run comes to what that from the inputs after the batch does
pub record ComesAfter (basin : Draft) (policy : Rules) (inputs : Inputs) (batch : Batch) (run : Run) : Type 0 where
  pub edited : Inputs
  pub values : value_at edited ≡ after_batch batch (value_at inputs)
  pub comes : ComesBy basin policy edited run

-- the section of such a run was written
pub record WritesScenario (basin : Draft) (policy : Rules) (inputs : Inputs) (batch : Batch) (number : ℕ) (out : Change SinkView) (run : Run) : Type 0 where
  pub after : ComesAfter basin policy inputs batch run
  pub grew : GrowsBy out.before.contents out.after.contents (trace_of_run basin number (outcome_of run))
  pub later : out.before.faults ≤ out.after.faults

-- or why it wasn't
abbrev pub StopsAtScenario : Draft → Rules → Inputs → Batch → ℕ → Change SinkView → Refusal → Type 0
StopsAtScenario basin policy inputs batch number out NoMemory = out.after.contents ≡ out.before.contents
StopsAtScenario basin policy inputs batch number out CannotWrite =
    (run : Run) × ComesAfter basin policy inputs batch run
    × PrefixGrew out.before.contents out.after.contents (trace_of_run basin number (outcome_of run)) × Rose out.before.faults out.after.faults
StopsAtScenario basin policy inputs batch number out why = ⊥

-- the sections of the first scenarios were written, so many of them, their runs were added to the tally, and this is their status
pub record WritesScenarios (basin : Draft) (policy : Rules) (inputs : Inputs) (batches : List Batch) (count : ℕ) (out : Change SinkView) (tally : Tally) (status : ℕ) : Type 0 where
  pub logs : List Log
  pub are : AreScenarioRuns basin policy inputs (take count batches) logs
  pub grew : GrowsBy out.before.contents out.after.contents (joined_sections (scenario_texts basin 1 logs))
  pub later : out.before.faults ≤ out.after.faults
  pub made : IsTallyFor basin tally
  pub kept : IsTallyOf basin (map (as_ended basin) logs) tally
  pub status_is : status ≡ status_of_runs logs

-- the text was appended
pub record AppendsText (text : List ℕ) (out : Change SinkView) : Type 0 where
  pub grew : GrowsBy out.before.contents out.after.contents text

-- or why it wasn't, or not wholly
abbrev pub StopsAtText : List ℕ → Change SinkView → Refusal → Type 0
StopsAtText text out NoMemory = out.after.contents ≡ out.before.contents
StopsAtText text out CannotWrite = PrefixGrew out.before.contents out.after.contents text × Rose out.before.faults out.after.faults
StopsAtText text out why = ⊥
