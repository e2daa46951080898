-- A policy and inputs that are read for another model's text as they were for a basin, and whose run there is the same.
use Rattle.std.specs.Prelude.{◌≡◌, ℕ, Bool, List, Ok, Option}
use Rattle.rw_base.specs.declared.number.Cell.{Cell}
use Rattle.rw_base.specs.declared.number.StepNo.{StepNo}
use Rattle.rw_model.specs.Draft.{Draft}
use Rattle.rw_model_toml.specs.Model.{model_of}
use Rattle.rw_inputs.specs.Inputs.{Inputs}
use Rattle.rw_inputs.specs.Placings.{placings}
use Rattle.rw_inputs.specs.Reading.{Reads}
use Rattle.rw_run.specs.Log.{Log}
use Rattle.rw_run.specs.Runs.{IsRun}
use Rattle.rw_report.specs.Outcome.{outcome_by}
use Rattle.rw_report.specs.Whole.{whole_of}
use Rattle.rw_report.specs.Why.{why_of}
use Rattle.rw_books.specs.Text.{balance_of_run}
use Rattle.rw_commands.specs.Many.{many_texts}
use Rattle.rw_commands.specs.Policy.{IsPolicyFileOf, PolicyFile}
use Rattle.rw_commands.specs.RunText.{policy_in_run}

-- the run of one basin is that of the other, from whatever inputs, and so is each text of it: a section, whatever is asked for in it but
-- what became of each put, why a cell holds what it holds, the books, and the sections of many runs with their summary
pub record RunsAlike (basin other : Draft) (policy : PolicyFile) : Type 0 where
  pub runs : (inputs : Inputs) (log : Log) → IsRun basin (policy_in_run basin policy) (placings basin inputs) log
      → IsRun other (policy_in_run other policy) (placings other inputs) log
  pub texts : (log : Log) (number : ℕ) (reran : Option (List StepNo)) (flags trace : Bool)
      → whole_of other number (outcome_by other log) reran flags trace ≡ whole_of basin number (outcome_by basin log) reran flags trace
  pub whys : (inputs : Inputs) (cell : Cell) (log : Log)
      → why_of other inputs (outcome_by other log) cell ≡ why_of basin inputs (outcome_by basin log) cell
  pub books : (log : Log) → balance_of_run other (outcome_by other log) ≡ balance_of_run basin (outcome_by basin log)
  pub many : (logs : List Log) → many_texts other logs ≡ many_texts basin logs

-- the model's text is accepted, and with its basin the texts of the policy and the inputs are those that they were
pub record GoesAlike (model policy_text inputs_text : List ℕ) (as_code : Bool) (basin : Draft) (policy : PolicyFile) (inputs : Inputs) : Type 0 where
  pub other : Draft
  pub accepted : model_of model ≡ Ok other
  pub policy_is : IsPolicyFileOf as_code other policy_text policy
  pub inputs_are : Reads other inputs_text inputs
  pub alike : RunsAlike basin other policy
