-- A call on one plain reservoir, whose inflow and outflow are given.
use Rattle.std.specs.Prelude.{ℕ, ℤ, List, IsSome}
use Rattle.rw_plain_reservoir.specs.FirstForm.{FirstModel, IsFirstForm, IsFirstFlows}
use Rattle.rw_inputs.specs.Inputs.{Inputs}
use Rattle.rw_model.specs.Draft.{Draft}
use Rattle.rw_commands.specs.Call.{Call}
use Rattle.rw_commands.specs.Command.{AskForCommand, simulation_of}
use Rattle.rw_commands.specs.Reading.{ReadsInputs}

-- the words ask for the run of that reservoir with these flows, and the shelf tells both files
pub record IsFirstCall (call : Call) (model : FirstModel) (inflows outflows : List ℤ) : Type 0 where
  pub model_path : List ℕ
  pub inputs_path : List ℕ
  pub asked : AskForCommand call.words (simulation_of model_path inputs_path)
  pub told_model : IsSome (call.shelf.before.holds model_path)
  pub told_inputs : IsSome (call.shelf.before.holds inputs_path)
  pub basin : Draft
  pub inputs : Inputs
  pub read : ReadsInputs (simulation_of model_path inputs_path) call.shelf.before.holds basin inputs
  pub form : IsFirstForm basin model
  pub flows : IsFirstFlows inputs model.run.count inflows outflows
