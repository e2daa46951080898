-- Reasons on which a command has to be refused, in the definitions' own terms.
use Rattle.std.specs.Prelude.{ℕ}
use Rattle.rw_inputs.specs.Refusal.{InputRefusal}
use Rattle.rw_model_toml.specs.Refusal.{ModelRefusal}
use Rattle.rw_io.specs.Outside.{Change, Holds, ShelfView}
use Rattle.rw_words.specs.Command.{Command}
use Rattle.rw_commands.specs.Policy.{PolicyRefusal, BadRules, BadBlocks}
use Rattle.rw_commands.specs.Reading.{HoldsTooLong, IsHonestUpTo, RefusesEdits, RefusesInputs, RefusesModel, RefusesPolicy, RefusesScenarios}
use Rattle.rw_commands.specs.declared.refusal.File.{File}
use Rattle.rw_commands.specs.declared.refusal.File.TheVariants.{Model, Policy, Inputs, Edits, Traces}

-- its model, its policy, its inputs, its edits, its scenarios, or a file that is too long
pub data Reason : Type 0 where
  BadModel : ModelRefusal → Reason
  BadPolicy : PolicyRefusal → Reason
  BadInputs : InputRefusal → Reason
  BadEdits : InputRefusal → Reason
  BadScenarios : InputRefusal → Reason
  LongFile : File → Reason

-- the status of a call whose policy is refused for this
abbrev pub policy_status : PolicyRefusal → ℕ
policy_status (BadRules why) = 7
policy_status (BadBlocks why) = 9

-- the status of a call that is refused on that reason
abbrev pub status_by : Reason → ℕ
status_by (BadModel why) = 6
status_by (BadPolicy why) = policy_status why
status_by (BadInputs why) = 8
status_by (BadEdits why) = 8
status_by (BadScenarios why) = 8
status_by (LongFile file) = 10

-- the file of which it is found
abbrev pub file_of : Reason → File
file_of (BadModel why) = Model
file_of (BadPolicy why) = Policy
file_of (BadInputs why) = Inputs
file_of (BadEdits why) = Edits
file_of (BadScenarios why) = Traces
file_of (LongFile file) = file

-- it is found, of a command and what the shelf holds
abbrev pub IsFoundReason : Command → Holds → Reason → Type 0
IsFoundReason command holds (BadModel why) = RefusesModel command holds why
IsFoundReason command holds (BadPolicy why) = RefusesPolicy command holds why
IsFoundReason command holds (BadInputs why) = RefusesInputs command holds why
IsFoundReason command holds (BadEdits why) = RefusesEdits command holds why
IsFoundReason command holds (BadScenarios why) = RefusesScenarios command holds why
IsFoundReason command holds (LongFile file) = HoldsTooLong command holds file

-- the shelf is honest of each file that is read up to there
abbrev pub IsHonestFor : Command → Change ShelfView → Reason → Type 0
IsHonestFor command shelf reason = IsHonestUpTo command shelf (file_of reason)
