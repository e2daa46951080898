-- What the files that a command names are found to be.
use Rattle.std.specs.Prelude.{◌≡◌, Bool, ◌&&◌, ℕ, ◌<◌, ◌≤◌, List, Ok, Err, Option, None, Some, if◌then◌else◌, MatchOption, length, IfSome, IsSome, IsSomeAnd, IsTrue, Result}
use Rattle.rw_io.specs.Causes.{Rose}
use Rattle.rw_io.specs.declared.whole_file.TheConstants.{FILE_MAX}
use Rattle.rw_model.specs.Draft.{Draft}
use Rattle.rw_model_toml.specs.Model.{model_of}
use Rattle.rw_model_toml.specs.Refusal.{ModelRefusal}
use Rattle.rw_base.specs.declared.number.Cell.{Cell}
use Rattle.rw_inputs.specs.EditRows.{edits_of, scenarios_of}
use Rattle.rw_inputs.specs.Edits.{Batch}
use Rattle.rw_inputs.specs.Refusal.{InputRefusal}
use Rattle.rw_inputs.specs.Inputs.{Inputs as Given}
use Rattle.rw_inputs.specs.Reading.{Reads, Refuses}
use Rattle.rw_io.specs.Outside.{Change, Holds, ShelfView}
use Rattle.rw_model.specs.Draft.{IsSlot}
use Rattle.rw_commands.specs.Cell.{FindsCell, cell_asked}
use Rattle.rw_commands.specs.Command.{ReadsFile, Source, AtPath, OfSample, order, path_of, sample_text, seeks_cell, source_of, takes_code, wants_text}
use Rattle.rw_commands.specs.declared.refusal.Refusal.{Refusal}
use Rattle.rw_commands.specs.declared.refusal.Refusal.TheVariants.{NoCell}
use Rattle.rw_words.specs.Command.{Command}
use Rattle.rw_commands.specs.Policy.{is_code, IsPolicyFileOf, PolicyFile as Rules, PolicyRefusal, RefusesText}
use Rattle.rw_commands.specs.declared.refusal.File.{File}
use Rattle.rw_words.specs.declared.job.Job.{Job}
use Rattle.rw_commands.specs.declared.refusal.File.TheVariants.{Model, Policy, Inputs, Edits, Traces}

-- the text is all that the path holds, where that is told, and no longer than a file may be
pub record IsTextAt (holds : Holds) (text path : List ℕ) : Type 0 where
  pub told : IfSome (holds path) (λ file. text ≡ file)
  pub short : length text ≤ FILE_MAX

-- the text is the one that comes from there
abbrev pub HasText : Holds → File → List ℕ → Source → Type 0
HasText holds file text (AtPath path) = IsTextAt holds text path
HasText holds file text (OfSample seed) = text ≡ sample_text seed file

-- the command reads the file, and this is its text
abbrev pub WasRead : Command → Holds → File → List ℕ → Type 0
WasRead command holds file text = IsSomeAnd (source_of command file) (HasText holds file text)

-- the path holds more than a file may, where that is told
abbrev pub IsTooLong : Holds → List ℕ → Type 0
IsTooLong holds path = IfSome (holds path) (λ file. FILE_MAX < length file)

-- the command names a model of this basin
pub record ReadsModel (command : Command) (holds : Holds) (basin : Draft) : Type 0 where
  pub text : List ℕ
  pub read : WasRead command holds Model text
  pub is : model_of text ≡ Ok basin

-- the text of a model as a job wants it
abbrev pub text_wanted : Job → List ℕ → Option (List ℕ)
text_wanted job text = if wants_text job then Some text else None

-- the command names a model of this basin, whose text is this, where that is wanted
pub record ReadsModelText (command : Command) (holds : Holds) (basin : Draft) (text : Option (List ℕ)) : Type 0 where
  pub model : ReadsModel command holds basin
  pub text_is : text ≡ text_wanted command.job model.text

-- whether the command reads the text of its policy as code
abbrev pub reads_code : Command → List ℕ → Bool
reads_code command text = takes_code command.job && is_code text

-- the command names a model of this basin, and this policy for it
pub record ReadsPolicy (command : Command) (holds : Holds) (basin : Draft) (policy : Rules) : Type 0 where
  pub model : ReadsModel command holds basin
  pub text : List ℕ
  pub read : WasRead command holds Policy text
  pub is : IsPolicyFileOf (reads_code command text) basin text policy

-- the command names a model of this basin, and these inputs for it
pub record ReadsInputs (command : Command) (holds : Holds) (basin : Draft) (inputs : Given) : Type 0 where
  pub model : ReadsModel command holds basin
  pub text : List ℕ
  pub read : WasRead command holds Inputs text
  pub are : Reads basin text inputs

-- what a text of batches is read as, by its file
abbrev pub batches_read : File → Draft → List ℕ → Result (List Batch) InputRefusal
batches_read Traces basin text = scenarios_of basin text
batches_read file basin text = edits_of basin text

-- the command names a model of this basin, and in this file these batches for it
pub record ReadsBatches (command : Command) (holds : Holds) (file : File) (basin : Draft) (batches : List Batch) : Type 0 where
  pub model : ReadsModel command holds basin
  pub text : List ℕ
  pub read : WasRead command holds file text
  pub are : batches_read file basin text ≡ Ok batches

-- batches of edits
abbrev pub ReadsEdits : Command → Holds → Draft → List Batch → Type 0
ReadsEdits command holds basin batches = ReadsBatches command holds Edits basin batches

-- and scenarios, in a file of traces
abbrev pub ReadsScenarios : Command → Holds → Draft → List Batch → Type 0
ReadsScenarios command holds basin batches = ReadsBatches command holds Traces basin batches

-- ---- all files of a command

-- what they say: the basin of its model, and the policy, the inputs, the edits, the scenarios and the cell, where it names them, and the
-- text of the model, where it is wanted
pub record FilesRead : Type 0 where
  pub basin : Draft
  pub policy : Option Rules
  pub inputs : Option Given
  pub edits : Option (List Batch)
  pub scenarios : Option (List Batch)
  pub cell : Option Cell
  pub text : Option (List ℕ)

-- a file that the command doesn't read says nothing, and any other is this
abbrev pub SaysAt : {A : Type 0} → Command → File → Option A → (A → Type 0) → Type 0
SaysAt command file found IsIt = MatchOption found (source_of command file ≡ None) IsIt

-- the command's files are read, and this is what they say
pub record AreRead (command : Command) (holds : Holds) (files : FilesRead) : Type 0 where
  pub model : ReadsModel command holds files.basin
  pub policy : SaysAt command Policy files.policy (ReadsPolicy command holds files.basin)
  pub inputs : SaysAt command Inputs files.inputs (ReadsInputs command holds files.basin)
  pub edits : SaysAt command Edits files.edits (ReadsEdits command holds files.basin)
  pub scenarios : SaysAt command Traces files.scenarios (ReadsScenarios command holds files.basin)
  pub cell : FindsCell command files.basin files.cell
  pub text_is : files.text ≡ text_wanted command.job model.text

-- the file is accepted
abbrev pub Accepts : Command → Holds → File → Type 0
Accepts command holds Model = (basin : Draft) × ReadsModel command holds basin
Accepts command holds Policy =
    (basin : Draft) × (policy : Rules) × ReadsPolicy command holds basin policy
Accepts command holds Inputs =
    (basin : Draft) × (inputs : Given) × ReadsInputs command holds basin inputs
Accepts command holds Edits =
    (basin : Draft) × (batches : List Batch) × ReadsEdits command holds basin batches
Accepts command holds Traces =
    (basin : Draft) × (batches : List Batch) × ReadsScenarios command holds basin batches

-- every file that the command reads is
abbrev pub AcceptsAll : Command → Holds → Type 0
AcceptsAll command holds = (file : File) → ReadsFile command file → Accepts command holds file

-- each file that is read before this one is accepted
abbrev pub Reaches : Command → Holds → File → Type 0
Reaches command holds file =
    (earlier : File) → ReadsFile command earlier → order earlier < order file → Accepts command holds earlier

-- ---- what is refused

-- the command names a model that is refused for this
pub record RefusesModel (command : Command) (holds : Holds) (why : ModelRefusal) : Type 0 where
  pub text : List ℕ
  pub read : WasRead command holds Model text
  pub is : model_of text ≡ Err why

-- the command names a model, and a policy that is refused for this
pub record RefusesPolicy (command : Command) (holds : Holds) (why : PolicyRefusal) : Type 0 where
  pub basin : Draft
  pub model : ReadsModel command holds basin
  pub text : List ℕ
  pub read : WasRead command holds Policy text
  pub is : RefusesText (reads_code command text) basin text why

-- the command names a model, inputs are reached, and are refused for this
pub record RefusesInputs (command : Command) (holds : Holds) (why : InputRefusal) : Type 0 where
  pub basin : Draft
  pub model : ReadsModel command holds basin
  pub reached : Reaches command holds Inputs
  pub text : List ℕ
  pub read : WasRead command holds Inputs text
  pub are : Refuses basin text why

-- the command names a model, the batches of this file are reached, and are refused for this
pub record RefusesBatches (command : Command) (holds : Holds) (file : File) (why : InputRefusal) : Type 0 where
  pub basin : Draft
  pub model : ReadsModel command holds basin
  pub reached : Reaches command holds file
  pub text : List ℕ
  pub read : WasRead command holds file text
  pub are : batches_read file basin text ≡ Err why

-- those of edits
abbrev pub RefusesEdits : Command → Holds → InputRefusal → Type 0
RefusesEdits command holds why = RefusesBatches command holds Edits why

-- and scenarios
abbrev pub RefusesScenarios : Command → Holds → InputRefusal → Type 0
RefusesScenarios command holds why = RefusesBatches command holds Traces why

-- every file of the command is accepted, and it asks for a cell that its basin doesn't have
pub record LacksCell (command : Command) (holds : Holds) : Type 0 where
  pub basin : Draft
  pub model : ReadsModel command holds basin
  pub accepted : AcceptsAll command holds
  pub seeks : IsTrue (seeks_cell command.job)
  pub none : cell_asked command basin ≡ None

-- the cell of a command, where it asks for one, or that the basin doesn't have it
abbrev pub IsCellRead : Command → Draft → Result (Option Cell) Refusal → Type 0
IsCellRead command basin (Ok found) = FindsCell command basin found × IfSome found (λ cell. IsSlot basin.objects cell.slot.0)
IsCellRead command basin (Err why) = (why ≡ NoCell) × IsTrue (seeks_cell command.job) × (cell_asked command basin ≡ None)

-- the file is reached, and holds more than a file may, where that is told
pub record HoldsTooLong (command : Command) (holds : Holds) (file : File) : Type 0 where
  pub reached : Reaches command holds file
  pub longer : IsSomeAnd (path_of command file) (IsTooLong holds)

-- the shelf tells what the path holds, and has had no fault of it in the call
pub record IsHonest (shelf : Change ShelfView) (path : List ℕ) : Type 0 where
  pub told : IsSome (shelf.before.holds path)
  pub stands : ¬ Rose (shelf.before.faults path) (shelf.after.faults path)

-- it is honest of that file, and of each that is read before it
abbrev pub IsHonestUpTo : Command → Change ShelfView → File → Type 0
IsHonestUpTo command shelf file =
    (it : File) → order it ≤ order file → IfSome (path_of command it) (IsHonest shelf)

-- it is honest of every file
abbrev pub IsHonestOfAll : Command → Change ShelfView → Type 0
IsHonestOfAll command shelf = (file : File) → IfSome (path_of command file) (IsHonest shelf)
