-- What is promised of each call of the program.
use Rattle.std.specs.Prelude.{◌≡◌, ◌⊎◌, ℕ, ◌≤◌, List, [], Option, Some, unwrap_or}
use Rattle.rw_io.specs.Causes.{Rose}
use Rattle.rw_io.specs.Known.{GrowsBy}
use Rattle.rw_base.specs.declared.number.Cell.{Cell}
use Rattle.rw_inputs.specs.Edits.{Batch}
use Rattle.rw_inputs.specs.Inputs.{Inputs as Rows}
use Rattle.rw_model.specs.Draft.{Draft}
use Rattle.rw_run.specs.declared.run.RunEnd.{RunEnd}
use Rattle.rpl_tree.specs.Tree.{Declared}
use Rattle.rpl_code.specs.Spelling.{spelt}
use Rattle.rpl_compile.specs.Translate.{translate}
use Rattle.rw_commands.specs.Budgets.{check_text}
use Rattle.rw_commands.specs.Cell.{cell_asked}
use Rattle.rw_commands.specs.Call.{Call}
use Rattle.rw_commands.specs.Command.{AskNothing, AskForCommand, extras_of}
use Rattle.rw_words.specs.Command.{Command}
use Rattle.rw_words.specs.declared.job.Job.TheVariants.{Sample}
use Rattle.rw_model_toml.specs.Migrated.{IsMigrated}
use Rattle.rw_run.specs.Log.{Log}
use Rattle.rw_commands.specs.Many.{AreScenarioRuns, many_texts}
use Rattle.rw_commands.specs.Policy.{PolicyFile as Rules, Ruleset}
use Rattle.rw_commands.specs.Reason.{Reason, IsFoundReason, IsHonestFor, status_by}
use Rattle.rw_commands.specs.Lines.{refusal_line, memory_line, words_line}
use Rattle.rw_commands.specs.Reading.{AcceptsAll, IsHonestOfAll, LacksCell, ReadsEdits, ReadsInputs, ReadsModel, ReadsPolicy, ReadsScenarios, SaysAt}
use Rattle.rw_commands.specs.Refusal.{Cause, EndsWith, status_of}
use Rattle.rw_commands.specs.RunText.{IsBalanceOfRules, IsRulesText, IsSampleOf, IsSimulated, IsWhyOfRules}
use Rattle.rw_commands.specs.Sections.{AreSections, first_given, joined_sections}
use Rattle.rw_commands.specs.Written.{CountsReused, TellsLine, WritesAll}
use Rattle.rw_commands.specs.declared.refusal.File.TheVariants.{Edits}
use Rattle.rw_commands.specs.declared.refusal.Refusal.{Refusal}
use Rattle.rw_commands.specs.declared.refusal.Refusal.TheVariants.{Words, NoMemory}

-- exactly the text of the command was written, with this status, and nothing on the error stream
pub record Wrote (call : Call) (status : ℕ) : Type 0 where
  pub command : Command
  pub asked : AskForCommand call.words command
  pub text : WritesAll command call.shelf.before.holds call.out status
  pub silent : call.err.after ≡ call.err.before

-- the words ask for nothing, and the line that says so is all that was written
pub record RefusedWords (call : Call) : Type 0 where
  pub nothing : AskNothing call.words
  pub still : call.out.after.contents ≡ call.out.before.contents
  pub told : TellsLine call.err words_line

-- memory was wanting before the words were read, and the line that says so is all that was written
pub record UnreadWords (call : Call) : Type 0 where
  pub still : call.out.after.contents ≡ call.out.before.contents
  pub told : TellsLine call.err memory_line

-- the command that the words ask for is refused for this, which has its cause, and was told in its line
pub record RefusedCommand (call : Call) (why : Refusal) : Type 0 where
  pub command : Command
  pub asked : AskForCommand call.words command
  pub cause : Cause command call.shelf call.out why
  pub told : TellsLine call.err (refusal_line command why)

-- the call is refused for this
abbrev pub WasRefused : Call → Refusal → Type 0
WasRefused call Words = RefusedWords call
WasRefused call NoMemory = UnreadWords call ⊎ RefusedCommand call NoMemory
WasRefused call why = RefusedCommand call why

-- no file of the command had a fault, and the output had none
pub record IsCalm (command : Command) (call : Call) : Type 0 where
  pub honest : IsHonestOfAll command call.shelf
  pub stands : ¬ Rose call.out.before.faults call.out.after.faults

-- a call that answers this status
pub record Promise (call : Call) (status : ℕ) : Type 0 where
  -- 0 and 1 come only with the text of the command
  pub done : status ≤ 1 → Wrote call status
  -- and each other status only with a refusal
  pub refused : 2 ≤ status → (why : Refusal) × (status ≡ status_of why) × WasRefused call why
  -- words that ask for nothing are refused, unless memory is wanting
  pub words : AskNothing call.words → EndsWith 2 status
  -- what has to be refused of a command is, of an honest shelf, unless memory is wanting
  pub due : (command : Command) → AskForCommand call.words command
      → (reason : Reason) → IsFoundReason command call.shelf.before.holds reason
      → IsHonestFor command call.shelf reason → EndsWith (status_by reason) status
  -- and so is a cell that isn't there
  pub cell : (command : Command) → AskForCommand call.words command → LacksCell command call.shelf.before.holds
      → IsHonestOfAll command call.shelf → EndsWith 8 status
  -- where every file is accepted, the cell is there and nothing fails, only memory can be wanting
  pub complete : (command : Command) → AskForCommand call.words command
      → AcceptsAll command call.shelf.before.holds → ¬ LacksCell command call.shelf.before.holds → IsCalm command call
      → (status ≤ 1) ⊎ (status ≡ 5)
  -- a run that reuses timesteps counts those that it runs
  pub counted : status ≤ 1 → (command : Command) → AskForCommand call.words command → CountsReused command call.shelf.before.holds call.steps
  -- no file is changed
  pub held : (path : List ℕ) → call.shelf.after.holds path ≡ call.shelf.before.holds path

-- ---- what a call wrote, by its job

-- a run without rules, in the order that is asked for, that ends so, and its text
pub record WroteRun (call : Call) (end : RunEnd) : Type 0 where
  pub command : Command
  pub asked : AskForCommand call.words command
  pub basin : Draft
  pub inputs : Rows
  pub read : ReadsInputs command call.shelf.before.holds basin inputs
  pub text : List ℕ
  pub is : IsSimulated command.order basin (extras_of command) 0 inputs end text
  pub grew : GrowsBy call.out.before.contents call.out.after.contents text

-- the sections of runs by a policy that is accepted, after each batch of edits, of which the last one ends so
pub record WroteRules (call : Call) (end : RunEnd) : Type 0 where
  pub command : Command
  pub asked : AskForCommand call.words command
  pub basin : Draft
  pub policy : Rules
  pub rules : ReadsPolicy command call.shelf.before.holds basin policy
  pub inputs : Rows
  pub read : ReadsInputs command call.shelf.before.holds basin inputs
  pub edits : Option (List Batch)
  pub edited : SaysAt command Edits edits (ReadsEdits command call.shelf.before.holds basin)
  pub texts : List (List ℕ)
  pub are : AreSections (IsRulesText basin policy (extras_of command)) 0 (first_given inputs) (unwrap_or edits []) end texts
  pub grew : GrowsBy call.out.before.contents call.out.after.contents (joined_sections texts)

-- how a cell came to what it holds in the run by a policy that is accepted, which ends so
pub record WroteWhy (call : Call) (end : RunEnd) : Type 0 where
  pub command : Command
  pub asked : AskForCommand call.words command
  pub basin : Draft
  pub policy : Rules
  pub rules : ReadsPolicy command call.shelf.before.holds basin policy
  pub inputs : Rows
  pub read : ReadsInputs command call.shelf.before.holds basin inputs
  pub cell : Cell
  pub named : cell_asked command basin ≡ Some cell
  pub text : List ℕ
  pub is : IsWhyOfRules basin policy inputs cell end text
  pub grew : GrowsBy call.out.before.contents call.out.after.contents text

-- the budgets of a policy that is accepted
pub record WroteCheck (call : Call) : Type 0 where
  pub command : Command
  pub asked : AskForCommand call.words command
  pub basin : Draft
  pub policy : Rules
  pub read : ReadsPolicy command call.shelf.before.holds basin policy
  pub grew : GrowsBy call.out.before.contents call.out.after.contents (check_text policy)

-- the code of a ruleset that is accepted
pub record WroteCode (call : Call) : Type 0 where
  pub command : Command
  pub asked : AskForCommand call.words command
  pub basin : Draft
  pub rules : List Declared
  pub read : ReadsPolicy command call.shelf.before.holds basin (Ruleset rules)
  pub grew : GrowsBy call.out.before.contents call.out.after.contents (spelt (translate rules))

-- the line of the sample of a seed
pub record WroteSample (call : Call) : Type 0 where
  pub command : Command
  pub asked : AskForCommand call.words command
  pub seed : ℕ
  pub job : command.job ≡ Sample seed
  pub text : List ℕ
  pub is : IsSampleOf seed text
  pub grew : GrowsBy call.out.before.contents call.out.after.contents text

-- the books of water of the run by a policy that is accepted, which ends so
pub record WroteBalance (call : Call) (end : RunEnd) : Type 0 where
  pub command : Command
  pub asked : AskForCommand call.words command
  pub basin : Draft
  pub policy : Rules
  pub rules : ReadsPolicy command call.shelf.before.holds basin policy
  pub inputs : Rows
  pub read : ReadsInputs command call.shelf.before.holds basin inputs
  pub text : List ℕ
  pub is : IsBalanceOfRules basin policy inputs end text
  pub grew : GrowsBy call.out.before.contents call.out.after.contents text

-- the sections of the runs of all scenarios by a policy that is accepted, and their summary
pub record WroteMany (call : Call) (logs : List Log) : Type 0 where
  pub command : Command
  pub asked : AskForCommand call.words command
  pub basin : Draft
  pub policy : Rules
  pub rules : ReadsPolicy command call.shelf.before.holds basin policy
  pub inputs : Rows
  pub read : ReadsInputs command call.shelf.before.holds basin inputs
  pub scenarios : List Batch
  pub told : ReadsScenarios command call.shelf.before.holds basin scenarios
  pub are : AreScenarioRuns basin policy inputs scenarios logs
  pub grew : GrowsBy call.out.before.contents call.out.after.contents (joined_sections (many_texts basin logs))

-- a model that is accepted, in format 2
pub record WroteMigrated (call : Call) : Type 0 where
  pub command : Command
  pub asked : AskForCommand call.words command
  pub basin : Draft
  pub model : ReadsModel command call.shelf.before.holds basin
  pub text : List ℕ
  pub is : IsMigrated model.text text
  pub grew : GrowsBy call.out.before.contents call.out.after.contents text
