-- Why a command isn't done, and with which status the call says so.
use Rattle.std.specs.Prelude.{◌≡◌, ◌⊎◌, Bool, ℕ, ◌<◌, List, Option, option_map, None, Some, IsSomeAnd, Err, ⊤}
use Rattle.rw_io.specs.Causes.{Rose}
use Rattle.rw_io.specs.Outside.{Change, ShelfView, SinkView}
use Rattle.rw_io.specs.declared.whole_file.TheConstants.{FILE_MAX}
use Rattle.rw_io.specs.declared.whole_file.ReadEnd.{ReadEnd}
use Rattle.rw_io.specs.declared.whole_file.ReadEnd.TheVariants.{ReadFault, TooLong as EndTooLong, NoMemory as EndNoMemory}
use Rattle.rw_model.specs.Draft.{Draft}
use Rattle.rw_model_toml.specs.Fault.{model_refusal_of}
use Rattle.rw_model_toml.specs.Model.{model_of}
use Rattle.rw_model_toml.specs.Refusal.{ModelRefusal}
use Rattle.rw_inputs.specs.EditRows.{edits_of, scenarios_of}
use Rattle.rw_inputs.specs.Reading.{Refuses}
use Rattle.rw_inputs.specs.Refusal.{InputRefusal, refused_at}
use Rattle.rpl_parse.specs.Parsing.{grammar_refusal_of as refusal_of_grammar}
use Rattle.rpl_types.specs.Judged.{type_refusal}
use Rattle.rpl_code.specs.Answers.{code_refusal_of as refusal_of_code}
use Rattle.rpl_verify.specs.Fits.{refusal as block_refusal}
use Rattle.rw_commands.specs.Command.{path_of}
use Rattle.rw_words.specs.Command.{Command}
use Rattle.rw_commands.specs.Policy.{Unread, Misfit, PolicyRefusal, BadRules, BadBlocks, RefusesText, BadGrammar, BadNode}
use Rattle.rw_commands.specs.Reason.{Reason, BadModel, BadPolicy, BadInputs, BadEdits, BadScenarios, LongFile, IsFoundReason}
use Rattle.rw_commands.specs.Reading.{HoldsTooLong, LacksCell, Reaches}
use Rattle.rw_commands.specs.Written.{WritesFront, WritesSections}
use Rattle.rw_commands.specs.declared.refusal.File.{File}
use Rattle.rw_commands.specs.declared.refusal.Refusal.{Refusal}
use Rattle.rw_commands.specs.declared.refusal.Refusal.TheVariants.{Words, CannotRead, CannotWrite, NoMemory, Model, Grammar, Types, Code, Block, Inputs, Edits, Traces, NoCell, TooLong}

abbrev pub status_of : Refusal → ℕ
status_of Words = 2
status_of (CannotRead file) = 3
status_of CannotWrite = 4
status_of NoMemory = 5
status_of (Model fault) = 6
status_of (Grammar fault) = 7
status_of (Types kind declaration node) = 7
status_of (Code fault) = 9
status_of (Block kind block place) = 9
status_of (Inputs kind row column) = 8
status_of (Edits kind row column) = 8
status_of (Traces kind row column) = 8
status_of NoCell = 8
status_of (TooLong file) = 10

-- the reason that a refusal tells, if it tells one
abbrev pub reason_of : Refusal → Option Reason
reason_of (Model fault) = option_map (λ why. BadModel why) (model_refusal_of fault)
reason_of (Grammar fault) = option_map (λ why. BadPolicy (BadRules (BadGrammar why))) (refusal_of_grammar fault)
reason_of (Types kind declaration node) = Some (BadPolicy (BadRules (BadNode (type_refusal kind declaration node))))
reason_of (Code fault) = option_map (λ why. BadPolicy (BadBlocks (Unread why))) (refusal_of_code fault)
reason_of (Block kind block place) = Some (BadPolicy (BadBlocks (Misfit (block_refusal kind block place))))
reason_of (Inputs kind row column) = Some (BadInputs (refused_at kind row column))
reason_of (Edits kind row column) = Some (BadEdits (refused_at kind row column))
reason_of (Traces kind row column) = Some (BadScenarios (refused_at kind row column))
reason_of (TooLong file) = Some (LongFile file)
reason_of why = None

-- the call ends with this status, or with that of want of memory, which may always come
abbrev pub EndsWith : ℕ → ℕ → Type 0
EndsWith status result = (result ≡ status) ⊎ (result ≡ 5)

-- the refusal where a file isn't read whole
abbrev pub refusal_after : ReadEnd → File → Refusal
refusal_after ReadFault file = CannotRead file
refusal_after EndTooLong file = TooLong file
refusal_after EndNoMemory file = NoMemory

-- the file was reached, and a fault of it was counted
pub record FailsToRead (command : Command) (shelf : Change ShelfView) (file : File) : Type 0 where
  pub reached : Reaches command shelf.before.holds file
  pub rose : IsSomeAnd (path_of command file)
      (λ path. Rose (shelf.before.faults path) (shelf.after.faults path))

-- the file was reached, and more bytes were taken of it than a file may hold
pub record FindsTooLong (command : Command) (shelf : Change ShelfView) (file : File) : Type 0 where
  pub holds_too_long : HoldsTooLong command shelf.before.holds file
  pub more : FILE_MAX < shelf.after.taken

-- the reason was found in the call
abbrev pub WasFound : Command → Change ShelfView → Reason → Type 0
WasFound command shelf (LongFile file) = FindsTooLong command shelf file
WasFound command shelf reason = IsFoundReason command shelf.before.holds reason

-- the refusal tells a reason that was found
pub record TellsReason (command : Command) (shelf : Change ShelfView) (why : Refusal) : Type 0 where
  pub reason : Reason
  pub tells : reason_of why ≡ Some reason
  pub found : WasFound command shelf reason

-- why nothing is written: a fault of a file, want of memory, which is free, a cell that isn't there, or a reason
abbrev pub FileCause : Command → Change ShelfView → Refusal → Type 0
FileCause command shelf (CannotRead file) = FailsToRead command shelf file
FileCause command shelf NoMemory = ⊤
FileCause command shelf NoCell = LacksCell command shelf.before.holds
FileCause command shelf why = TellsReason command shelf why

-- why the command is refused. After a failed write a front of its text was written, after want of memory the first sections of runs
-- or nothing, and else nothing
abbrev pub Cause : Command → Change ShelfView → Change SinkView → Refusal → Type 0
Cause command shelf out CannotWrite =
    WritesFront command shelf.before.holds out × Rose out.before.faults out.after.faults
Cause command shelf out NoMemory = WritesSections command shelf.before.holds out
Cause command shelf out why = FileCause command shelf why × (out.after.contents ≡ out.before.contents)

-- why the bytes of a model's file give no basin
abbrev pub IsModelRefusal : List ℕ → Refusal → Type 0
IsModelRefusal text why =
    (why ≡ NoMemory) ⊎ ((bad : ModelRefusal) × (reason_of why ≡ Some (BadModel bad)) × (model_of text ≡ Err bad))

-- why the bytes of an inputs file give no inputs for the basin
abbrev pub IsInputRefusal : Draft → List ℕ → Refusal → Type 0
IsInputRefusal basin text why =
    (why ≡ NoMemory) ⊎ ((bad : InputRefusal) × (reason_of why ≡ Some (BadInputs bad)) × Refuses basin text bad)

-- why the bytes of an edits file give no batches for the basin
abbrev pub IsEditRefusal : Draft → List ℕ → Refusal → Type 0
IsEditRefusal basin text why =
    (why ≡ NoMemory) ⊎ ((bad : InputRefusal) × (reason_of why ≡ Some (BadEdits bad)) × (edits_of basin text ≡ Err bad))

-- why the bytes of a file of traces give no scenarios for the basin
abbrev pub IsScenarioRefusal : Draft → List ℕ → Refusal → Type 0
IsScenarioRefusal basin text why =
    (why ≡ NoMemory) ⊎ ((bad : InputRefusal) × (reason_of why ≡ Some (BadScenarios bad)) × (scenarios_of basin text ≡ Err bad))

-- why the bytes of a policy's file, which are read as code or as a ruleset, give no policy for the basin
abbrev pub IsPolicyRefusal : Bool → Draft → List ℕ → Refusal → Type 0
IsPolicyRefusal as_code basin text why =
    (why ≡ NoMemory) ⊎ ((bad : PolicyRefusal) × (reason_of why ≡ Some (BadPolicy bad)) × RefusesText as_code basin text bad)
