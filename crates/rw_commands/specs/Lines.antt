-- The lines on the error stream.
use Rattle.std.specs.Prelude.{ℕ, List, [], ◌++◌, codes, string_bytes, unwrap_or}
use Rattle.std.specs.Fmt.{decimal}
use Rattle.rw_calendar.specs.declared.fault.CalFault.{CalFault}
use Rattle.rw_calendar.specs.declared.fault.CalFault.TheVariants.{BadStart, NotFirstOfMonth, BeyondYears, NoMemory as NoMemoryForStamps}
use Rattle.rw_table.specs.declared.fault.TableFault.{TableFault}
use Rattle.rw_table.specs.declared.fault.TableFault.TheVariants.{TooFewRows, TooManyRows, OutOfBounds as RowOutOfBounds, NotRising, NoMemory as NoMemoryForRows}
use Rattle.rw_model.specs.declared.fault.BuildFault.{BuildFault}
use Rattle.rw_model.specs.declared.fault.BuildFault.TheVariants.{DuplicateName, UnknownSlot as NoSuchSlot, LinkedTwice, LinkWithinObject, LinkDimension, LinkBounds, BadParameter, TooMany, NoMemory as NoMemoryToBuild}
use Rattle.rw_model_toml.specs.declared.fault.ModelFault.{ModelFault}
use Rattle.rw_model_toml.specs.declared.fault.ModelFault.TheVariants.{NotToml, Missing, WrongKind, UnknownKey, UnknownKind, Build, Table, Calendar, NoMemory as NoMemoryForModel}
use Rattle.rw_inputs.specs.declared.fault.InputKind.{InputKind}
use Rattle.rw_inputs.specs.declared.fault.InputKind.TheVariants.{Header, UnknownSlot, NotSettable, NotANumber, OutOfBounds, StepOutside, Twice, Ragged, BatchOrder, TooMany as TooManyEdits}
use Rattle.rpl_parse.specs.declared.fault.ParseFault.{ParseFault}
use Rattle.rpl_parse.specs.declared.fault.ParseFault.TheVariants.{BadToken, BadDeclaration, TooMany as TooManyDeclarations, NoMemory as NoMemoryToParse}
use Rattle.rpl_types.specs.declared.type_kind.TypeKind.{TypeKind}
use Rattle.rpl_types.specs.declared.type_kind.TypeKind.TheVariants as T
use Rattle.rpl_code.specs.declared.fault.CodeFault.{CodeFault}
use Rattle.rpl_code.specs.declared.fault.CodeFault.TheVariants as C
use Rattle.rpl_verify.specs.declared.verify_kind.VerifyKind.{VerifyKind}
use Rattle.rpl_verify.specs.declared.verify_kind.VerifyKind.TheVariants as V
use Rattle.rw_commands.specs.Command.{path_of}
use Rattle.rw_words.specs.Command.{Command}
use Rattle.rw_commands.specs.declared.refusal.File.{File}
use Rattle.rw_commands.specs.declared.refusal.Refusal.{Refusal}
use Rattle.rw_commands.specs.declared.refusal.Refusal.TheVariants.{Words, CannotRead, CannotWrite, NoMemory, Model, Grammar, Types, Code, Block, Inputs, Edits, Traces, NoCell, TooLong}

-- what is wrong with what the basin is built of
abbrev pub build_words : BuildFault → List ℕ
build_words DuplicateName = codes "duplicate name"
build_words NoSuchSlot = codes "unknown slot"
build_words LinkedTwice = codes "linked twice"
build_words LinkWithinObject = codes "link within object"
build_words LinkDimension = codes "link dimension"
build_words LinkBounds = codes "link bounds"
build_words BadParameter = codes "bad parameter"
build_words (TooMany most) = codes "too many"
build_words NoMemoryToBuild = codes "no memory"

-- with rows of a table
abbrev pub table_words : TableFault → List ℕ
table_words TooFewRows = codes "too few rows"
table_words TooManyRows = codes "too many rows"
table_words (RowOutOfBounds row) = codes "out of bounds"
table_words (NotRising row) = codes "not rising"
table_words NoMemoryForRows = codes "no memory"

-- with the timesteps of a run
abbrev pub calendar_words : CalFault → List ℕ
calendar_words BadStart = codes "bad start"
calendar_words NotFirstOfMonth = codes "not first of month"
calendar_words BeyondYears = codes "beyond years"
calendar_words NoMemoryForStamps = codes "no memory"

-- with a row of inputs
abbrev pub input_words : InputKind → List ℕ
input_words Header = codes "header"
input_words UnknownSlot = codes "unknown slot"
input_words NotSettable = codes "not settable"
input_words NotANumber = codes "not a number"
input_words OutOfBounds = codes "out of bounds"
input_words StepOutside = codes "step outside"
input_words Twice = codes "twice"
input_words Ragged = codes "ragged"
input_words BatchOrder = codes "batch order"
input_words TooManyEdits = codes "too many"

-- with a node of a ruleset
abbrev pub type_words : TypeKind → List ℕ
type_words T.UnknownName = codes "unknown name"
type_words T.UnknownSlot = codes "unknown slot"
type_words T.UnknownUnit = codes "unknown unit"
type_words T.NotSettable = codes "not settable"
type_words T.WrongType = codes "wrong type"
type_words T.WrongUnit = codes "wrong unit"
type_words T.WrongCount = codes "wrong count"
type_words T.NotEarlier = codes "not earlier"
type_words T.DuplicateName = codes "duplicate name"
type_words T.TargetStep = codes "target step"
type_words T.ListTooLong = codes "list too long"
type_words T.LiteralRange = codes "literal range"
type_words T.NoTable = codes "no table"
type_words T.TooCostly = codes "too costly"

-- with a place of a block of code
abbrev pub verify_words : VerifyKind → List ℕ
verify_words V.TooMany = codes "too many"
verify_words V.NoSuchName = codes "no such name"
verify_words V.NotSettable = codes "not settable"
verify_words V.PutInFunction = codes "put in function"
verify_words V.TargetStep = codes "target step"
verify_words V.BackwardJump = codes "backward jump"
verify_words V.JumpOutside = codes "jump outside"
verify_words V.LaterCall = codes "later call"
verify_words V.MissingOperand = codes "missing operand"
verify_words V.WrongOperand = codes "wrong operand"
verify_words V.WrongShape = codes "wrong shape"
verify_words V.TooCostly = codes "too costly"
verify_words V.TooManyReads = codes "too many reads"
verify_words V.TooManyPuts = codes "too many puts"
verify_words V.TooDeep = codes "too deep"

-- the line on a model that is refused
abbrev pub model_line : ModelFault → List ℕ
model_line NotToml = codes "basin: model: not TOML\n"
model_line (Missing path) = (codes "basin: model: missing " ++ string_bytes path) ++ codes "\n"
model_line (WrongKind path) = (codes "basin: model: wrong kind " ++ string_bytes path) ++ codes "\n"
model_line (UnknownKey path) = (codes "basin: model: unknown key " ++ string_bytes path) ++ codes "\n"
model_line (UnknownKind path) = (codes "basin: model: unknown kind " ++ string_bytes path) ++ codes "\n"
model_line (Build path fault) =
    (codes "basin: model: build " ++ string_bytes path) ++ ((codes ": " ++ build_words fault) ++ codes "\n")
model_line (Table path fault) =
    (codes "basin: model: table " ++ string_bytes path) ++ ((codes ": " ++ table_words fault) ++ codes "\n")
model_line (Calendar fault) = (codes "basin: model: calendar: " ++ calendar_words fault) ++ codes "\n"
model_line NoMemoryForModel = codes "basin: model: no memory\n"

-- the line on a text that is no ruleset
abbrev pub grammar_line : ParseFault → List ℕ
grammar_line (BadToken line) = (codes "basin: rules: line " ++ decimal line) ++ ((codes ": " ++ codes "bad token") ++ codes "\n")
grammar_line (BadDeclaration declaration line) =
    (codes "basin: rules: declaration " ++ decimal declaration)
    ++ ((codes " line " ++ decimal line) ++ ((codes ": " ++ codes "bad declaration") ++ codes "\n"))
grammar_line (TooManyDeclarations declaration) =
    (codes "basin: rules: declaration " ++ decimal declaration) ++ ((codes ": " ++ codes "too many") ++ codes "\n")
grammar_line NoMemoryToParse = codes "basin: rules: no memory\n"

-- the line on a node of a ruleset that is refused
abbrev pub types_line : TypeKind → ℕ → ℕ → List ℕ
types_line kind declaration node =
    (codes "basin: rules: declaration " ++ decimal declaration)
    ++ ((codes " node " ++ decimal node) ++ ((codes ": " ++ type_words kind) ++ codes "\n"))

-- the line on a text that is no code
abbrev pub code_line : CodeFault → List ℕ
code_line (C.BadLine line) = (codes "basin: code: line " ++ decimal line) ++ ((codes ": " ++ codes "bad line") ++ codes "\n")
code_line C.Truncated = codes "basin: code: truncated\n"
code_line C.NoMemory = codes "basin: code: no memory\n"

-- the line on a place of a block that is refused
abbrev pub block_line : VerifyKind → ℕ → ℕ → List ℕ
block_line kind block place =
    (codes "basin: code: block " ++ decimal block)
    ++ ((codes " place " ++ decimal place) ++ ((codes ": " ++ verify_words kind) ++ codes "\n"))

-- the line on inputs that are refused
abbrev pub inputs_line : InputKind → ℕ → ℕ → List ℕ
inputs_line kind row column =
    (codes "basin: inputs: row " ++ decimal row)
    ++ ((codes " column " ++ decimal column) ++ ((codes ": " ++ input_words kind) ++ codes "\n"))

-- the line on edits that are refused
abbrev pub edits_line : InputKind → ℕ → ℕ → List ℕ
edits_line kind row column =
    (codes "basin: edits: row " ++ decimal row)
    ++ ((codes " column " ++ decimal column) ++ ((codes ": " ++ input_words kind) ++ codes "\n"))

-- the line on traces that are refused
abbrev pub traces_line : InputKind → ℕ → ℕ → List ℕ
traces_line kind row column =
    (codes "basin: traces: row " ++ decimal row)
    ++ ((codes " column " ++ decimal column) ++ ((codes ": " ++ input_words kind) ++ codes "\n"))

-- the line on words that ask for nothing
abbrev pub words_line : List ℕ
words_line = codes "basin: words refused\n"

-- the line on want of memory
abbrev pub memory_line : List ℕ
memory_line = codes "basin: want of memory\n"

-- the path of a file as a line has it
abbrev pub told_path : Command → File → List ℕ
told_path command file = unwrap_or (path_of command file) []

-- the line that says why a command isn't done
abbrev pub refusal_line : Command → Refusal → List ℕ
refusal_line command Words = words_line
refusal_line command (CannotRead file) =
    (codes "basin: cannot read " ++ told_path command file) ++ codes "\n"
refusal_line command CannotWrite = codes "basin: cannot write\n"
refusal_line command NoMemory = memory_line
refusal_line command (Model fault) = model_line fault
refusal_line command (Grammar fault) = grammar_line fault
refusal_line command (Types kind declaration node) = types_line kind declaration node
refusal_line command (Code fault) = code_line fault
refusal_line command (Block kind block place) = block_line kind block place
refusal_line command (Inputs kind row column) = inputs_line kind row column
refusal_line command (Edits kind row column) = edits_line kind row column
refusal_line command (Traces kind row column) = traces_line kind row column
refusal_line command NoCell = codes "basin: why: no such cell\n"
refusal_line command (TooLong file) =
    (codes "basin: too long " ++ told_path command file) ++ codes "\n"
