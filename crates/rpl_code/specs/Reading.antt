-- What a text is read as: the code that it spells, or the first line that isn't allowed in its place.
use Rattle.std.specs.Prelude.{ℕ, ◌+◌, Bool, true, false, ◌&&◌, if◌then◌else◌, Option, Some, None, option_map, option_and_then, Result, Ok, Err, List, [], ◌∷◌, codes}
use Rattle.std.specs.Str.{bytes_eq}
use Rattle.rpl_code.specs.declared.kind.ValueKind.{ValueKind}
use Rattle.rpl_code.specs.declared.instruction.Instruction.{Instruction}
use Rattle.rpl_code.specs.declared.instruction.Instruction.TheVariants as I
use Rattle.rpl_code.specs.declared.block.BlockHead.TheVariants.{Rule, Function}
use Rattle.rpl_code.specs.declared.block.Block.{Block}
use Rattle.rpl_code.specs.declared.said.Said.{Said}
use Rattle.rpl_code.specs.declared.said.Said.TheVariants as S
use Rattle.rpl_code.specs.Parting.{parted}
use Rattle.rpl_code.specs.Words.{if_so, entry_at, number_in, count_in, length_in, quantity_in, truth_in, name_in, slot_spelt, kind_in, kinds_in}

-- lines of one word
abbrev pub alone : List ((List ℕ) × Said)
alone =
    (codes "RULE", S.Opening Rule) ∷ (codes "END", S.Ending) ∷ (codes "now", S.Instruction I.Now)
    ∷ (codes "add", S.Instruction I.Add) ∷ (codes "sub", S.Instruction I.Sub) ∷ (codes "mul", S.Instruction I.Mul)
    ∷ (codes "div", S.Instruction I.Div) ∷ (codes "neg", S.Instruction I.Neg) ∷ (codes "shift", S.Instruction I.Shift)
    ∷ (codes "back", S.Instruction I.Back) ∷ (codes "between", S.Instruction I.Between) ∷ (codes "eq", S.Instruction I.Eq)
    ∷ (codes "lt", S.Instruction I.Lt) ∷ (codes "le", S.Instruction I.Le) ∷ (codes "deq", S.Instruction I.Deq)
    ∷ (codes "dlt", S.Instruction I.Dlt) ∷ (codes "dle", S.Instruction I.Dle) ∷ (codes "not", S.Instruction I.Not)
    ∷ (codes "read", S.Instruction I.Read) ∷ (codes "known", S.Instruction I.Known) ∷ (codes "month", S.Instruction I.Month)
    ∷ (codes "day", S.Instruction I.Day) ∷ (codes "year", S.Instruction I.Year) ∷ (codes "append", S.Instruction I.Append)
    ∷ (codes "item", S.Instruction I.Item) ∷ (codes "length", S.Instruction I.Length) ∷ (codes "next", S.Instruction I.Next)
    ∷ (codes "yield", S.Instruction I.Yield) ∷ []

-- an instruction of what a word stands for
abbrev pub instruction_of : {A : Type 0} → (A → Instruction) → Option A → Option Said
instruction_of make read = option_map (λ x. S.Instruction (make x)) read

-- lines of a word and another behind it
abbrev pub with_one : List ((List ℕ) × (List ℕ → Option Said))
with_one =
    (codes "CODE", λ word. if_so (bytes_eq word (codes "1")) S.Heading)
    ∷ (codes "LOCALS", λ word. option_map S.Locals (kinds_in word))
    ∷ (codes "num", λ word. instruction_of I.Num (quantity_in word))
    ∷ (codes "bool", λ word. instruction_of I.Bool (truth_in word))
    ∷ (codes "slot", λ word. instruction_of (λ names. I.Slot names.0 names.1) (slot_spelt word))
    ∷ (codes "load", λ word. instruction_of I.Load (count_in word))
    ∷ (codes "store", λ word. instruction_of I.Store (count_in word))
    ∷ (codes "toelevation", λ word. instruction_of I.ToElevation (name_in word))
    ∷ (codes "tostorage", λ word. instruction_of I.ToStorage (name_in word))
    ∷ (codes "call", λ word. instruction_of I.Call (name_in word))
    ∷ (codes "invoke", λ word. instruction_of I.Invoke (count_in word))
    ∷ (codes "list", λ word. instruction_of I.List (length_in word))
    ∷ (codes "widen", λ word. instruction_of I.Widen (length_in word))
    ∷ (codes "jump", λ word. instruction_of I.Jump (count_in word))
    ∷ (codes "branch", λ word. instruction_of I.Branch (count_in word))
    ∷ (codes "target", λ word. instruction_of I.Target (kinds_in word))
    ∷ (codes "foreach", λ word. instruction_of I.Foreach (count_in word))
    ∷ (codes "map", λ word. instruction_of I.Map (count_in word)) ∷ []

-- the line of a function, and that of a put
abbrev pub function_line : List ℕ → List ℕ → Option Said
function_line result parameters =
    option_and_then (λ kind. option_map (λ kinds. S.Opening (Function kind kinds)) (kinds_in parameters)) (kind_in result)

abbrev pub put_line : List ℕ → List ℕ → Option Said
put_line slot ahead =
    option_and_then (λ names. option_map (λ n. S.Instruction (I.Put names.0 names.1 n)) (number_in 0 255 ahead)) (slot_spelt slot)

-- lines of a word and two others behind it
abbrev pub with_two : List ((List ℕ) × (List ℕ → List ℕ → Option Said))
with_two = (codes "FUNCTION", function_line) ∷ (codes "put", put_line) ∷ []

-- what a line of these words says, if it is a line
abbrev pub said_by : List (List ℕ) → Option Said
said_by (word ∷ []) = entry_at alone word
said_by (word ∷ one ∷ []) = option_and_then (λ says. says one) (entry_at with_one word)
said_by (word ∷ one ∷ two ∷ []) = option_and_then (λ says. says one two) (entry_at with_two word)
said_by _ = None

-- where a line stands: at the text's beginning, between blocks, behind a block's first line, or further inside the block
pub data Stage : Type 0 where
  top : Stage
  between : Stage
  headed : Stage
  inside : Stage

-- what may be said there
abbrev pub may_say : Stage → Said → Bool
may_say top S.Heading = true
may_say between (S.Opening head) = true
may_say headed (S.Locals kinds) = true
may_say inside (S.Instruction i) = true
may_say inside S.Ending = true
may_say _ _ = false

-- where the line behind this one stands
abbrev pub stage_behind : Said → Stage
stage_behind S.Heading = between
stage_behind (S.Opening head) = headed
stage_behind (S.Locals kinds) = inside
stage_behind (S.Instruction i) = inside
stage_behind S.Ending = between

-- whether the text may end there: no `END` is due
abbrev pub may_end : Stage → Bool
may_end between = true
may_end _ = false

-- what a line says where it stands, if it is allowed there
abbrev pub said_at : Stage → List ℕ → Option Said
said_at stage line = option_and_then (λ says. if_so (may_say stage says) says) (said_by (parted 32 line))

-- why a text is no code: a line, counted from 1, or that it ends too early
pub data CodeRefusal : Type 0 where
  bad_line : ℕ → CodeRefusal
  truncated : CodeRefusal

-- one line more, unless something is refused
abbrev pub and_then_all : Said → Result (List Said) CodeRefusal → Result (List Said) CodeRefusal
and_then_all says (Ok rest) = Ok (says ∷ rest)
and_then_all says (Err refusal) = Err refusal

abbrev pub unless_bad : ℕ → Option Said → (Said → Result (List Said) CodeRefusal) → Result (List Said) CodeRefusal
unless_bad n None rest = Err (bad_line n)
unless_bad n (Some says) rest = and_then_all says (rest says)

-- what the lines from line n on say; of a text parted at its line feeds the last part has none
abbrev pub all_said : ℕ → Stage → List (List ℕ) → Result (List Said) CodeRefusal
all_said n stage [] = Err truncated
all_said n stage (part ∷ []) = if may_end stage && bytes_eq part [] then Ok [] else Err truncated
all_said n stage (line ∷ next ∷ parts) =
    unless_bad n (said_at stage line) (λ says. all_said (n + 1) (stage_behind says) (next ∷ parts))

-- the locals and the instructions of the block whose first line stands before these
abbrev pub locals_said : List Said → List ValueKind
locals_said (S.Locals kinds ∷ rest) = kinds
locals_said _ = []

abbrev pub lines_said : List Said → List Instruction
lines_said (S.Locals kinds ∷ rest) = lines_said rest
lines_said (S.Instruction i ∷ rest) = i ∷ lines_said rest
lines_said _ = []

-- a block for each first line
abbrev pub blocks_said : List Said → List Block
blocks_said [] = []
blocks_said (S.Opening first ∷ rest) = record { head = first; locals = locals_said rest; lines = lines_said rest } ∷ blocks_said rest
blocks_said (_ ∷ rest) = blocks_said rest

abbrev pub result_of : Result (List Said) CodeRefusal → Result (List Block) CodeRefusal
result_of (Ok lines) = Ok (blocks_said lines)
result_of (Err refusal) = Err refusal

-- what a text is read as
abbrev pub read : List ℕ → Result (List Block) CodeRefusal
read text = result_of (all_said 1 top (parted 10 text))
