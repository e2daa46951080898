-- The text of a code: lines of words.
use Rattle.std.specs.Prelude.{ℕ, Bool, true, false, Option, Some, None, unwrap_or, List, [], ◌∷◌, ◌++◌, map, codes, flat_map}
use Rattle.std.specs.Fmt.{decimal, signed_decimal}
use Rattle.rpl_code.specs.declared.kind.ValueKind.{ValueKind}
use Rattle.rpl_code.specs.declared.kind.ValueKind.TheVariants as K
use Rattle.rpl_code.specs.declared.instruction.Instruction.{Instruction}
use Rattle.rpl_code.specs.declared.instruction.Instruction.TheVariants as I
use Rattle.rpl_code.specs.declared.block.BlockHead.{BlockHead}
use Rattle.rpl_code.specs.declared.block.BlockHead.TheVariants.{Rule, Function}
use Rattle.rpl_code.specs.declared.block.Block.{Block}

-- each text with the byte before it
abbrev pub each_after : ℕ → List (List ℕ) → List ℕ
each_after c [] = []
each_after c (text ∷ texts) = c ∷ (text ++ each_after c texts)

-- texts with the byte between them
abbrev pub texts_joined : ℕ → List (List ℕ) → List ℕ
texts_joined c [] = []
texts_joined c (text ∷ texts) = text ++ each_after c texts

-- lines, each with its line feed
abbrev pub lines_ended : List (List ℕ) → List ℕ
lines_ended [] = []
lines_ended (line ∷ lines) = line ++ 10 ∷ lines_ended lines

abbrev pub kind_text : ValueKind → List ℕ
kind_text K.N = codes "N"
kind_text K.B = codes "B"
kind_text K.D = codes "D"
kind_text K.S = codes "S"
kind_text (K.NList most) = codes "N*" ++ decimal most
kind_text (K.SList most) = codes "S*" ++ decimal most

-- kinds with commas, and `-` for none
abbrev pub kinds_text : List ValueKind → List ℕ
kinds_text [] = codes "-"
kinds_text (kind ∷ kinds) = texts_joined 44 (map kind_text (kind ∷ kinds))

abbrev pub slot_text : List ℕ → List ℕ → List ℕ
slot_text object slot = object ++ 46 ∷ slot

abbrev pub truth_text : Bool → List ℕ
truth_text true = codes "true"
truth_text false = codes "false"

-- the word of an instruction that stands alone
abbrev pub word_alone : Instruction → Option (List ℕ)
word_alone I.Now = Some (codes "now")
word_alone I.Add = Some (codes "add")
word_alone I.Sub = Some (codes "sub")
word_alone I.Mul = Some (codes "mul")
word_alone I.Div = Some (codes "div")
word_alone I.Neg = Some (codes "neg")
word_alone I.Shift = Some (codes "shift")
word_alone I.Back = Some (codes "back")
word_alone I.Between = Some (codes "between")
word_alone I.Eq = Some (codes "eq")
word_alone I.Lt = Some (codes "lt")
word_alone I.Le = Some (codes "le")
word_alone I.Deq = Some (codes "deq")
word_alone I.Dlt = Some (codes "dlt")
word_alone I.Dle = Some (codes "dle")
word_alone I.Not = Some (codes "not")
word_alone I.Read = Some (codes "read")
word_alone I.Known = Some (codes "known")
word_alone I.Month = Some (codes "month")
word_alone I.Day = Some (codes "day")
word_alone I.Year = Some (codes "year")
word_alone I.Append = Some (codes "append")
word_alone I.Item = Some (codes "item")
word_alone I.Length = Some (codes "length")
word_alone I.Next = Some (codes "next")
word_alone I.Yield = Some (codes "yield")
word_alone _ = None

-- the first word of an instruction that has others behind it
abbrev pub word_before : Instruction → List ℕ
word_before (I.Num v) = codes "num"
word_before (I.Bool b) = codes "bool"
word_before (I.Slot object slot) = codes "slot"
word_before (I.Load i) = codes "load"
word_before (I.Store i) = codes "store"
word_before (I.ToElevation object) = codes "toelevation"
word_before (I.ToStorage object) = codes "tostorage"
word_before (I.Call name) = codes "call"
word_before (I.Invoke b) = codes "invoke"
word_before (I.List n) = codes "list"
word_before (I.Widen m) = codes "widen"
word_before (I.Jump p) = codes "jump"
word_before (I.Branch p) = codes "branch"
word_before (I.Target kinds) = codes "target"
word_before (I.Foreach i) = codes "foreach"
word_before (I.Map i) = codes "map"
word_before (I.Put object slot ahead) = codes "put"
word_before _ = []

-- the word with which an instruction begins
abbrev pub word_of : Instruction → List ℕ
word_of i = unwrap_or (word_alone i) (word_before i)

-- the words behind it
abbrev pub operands_of : Instruction → List (List ℕ)
operands_of (I.Num v) = signed_decimal v ∷ []
operands_of (I.Bool b) = truth_text b ∷ []
operands_of (I.Slot object slot) = slot_text object slot ∷ []
operands_of (I.Load i) = decimal i ∷ []
operands_of (I.Store i) = decimal i ∷ []
operands_of (I.ToElevation object) = object ∷ []
operands_of (I.ToStorage object) = object ∷ []
operands_of (I.Call name) = name ∷ []
operands_of (I.Invoke b) = decimal b ∷ []
operands_of (I.List n) = decimal n ∷ []
operands_of (I.Widen m) = decimal m ∷ []
operands_of (I.Jump p) = decimal p ∷ []
operands_of (I.Branch p) = decimal p ∷ []
operands_of (I.Target kinds) = kinds_text kinds ∷ []
operands_of (I.Foreach i) = decimal i ∷ []
operands_of (I.Map i) = decimal i ∷ []
operands_of (I.Put object slot ahead) = slot_text object slot ∷ decimal ahead ∷ []
operands_of _ = []

abbrev pub instruction_line : Instruction → List ℕ
instruction_line i = texts_joined 32 (word_of i ∷ operands_of i)

abbrev pub head_line : BlockHead → List ℕ
head_line Rule = codes "RULE"
head_line (Function result parameters) = texts_joined 32 (codes "FUNCTION" ∷ kind_text result ∷ kinds_text parameters ∷ [])

abbrev pub locals_line : List ValueKind → List ℕ
locals_line kinds = texts_joined 32 (codes "LOCALS" ∷ kinds_text kinds ∷ [])

abbrev pub block_lines : Block → List (List ℕ)
block_lines b = head_line b.head ∷ locals_line b.locals ∷ (map instruction_line b.lines ++ codes "END" ∷ [])

abbrev pub code_lines : List Block → List (List ℕ)
code_lines blocks = codes "CODE 1" ∷ flat_map block_lines blocks

-- the text of a code
abbrev pub spelt : List Block → List ℕ
spelt blocks = lines_ended (code_lines blocks)
