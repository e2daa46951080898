-- The table of instructions: which operands each takes, and which it leaves in their place. Operands are listed last one first.
use Rattle.std.specs.Prelude.{ℕ, suc, nat_le, nat_lt, List, [], ◌∷◌, ◌++◌, length, take, drop, reverse, replicate, slice_get, bytes_eq, Option, Some, None, option_map, Result, Ok, Err, if◌then◌else◌}
use Rattle.rw_base.specs.declared.limits.TheConstants.{LIST_MAX}
use Rattle.std.specs.List.{list_all}
use Rattle.rw_model.specs.Objects.{numbered}
use Rattle.rpl_code.specs.declared.kind.ValueKind.{ValueKind}
use Rattle.rpl_code.specs.declared.kind.ValueKind.TheVariants as K
use Rattle.rpl_code.specs.declared.instruction.Instruction.{Instruction}
use Rattle.rpl_code.specs.declared.instruction.Instruction.TheVariants as I
use Rattle.rpl_code.specs.declared.block.BlockHead.{BlockHead}
use Rattle.rpl_code.specs.declared.block.BlockHead.TheVariants.{Rule, Function}
use Rattle.rpl_tree.specs.Mean.{Function as Predefined, predefined_functions}
use Rattle.rpl_verify.specs.declared.verify_kind.VerifyKind.{VerifyKind}
use Rattle.rpl_verify.specs.declared.verify_kind.VerifyKind.TheVariants.{MissingOperand, WrongOperand, WrongShape}
use Rattle.rpl_verify.specs.Kinds.{is_same_value_kind, are_same_kinds, list_value_kind}

-- operands of these kinds, and what is left in their place; so many operands, and what is left in place of such kinds, if they go
-- together; or so many operands, for a local that isn't there
pub data OperandRow : Type 0 where
  takes : List ValueKind → List ValueKind → OperandRow
  goes_by : ℕ → (List ValueKind → Option (List ValueKind)) → OperandRow
  lacks : ℕ → OperandRow

-- ---- rows of locals and calls

abbrev pub load_row : Option ValueKind → OperandRow
load_row None = lacks 0
load_row (Some kind) = takes [] (kind ∷ [])

abbrev pub store_row : Option ValueKind → OperandRow
store_row None = lacks 1
store_row (Some kind) = takes (kind ∷ []) []

abbrev pub invoke_row : Option BlockHead → OperandRow
invoke_row None = lacks 0
invoke_row (Some Rule) = lacks 0
invoke_row (Some (Function result parameters)) = takes (reverse parameters) (result ∷ [])

abbrev pub function_named : List Predefined → List ℕ → Option Predefined
function_named [] name = None
function_named (known ∷ functions) name = if bytes_eq known.head.name name then Some known else function_named functions name

abbrev pub call_row : Option Predefined → OperandRow
call_row None = lacks 0
call_row (Some known) = takes (replicate (length known.head.takes) K.N) (K.N ∷ [])

-- ---- rows of lists

-- elements of one kind become the list of them
abbrev pub listed : ℕ → List ValueKind → Option (List ValueKind)
listed n [] = None
listed n (other_kind ∷ kinds) =
    if list_all (is_same_value_kind other_kind) kinds then option_map (λ kind. kind ∷ []) (list_value_kind n other_kind) else None

-- an element on top of its list, which gets room for one more
abbrev pub appended : List ValueKind → Option (List ValueKind)
appended (K.N ∷ K.NList m ∷ []) = if nat_lt m LIST_MAX then Some (K.NList (suc m) ∷ []) else None
appended (K.S ∷ K.SList m ∷ []) = if nat_lt m LIST_MAX then Some (K.SList (suc m) ∷ []) else None
appended _ = None

-- a list that is no longer gets room for so many
abbrev pub widened_list : ℕ → List ValueKind → Option (List ValueKind)
widened_list room (K.NList m ∷ []) = if nat_le m room then Some (K.NList room ∷ []) else None
widened_list room (K.SList m ∷ []) = if nat_le m room then Some (K.SList room ∷ []) else None
widened_list room _ = None

-- a place on top of a list
abbrev pub element_picked : List ValueKind → Option (List ValueKind)
element_picked (K.N ∷ K.NList m ∷ []) = Some (K.N ∷ [])
element_picked (K.N ∷ K.SList m ∷ []) = Some (K.S ∷ [])
element_picked _ = None

-- any list
abbrev pub of_list : List ValueKind → List ValueKind → Option (List ValueKind)
of_list left (K.NList m ∷ []) = Some left
of_list left (K.SList m ∷ []) = Some left
of_list left _ = None

-- ---- all rows

-- of the blocks with these heads, in a block with these locals
abbrev pub operand_row : List BlockHead → List ValueKind → Instruction → OperandRow
operand_row heads locals (I.Num quantity) = takes [] (K.N ∷ [])
operand_row heads locals (I.Bool truth) = takes [] (K.B ∷ [])
operand_row heads locals I.Now = takes [] (K.D ∷ [])
operand_row heads locals (I.Slot object slot) = takes [] (K.S ∷ [])
operand_row heads locals (I.Load n) = load_row (slice_get locals n)
operand_row heads locals (I.Store n) = store_row (slice_get locals n)
operand_row heads locals I.Add = takes (K.N ∷ K.N ∷ []) (K.N ∷ [])
operand_row heads locals I.Sub = takes (K.N ∷ K.N ∷ []) (K.N ∷ [])
operand_row heads locals I.Mul = takes (K.N ∷ K.N ∷ []) (K.N ∷ [])
operand_row heads locals I.Div = takes (K.N ∷ K.N ∷ []) (K.N ∷ [])
operand_row heads locals I.Neg = takes (K.N ∷ []) (K.N ∷ [])
operand_row heads locals I.Shift = takes (K.N ∷ K.D ∷ []) (K.D ∷ [])
operand_row heads locals I.Back = takes (K.N ∷ K.D ∷ []) (K.D ∷ [])
operand_row heads locals I.Between = takes (K.D ∷ K.D ∷ []) (K.N ∷ [])
operand_row heads locals I.Eq = takes (K.N ∷ K.N ∷ []) (K.B ∷ [])
operand_row heads locals I.Lt = takes (K.N ∷ K.N ∷ []) (K.B ∷ [])
operand_row heads locals I.Le = takes (K.N ∷ K.N ∷ []) (K.B ∷ [])
operand_row heads locals I.Deq = takes (K.D ∷ K.D ∷ []) (K.B ∷ [])
operand_row heads locals I.Dlt = takes (K.D ∷ K.D ∷ []) (K.B ∷ [])
operand_row heads locals I.Dle = takes (K.D ∷ K.D ∷ []) (K.B ∷ [])
operand_row heads locals I.Not = takes (K.B ∷ []) (K.B ∷ [])
operand_row heads locals I.Read = takes (K.D ∷ K.S ∷ []) (K.N ∷ [])
operand_row heads locals I.Known = takes (K.D ∷ K.S ∷ []) (K.B ∷ [])
operand_row heads locals I.Month = takes (K.D ∷ []) (K.N ∷ [])
operand_row heads locals I.Day = takes (K.D ∷ []) (K.N ∷ [])
operand_row heads locals I.Year = takes (K.D ∷ []) (K.N ∷ [])
operand_row heads locals (I.ToElevation object) = takes (K.N ∷ []) (K.N ∷ [])
operand_row heads locals (I.ToStorage object) = takes (K.N ∷ []) (K.N ∷ [])
operand_row heads locals (I.Call name) = call_row (function_named predefined_functions name)
operand_row heads locals (I.Invoke callee) = invoke_row (numbered heads callee)
operand_row heads locals (I.List n) = goes_by n (listed n)
operand_row heads locals I.Append = goes_by 2 appended
operand_row heads locals (I.Widen room) = goes_by 1 (widened_list room)
operand_row heads locals I.Item = goes_by 2 element_picked
operand_row heads locals I.Length = goes_by 1 (of_list (K.N ∷ []))
operand_row heads locals (I.Jump place) = takes [] []
operand_row heads locals (I.Branch place) = takes (K.B ∷ []) []
operand_row heads locals (I.Target kinds) = takes [] []
operand_row heads locals (I.Foreach n) = goes_by 1 (of_list [])
operand_row heads locals I.Next = takes [] []
operand_row heads locals (I.Map n) = goes_by 1 (of_list [])
operand_row heads locals I.Yield = takes (K.N ∷ []) []
operand_row heads locals (I.Put object slot ahead) = takes (K.N ∷ []) []

-- ---- what a row says of operands

abbrev pub operand_count : OperandRow → ℕ
operand_count (takes kinds left) = length kinds
operand_count (goes_by n left_of) = n
operand_count (lacks n) = n

abbrev pub or_wrong : Option (List ValueKind) → Result (List ValueKind) VerifyKind
or_wrong None = Err WrongOperand
or_wrong (Some left) = Ok left

-- what is left in place of operands of these kinds, which are as many as the row takes
abbrev pub left_of : OperandRow → List ValueKind → Result (List ValueKind) VerifyKind
left_of (takes kinds left) its_kinds = if are_same_kinds kinds its_kinds then Ok left else Err WrongOperand
left_of (goes_by n left_for) kinds = or_wrong (left_for kinds)
left_of (lacks n) kinds = Err WrongShape

abbrev pub on_top_of : List ValueKind → Result (List ValueKind) VerifyKind → Result (List ValueKind) VerifyKind
on_top_of below (Ok left) = Ok (left ++ below)
on_top_of below (Err misfit) = Err misfit

-- the operands behind the instruction, of all those before it
abbrev pub operands_behind : OperandRow → List ValueKind → Result (List ValueKind) VerifyKind
operands_behind row kinds =
    let operand_count_so = operand_count row in
    if nat_lt (length kinds) operand_count_so then Err MissingOperand else on_top_of (drop operand_count_so kinds)
    (left_of row (take operand_count_so kinds))
