-- Names that instructions use: what is refused of them, whatever the operands are.
use Rattle.std.specs.Prelude.{ℕ, ◌==◌, nat_le, nat_lt, List, Option, Some, None, if◌then◌else◌}
use Rattle.rw_model.specs.Draft.{Draft}
use Rattle.rw_model.specs.Objects.{slot_named, numbered}
use Rattle.rpl_code.specs.declared.kind.ValueKind.{ValueKind}
use Rattle.rpl_code.specs.declared.instruction.Instruction.{Instruction}
use Rattle.rpl_code.specs.declared.instruction.Instruction.TheVariants as I
use Rattle.rpl_code.specs.declared.block.BlockHead.{BlockHead}
use Rattle.rpl_code.specs.declared.block.BlockHead.TheVariants.{Rule, Function}
use Rattle.rpl_tree.specs.Mean.{predefined_functions}
use Rattle.rpl_tree.specs.World.{can_set, table_named}
use Rattle.rpl_verify.specs.declared.verify_kind.VerifyKind.{VerifyKind}
use Rattle.rpl_verify.specs.declared.verify_kind.VerifyKind.TheVariants.{NoSuchName, NotSettable, PutInFunction, TargetStep, LaterCall}
use Rattle.rpl_verify.specs.Places.{Spot}
use Rattle.rpl_verify.specs.Table.{function_named}

-- what the instructions of a block are judged against: the basin, the heads of all blocks, and of the block its number, counted from 1,
-- its head, its locals, which begin with its parameters, and its places
pub record Scope : Type 0 where
  pub basin : Draft
  pub heads : List BlockHead
  pub number : ℕ
  pub head : BlockHead
  pub locals : List ValueKind
  pub spots : List Spot

-- the slot that an instruction names as an operand, if there is one
abbrev pub slot_seen : Draft → Instruction → Option ℕ
slot_seen basin (I.Slot object slot) = slot_named basin.objects object slot
slot_seen basin _ = None

abbrev pub unless_there : {A : Type 0} → Option A → Option VerifyKind
unless_there None = Some NoSuchName
unless_there (Some thing) = None

-- a rule puts at most so many timesteps ahead, and a function never
abbrev pub put_step_misfit : ℕ → BlockHead → ℕ → Option VerifyKind
put_step_misfit most (Function result parameters) ahead = Some PutInFunction
put_step_misfit most Rule ahead = if nat_le ahead most then None else Some TargetStep

abbrev pub put_misfit : Scope → Option ℕ → ℕ → Option VerifyKind
put_misfit scope None ahead = Some NoSuchName
put_misfit scope (Some slot) ahead =
    if can_set scope.basin slot then put_step_misfit scope.basin.control.ahead scope.head ahead else Some NotSettable

-- a call of a block, from the block of a number
abbrev pub call_misfit : ℕ → ℕ → Option BlockHead → Option VerifyKind
call_misfit here called None = Some NoSuchName
call_misfit here called (Some Rule) = Some NoSuchName
call_misfit here called (Some (Function result parameters)) = if nat_lt called here then None else Some LaterCall

abbrev pub name_misfit : Scope → Instruction → Option VerifyKind
name_misfit scope (I.Slot object slot) = unless_there (slot_named scope.basin.objects object slot)
name_misfit scope (I.ToElevation object) = unless_there (table_named scope.basin object)
name_misfit scope (I.ToStorage object) = unless_there (table_named scope.basin object)
name_misfit scope (I.Call name) = unless_there (function_named predefined_functions name)
name_misfit scope (I.Invoke callee) = call_misfit scope.number callee (numbered scope.heads callee)
name_misfit scope (I.Put object slot ahead) = put_misfit scope (slot_named scope.basin.objects object slot) ahead
name_misfit scope _ = None
