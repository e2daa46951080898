-- What a code may hold: what a text can spell.
use Rattle.std.specs.Prelude.{ℕ, ◌<◌, ◌≤◌, ◌^◌, List, length, IsTrue}
use Rattle.std.specs.List.{AllByRecursion}
use Rattle.rw_base.specs.declared.limits.TheConstants.{LIST_MAX}
use Rattle.rw_base.specs.Quantity.{IsQuantity}
use Rattle.rw_model.specs.Name.{is_plain}
use Rattle.rpl_code.specs.declared.kind.ValueKind.{ValueKind}
use Rattle.rpl_code.specs.declared.kind.ValueKind.TheVariants.{NList, SList}
use Rattle.rpl_code.specs.declared.instruction.Instruction.{Instruction}
use Rattle.rpl_code.specs.declared.instruction.Instruction.TheVariants as I
use Rattle.rpl_code.specs.declared.block.BlockHead.{BlockHead}
use Rattle.rpl_code.specs.declared.block.BlockHead.TheVariants.{Rule, Function}
use Rattle.rpl_code.specs.declared.block.Block.{Block}

-- the number of a place, a local or a block
abbrev pub IsNumber : ℕ → Type 0
IsNumber n = n < 2 ^ 32

-- the greatest length of a list
abbrev pub IsLength : ℕ → Type 0
IsLength n = (1 ≤ n) × (n ≤ LIST_MAX)

abbrev pub IsCodeName : List ℕ → Type 0
IsCodeName name = IsTrue (is_plain name)

abbrev pub IsCodeKind : ValueKind → Type 0
IsCodeKind (NList most) = IsLength most
IsCodeKind (SList most) = IsLength most
IsCodeKind _ = Unit {0}

abbrev pub AreKinds : List ValueKind → Type 0
AreKinds = AllByRecursion IsCodeKind

abbrev pub IsInstruction : Instruction → Type 0
IsInstruction (I.Num v) = IsQuantity v
IsInstruction (I.Slot object slot) = IsCodeName object × IsCodeName slot
IsInstruction (I.Load n) = IsNumber n
IsInstruction (I.Store n) = IsNumber n
IsInstruction (I.ToElevation object) = IsCodeName object
IsInstruction (I.ToStorage object) = IsCodeName object
IsInstruction (I.Call name) = IsCodeName name
IsInstruction (I.Invoke n) = IsNumber n
IsInstruction (I.List n) = IsLength n
IsInstruction (I.Widen n) = IsLength n
IsInstruction (I.Jump n) = IsNumber n
IsInstruction (I.Branch n) = IsNumber n
IsInstruction (I.Target kinds) = AreKinds kinds
IsInstruction (I.Foreach n) = IsNumber n
IsInstruction (I.Map n) = IsNumber n
IsInstruction (I.Put object slot ahead) = IsCodeName object × IsCodeName slot × (ahead ≤ 255)
IsInstruction _ = Unit {0}

abbrev pub IsHead : BlockHead → Type 0
IsHead Rule = Unit {0}
IsHead (Function result parameters) = IsCodeKind result × AreKinds parameters

pub record IsBlock (b : Block) : Type 0 where
  pub head : IsHead b.head
  pub locals : AreKinds b.locals
  pub lines : AllByRecursion IsInstruction b.lines
  pub places : length b.lines < 2 ^ 32

pub record IsCode (blocks : List Block) : Type 0 where
  pub each : AllByRecursion IsBlock blocks
  pub numbers : length blocks < 2 ^ 32
