-- Why a text isn't read as inputs.
use Rattle.std.specs.Prelude.{◌≡◌, ℕ, Option, Some, None}
use Rattle.std.specs.Option.{ForSome}
use Rattle.rw_inputs.specs.declared.fault.InputKind.{InputKind}
use Rattle.rw_inputs.specs.declared.fault.InputFault.{InputFault}
use Rattle.rw_inputs.specs.declared.fault.InputFault.TheVariants.{Refused, NoMemory}

-- what is wrong, in which row and in which column
pub data InputRefusal : Type 0 where
  refused_at : InputKind → ℕ → ℕ → InputRefusal

-- what a fault tells of the text. Want of memory tells nothing of it
abbrev pub input_refusal_of : InputFault → Option InputRefusal
input_refusal_of (Refused kind row column) = Some (refused_at kind row column)
input_refusal_of NoMemory = None

-- the fault tells the refusal that is due, or is want of memory
abbrev pub TellsInput : InputFault → Option InputRefusal → Type 0
TellsInput fault due = ForSome (input_refusal_of fault) (λ refusal. due ≡ Some refusal) × (input_refusal_of fault ≡ None → fault ≡ NoMemory)
