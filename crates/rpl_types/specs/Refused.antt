-- What a fault of `check` tells.
use Rattle.std.specs.Prelude.{Option, Some, None}
use Rattle.rpl_types.specs.Judged.{TypeRefusal, type_refusal}
use Rattle.rpl_types.specs.declared.fault.TypeFault.{TypeFault}
use Rattle.rpl_types.specs.declared.fault.TypeFault.TheVariants.{Refused, NoMemory}

abbrev pub type_refusal_of : TypeFault → Option TypeRefusal
type_refusal_of (Refused kind declaration node) = Some (type_refusal kind declaration node)
type_refusal_of NoMemory = None
