-- Kinds in pieces, some of which are shared.
use Rattle.std.specs.Prelude.{List, [], Option, Some, None, flat_map}
use Rattle.rpl_code.specs.declared.kind.ValueKind.{ValueKind}

abbrev pub pieces_joined : Option (List (List ValueKind)) → List ValueKind
pieces_joined None = []
pieces_joined (Some pieces) = flat_map (λ piece. piece) pieces
