-- Within the crate: refusals at nodes, and the types of some declarations before those of others.
use Rattle.std.specs.Prelude.{ℕ, List, ◌++◌, Result, Ok, Err}
use Rattle.rpl_types.specs.Judged.{TypeRefusal}
use Rattle.rpl_types.specs.Nodes.{NodeRefusal}
use Rattle.rpl_types.specs.declared.type_kind.TypeKind.{TypeKind}

abbrev pub node_refusal : TypeKind → ℕ → NodeRefusal
node_refusal kind node = record { kind = kind; node = node }

-- those that were found, and then those of the rest, if they have some
abbrev pub behind_found : {A : Type 0} → List A → Result (List A) TypeRefusal → Result (List A) TypeRefusal
behind_found found (Ok rest) = Ok (found ++ rest)
behind_found found (Err refused) = Err refused
