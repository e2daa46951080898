-- Within the crate: the lists that a ruleset's declared types allow: as many elements as code can say.
use Rattle.std.specs.Prelude.{unsigned_abs, List, [], ◌∷◌}
use Rattle.std.specs.List.{AllByRecursion}
use Rattle.rpl_code.specs.Bounds.{IsLength}
use Rattle.rpl_tree.specs.Tree.{TypeName, numeric_list, slot_list, Parameter, Declared, rule, function}

abbrev pub HasListRoom : TypeName → Type 0
HasListRoom (numeric_list m unit) = IsLength (unsigned_abs m)
HasListRoom (slot_list m unit) = IsLength (unsigned_abs m)
HasListRoom _ = Unit {0}

abbrev pub HaveRoom : List Parameter → Type 0
HaveRoom params = AllByRecursion (λ (p : Parameter). HasListRoom p.of_type) params

-- of each function's parameters and result
abbrev pub AreRoomy : List Declared → Type 0
AreRoomy [] = Unit {0}
AreRoomy (rule called_so body ∷ rest) = AreRoomy rest
AreRoomy (function called_so params result body ∷ rest) = HaveRoom params × HasListRoom result × AreRoomy rest
