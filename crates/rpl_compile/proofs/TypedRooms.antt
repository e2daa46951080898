-- The types that an accepted ruleset declares have room for as many elements as code can say.
use Rattle.rpl_compile.proofs.Common.{AreDeclared, AreRoomy, Declared, Draft, DuplicateName, HasListRoom, HaveRoom, IsTyped, List, None, Parameter}
use Rattle.rpl_compile.proofs.Common.{Signature, TypeName, [], function, head_misfit, is_duplicate, numeric_list, refusal_in, rule, slot_list, spared}
use Rattle.rpl_compile.proofs.Common.{written_type, ℕ, ◌+◌, ◌∷◌, ◌≡◌}
use Rattle.rpl_compile.proofs.TypeKinds.{none_of_two}
use Rattle.rpl_compile.proofs.SpeltHeads.{written_spelt}

type_room : (written : TypeName) → refusal_in (written_type written) ≡ None → HasListRoom written
type_room (numeric_list room unit) none = written_spelt (numeric_list room unit) none
type_room (slot_list room unit) none = written_spelt (slot_list room unit) none
type_room _ none = tt

head_rooms : (parameters : List Parameter) (result : TypeName) → head_misfit parameters result ≡ None → HaveRoom parameters × HasListRoom result
head_rooms [] result none = (tt, type_room result none)
head_rooms (parameter ∷ parameters) result none =
    let both = none_of_two (refusal_in (written_type parameter.of_type)) (head_misfit parameters result) none in
    let rest = head_rooms parameters result both.1 in
    ((type_room parameter.of_type both.0, rest.0), rest.1)

declared_rooms : (basin : Draft) (rules : List Declared) (number : ℕ) (earlier : List Signature) (declarations : List Declared)
    → AreDeclared basin rules number earlier declarations → AreRoomy declarations
declared_rooms basin rules number earlier [] are_declared = tt
declared_rooms basin rules number earlier (rule called_so body ∷ declarations) (own, cost, rest) =
    declared_rooms basin rules (number + 1) _ declarations rest
declared_rooms basin rules number earlier (function called_so parameters result body ∷ declarations) (own, cost, rest) =
    let rooms =
    head_rooms parameters result (spared (is_duplicate earlier called_so parameters) (head_misfit parameters result) DuplicateName own.0).1 in
    (rooms.0, rooms.1, declared_rooms basin rules (number + 1) _ declarations rest)

pub typed_is_roomy : (basin : Draft) (rules : List Declared) → IsTyped basin rules → AreRoomy rules
typed_is_roomy basin rules is_typed = declared_rooms basin rules 1 [] rules is_typed
