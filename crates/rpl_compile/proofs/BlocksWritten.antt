-- The blocks of a ruleset, as they are written, are those that TRANSLATE gives.
use Rattle.rpl_compile.proofs.Common.{Acts, AllByRecursion, AreKinded, AreKindedActs, AreKindedFrom, AreRoomy, Callee, Declared, Draft, HasListRoom}
use Rattle.rpl_compile.proofs.Common.{HaveRoom, IsBasin, IsKinded, IsKindedBody, IsSome, List, Parameter, Rule, Some, Tree, TypeName, [], ap, begun}
use Rattle.rpl_compile.proofs.Common.{begun_function, blocks_from, bound, callee_heads, code_kind, code_kinds, drop, drop-append_seam, false≢true}
use Rattle.rpl_compile.proofs.Common.{function, function_block, kind_of_tree, kind_of_type, length, length-map, local_kinds, names_in, numbers_kind}
use Rattle.rpl_compile.proofs.Common.{numeric_list, param_kinds, param_names, parameters_from, predefined_callees, refl, rule, rule_block, slot_list}
use Rattle.rpl_compile.proofs.Common.{slots_kind, start, subst, sym, translate, written_from, written_function, written_kind, written_parameters}
use Rattle.rpl_compile.proofs.Common.{written_rule, written_takes, ℕ, ◌+◌, ◌∙◌, ◌∷◌, ◌≡◌}
use Rattle.rpl_code.specs.declared.block.BlockHead.TheVariants.{Function}
use Rattle.rpl_compile.proofs.ActClaims.{claim_acts}
use Rattle.rpl_compile.proofs.Claims.{claim}
use Rattle.rpl_compile.proofs.Plain.{IsSpelt, short_is}
use Rattle.rpl_compile.proofs.AtSites.{At, room_at}
use Rattle.rpl_types.proofs.Texts.{small_text}
use Rattle.rpl_compile.proofs.LocalFacts.{parameter_names, many_params}

-- ---- types that are written

kind_is : (written : TypeName) → HasListRoom written → written_kind written ≡ kind_of_type written
kind_is (numeric_list room unit) has_list_room = ap numbers_kind (short_is _ has_list_room.1)
kind_is (slot_list room unit) has_list_room = ap slots_kind (short_is _ has_list_room.1)
kind_is _ has_list_room = refl

takes_are : (parameters : List Parameter) → HaveRoom parameters → written_takes parameters ≡ param_kinds parameters
takes_are [] have_room = refl
takes_are (parameter ∷ parameters) have_room = λ i. kind_is parameter.of_type have_room.0 i ∷ takes_are parameters have_room.1 i

parameters_are : (number : ℕ) (parameters : List Parameter) → HaveRoom parameters
    → written_parameters number parameters ≡ parameters_from number parameters
parameters_are number [] have_room = refl
parameters_are number (parameter ∷ parameters) have_room =
    λ i. bound parameter.name (kind_is parameter.of_type have_room.0 i) number ∷ parameters_are (number + 1) parameters have_room.1 i

predefined_spelt : AllByRecursion IsSpelt predefined_callees
predefined_spelt = (
  λ none. small_text _ refl,
  (
    λ none. small_text _ refl,
    (
      λ none. small_text _ refl,
      (λ none. small_text _ refl, (λ none. small_text _ refl, (λ none. small_text _ refl, (λ none. small_text _ refl, tt)))),
    ),
  ),
)

module _ (basin : Draft) (valid : IsBasin basin) where
  rule_is : (callees : List Callee) (body : Acts) → AllByRecursion IsSpelt callees → AreKindedActs basin (callee_heads callees) [] body
      → written_rule callees body ≡ rule_block callees body
  rule_is callees body spelled are_kinded_acts =
      let begin : At (begun [] []) (start [] 0) [] [] = record {
        scope = refl;
        below = refl;
        locals = refl;
        lines = refl;
        free = refl;
        place = refl;
      } in
      let left = claim_acts basin callees spelled valid body _ _ _ _ begin are_kinded_acts in
      λ i. record { head = Rule; locals = left.locals i; lines = left.lines i }

  function_is : (callees : List Callee) (parameters : List Parameter) (result : TypeName) (body : Tree) → AllByRecursion IsSpelt callees
      → HaveRoom parameters
      → HasListRoom result → IsKindedBody basin (callee_heads callees) (param_names parameters) (kind_of_type result) body
      → written_function callees parameters (written_kind result) body ≡ function_block callees parameters (kind_of_type result) body
  function_is callees parameters result body spelled rooms room is_kinded_body =
      let scope = parameters_from 0 parameters in
      let site = start scope (length parameters) in
      let takes = code_kinds (param_kinds parameters) in
      let kind = kind_is result room in
      let long : length takes ≡ length parameters = length-map (param_kinds parameters) code_kind ∙ many_params parameters in
      let begin : At (begun_function parameters) site takes [] = record {
        scope = parameters_are 0 parameters rooms;
        below = refl;
        locals = ap code_kinds (takes_are parameters rooms);
        lines = refl;
        free = long;
        place = refl;
      } in
      let inside : IsKinded basin (callee_heads callees) (names_in scope) body =
      subst (λ names. IsKinded basin (callee_heads callees) names body) (sym (parameter_names 0 parameters)) is_kinded_body.0 in
      let own = claim basin callees spelled valid body _ site _ _ begin inside in
      let left = room_at _ _ (kind_of_type result) (kind_of_tree callees site body) kind own.kind own.on in
      let kept = code_kinds (local_kinds (callee_heads callees) (names_in scope) body) in
      let locals = (λ i. drop (sym long i) (left.locals i)) ∙ drop-append_seam takes kept in
      λ i. record { head = Function (code_kind (kind i)) (code_kinds (takes_are parameters rooms i)); locals = locals i; lines = left.lines i }

  blocks_are : (callees : List Callee) (number : ℕ) (rules : List Declared) → AllByRecursion IsSpelt callees → AreRoomy rules
      → AreKindedFrom basin (callee_heads callees) rules → written_from callees number rules ≡ blocks_from callees number rules
  blocks_are callees number [] spelled rooms are_kinded_from = refl
  blocks_are callees number (rule called_so body ∷ rest) spelled rooms are_kinded_from =
      λ i. rule_is callees body spelled are_kinded_from.0 i ∷ blocks_are callees (number + 1) rest spelled rooms are_kinded_from.1 i
  blocks_are callees number (function called_so parameters result body ∷ rest) spelled (room, answers, rooms) (kinded, others) =
      let made : Callee = record {
        head = record { name = called_so; takes = param_kinds parameters; result = kind_of_type result };
        block = Some number;
      } in
      let first = function_is callees parameters result body spelled room answers kinded in
      let spelled_here : IsSpelt made = λ none. absurd (false≢true (subst IsSome none refl)) in
      let behind = blocks_are (made ∷ callees) (number + 1) rest (spelled_here, spelled) rooms others in
      (λ i. first i ∷ written_from (record {
        head = record { name = called_so; takes = takes_are parameters room i; result = kind_is result answers i };
        block = Some number;
      } ∷ callees) (number + 1) rest)
      ∙ ap (λ befores_there. function_block callees parameters (kind_of_type result) body ∷ befores_there) behind

  pub translated : (rules : List Declared) → AreRoomy rules → AreKinded basin rules → written_from predefined_callees 1 rules ≡ translate rules
  translated rules rooms are_kinded = blocks_are predefined_callees 1 rules predefined_spelt rooms are_kinded
