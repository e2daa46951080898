-- A function of the ruleset: its block does what its body means, and a call of it does what the function does.
use Rattle.rpl_compile.proofs.Common.{Block, Bool, BoundName, Callee, Env, Err, FitsIn, Frame, Function, IsKinded, IsKindedBody, Kind, List, None, Ok}
use Rattle.rpl_compile.proofs.Common.{Outcome, Parameter, Site, Some, Tree, Value, World, WrongOperand, [], ap, ap₂, are_same_kinds, arith, begin}
use Rattle.rpl_compile.proofs.Common.{blank, block_heads, callee_heads, code_kind, code_kinds, code_of, end_kinds, eq-eqb, false, function_block}
use Rattle.rpl_compile.proofs.Common.{function_heads, function_of, gives, handed_back, if◌then◌else◌, invoke_row, invoked, is_stuck, kind_at}
use Rattle.rpl_compile.proofs.Common.{kind_of_type, kinds_of, left_of, length, length-append, length-map, length-reverse, local_kinds, map}
use Rattle.rpl_compile.proofs.Common.{map-append, names_in, nat_le, numbered, operand_count, option_map, param_kinds, param_names, parameters_from}
use Rattle.rpl_compile.proofs.Common.{refl, returned, reverse, reverse-reverse, room_lines, row_in, same_kinds_refl, size, slice_get, slice_get-map}
use Rattle.rpl_compile.proofs.Common.{spent, start, step, step_at, step_in, subst, suc, sym, tree_kind, true, value_of, weights, widened}
use Rattle.rpl_compile.proofs.Common.{widening_size, with_arguments, words_of_all, ℕ, ◌++◌, ◌+◌, ◌-◌, ◌>>=◌, ◌∙◌, ◌∷◌, ◌≡◌, ◌≤◌}
use Rattle.rpl_code.specs.declared.instruction.Instruction.TheVariants as I
use Rattle.rpl_verify.specs.Machine.{at_place, onward}
use Rattle.rpl_verify.proofs.Stepping.{kinds_turned}
use Rattle.rpl_compile.proofs.Goes.{Goes, goes_first, goes_free}
use Rattle.rpl_compile.proofs.OfKind.{At, HasKind, HaveKinds, all_words_coded, as_many, at_all, at_back, at_front, at_head, at_moved, at_tail}
use Rattle.rpl_compile.proofs.OfKind.{kind_coded, kinds_are, drop_front, take_front}
use Rattle.rpl_compile.proofs.Sizes.{beside, code-size, widening-size}
use Rattle.rpl_compile.proofs.Setting.{CanCall, DoesCall, Here, Holds, Left, Setting, frame_at}
use Rattle.rpl_compile.proofs.Steps.{does}
use Rattle.rpl_compile.proofs.Room.{in_room}
use Rattle.rpl_compile.proofs.Trees.{tree_goes}
use Rattle.std.proofs.lemmas.Option.{slice_get_past}
use Rattle.rpl_compile.proofs.LocalFacts.{parameter_names, many_params}

-- ---- lists

numbered_heads : (code : List Block) (number : ℕ) (block : Block) → numbered code number ≡ Some block
    → numbered (block_heads code) number ≡ Some block.head
numbered_heads code number block found = by (nat_le 1 number) found
  where
    by : (test : Bool) → (if test then slice_get code (number - 1) else None) ≡ Some block
        → (if test then slice_get (block_heads code) (number - 1) else None) ≡ Some block.head
    by true found = slice_get-map (λ (block : Block). block.head) code (number - 1) ∙ ap (option_map (λ (block : Block). block.head)) found
    by false found = absurd (cc found)

-- ---- parameters

-- the parameters stand for the arguments
holds_arguments : (kinds : List Kind) (place : ℕ) (parameters : List Parameter) (arguments locals : List Value) (free : ℕ) → At locals place arguments
    → At kinds place (param_kinds parameters) → HaveKinds (param_kinds parameters) arguments → place + length parameters ≤ free
    → Holds kinds (parameters_from place parameters) (with_arguments parameters arguments) locals free
holds_arguments kinds place [] [] locals free arguments_placed kinds_placed have_kinds at_most = tt
holds_arguments kinds place [] (a_value ∷ values) locals free arguments_placed kinds_placed have_kinds at_most = absurd have_kinds
holds_arguments kinds place (parameter ∷ parameters) [] locals free arguments_placed kinds_placed have_kinds at_most = absurd have_kinds
holds_arguments kinds place (parameter ∷ parameters) (a_value ∷ values) locals free arguments_placed kinds_placed have_kinds at_most = (
  refl,
  have_kinds.0,
  at_head locals place a_value values arguments_placed,
  omega (arith, at_most),
  at_head kinds place (kind_of_type parameter.of_type) (param_kinds parameters) kinds_placed,
  holds_arguments kinds (place + 1) parameters values locals free (at_tail locals place a_value values arguments_placed)
      (at_tail kinds place (kind_of_type parameter.of_type) (param_kinds parameters) kinds_placed) have_kinds.1
      (omega (arith, at_most)),
)

module _ (code : List Block) (world : World) where
  -- a block returns behind its last line
  pub returns : (own : ℕ) (block : Block) (end : ℕ) (locals values : List Value) (callers : List Frame) → numbered code own ≡ Some block
      → end ≡ length block.lines
      → kinds_of values ≡ end_kinds block.head
      → step code world (record { block = own; place = end; locals = locals; operands = values; loops = [] }) callers
      ≡ gives (handed_back values callers) 0
  returns own block end locals values callers found end_is kinds_same =
      let frame : Frame = record { block = own; place = end; locals = locals; operands = values; loops = [] } in
      ap (λ o. step_in code world o frame callers) found
      ∙ ap (λ o. step_at code world o block frame callers) (slice_get_past block.lines end (omega (arith, end_is)))
      ∙ ap (λ (test : Bool). if test then returned block frame callers else is_stuck) (eq-eqb end (length block.lines) end_is)
      ∙ ap (λ (test : Bool). if test then gives (handed_back values callers) 0 else is_stuck)
      (ap (are_same_kinds (end_kinds block.head)) kinds_same ∙ same_kinds_refl (end_kinds block.head))

  module _ (callees : List Callee) (functions : List Function) (same_heads : function_heads functions ≡ callee_heads callees)
      (calls : CanCall code world callees functions)
      (number : ℕ) (called_so : List ℕ) (parameters : List Parameter) (result : Kind) (body : Tree)
      (found : numbered code number ≡ Some (function_block callees parameters result body))
      (kinded : IsKindedBody world.basin (callee_heads callees) (param_names parameters) result body) where
    abbrev scope : List BoundName
    scope = parameters_from 0 parameters

    abbrev site : Site
    site = start scope (length parameters)

    abbrev own_kinds : List Kind
    own_kinds = local_kinds (callee_heads callees) (names_in scope) body

    abbrev block : Block
    block = function_block callees parameters result body

    abbrev setting : Setting
    setting = record {
      code = code;
      world = world;
      own = number;
      block = block;
      kinds = param_kinds parameters ++ own_kinds;
      callees = callees;
      functions = functions;
      stands = found;
      locals_are = sym (map-append code_kind (param_kinds parameters) own_kinds);
      same_heads = same_heads;
      calls = calls;
    }

    body_kinded : IsKinded world.basin (callee_heads callees) (names_in scope) body
    body_kinded = subst (λ names. IsKinded world.basin (callee_heads callees) names body) (sym (parameter_names 0 parameters)) kinded.0

    body_fits : FitsIn result (kind_at (callee_heads callees) site body)
    body_fits = subst (λ names. FitsIn result (tree_kind (callee_heads callees) names body)) (sym (parameter_names 0 parameters)) kinded.1

    abbrev end : ℕ
    end = 0 + (size (callee_heads callees) (names_in scope) body + widening_size result (kind_at (callee_heads callees) site body))

    end_is : end ≡ length block.lines
    end_is = omega (
      arith,
      beside (code_of callees site body) (room_lines callees result site body)
          (code-size world.basin callees site body body_kinded) (widening-size result (kind_at (callee_heads callees) site body)),
    )

    -- from the beginning of the block to behind the call
    body_goes : (arguments : List Value) (frame : Frame) (callers : List Frame) → HaveKinds (param_kinds parameters) arguments
        → Goes code world (begin number block arguments ∷ frame ∷ callers)
        (value_of world functions (with_arguments parameters arguments) body >>= widened result)
        (λ a_value next_state. (next_state ≡ at_place frame.place (a_value ∷ frame.operands) frame ∷ callers) × HasKind result a_value)
    body_goes arguments frame callers have =
        let locals : List Value = arguments ++ map blank block.locals in
        let environment : Env = with_arguments parameters arguments in
        let outcome : Outcome Value = value_of world functions environment body >>= widened result in
        let many : length locals ≡ length (param_kinds parameters ++ own_kinds) =
        omega (
          arith,
          length-append arguments (map blank block.locals),
          length-append (param_kinds parameters) own_kinds,
          as_many (param_kinds parameters) arguments have,
          length-map block.locals blank,
          length-map own_kinds code_kind,
        ) in
        let here : Here setting site environment locals [] = (
          holds_arguments setting.kinds 0 parameters arguments locals (length parameters)
              (at_front locals 0 arguments (map blank block.locals) (at_all locals))
              (at_front setting.kinds 0 (param_kinds parameters) own_kinds (at_all setting.kinds)) have (omega arith),
          many,
          refl,
        ) in
        goes_free code world (begin number block arguments ∷ frame ∷ callers) outcome
        (Left setting result (length parameters) end locals [] [] (frame ∷ callers))
        (λ a_value next_state. (next_state ≡ at_place frame.place (a_value ∷ frame.operands) frame ∷ callers) × HasKind result a_value)
        (in_room setting result body site environment locals [] [] (frame ∷ callers) (tree_goes setting body) (at_all block.lines)
        (at_moved setting.kinds (0 + length parameters) (length parameters) own_kinds (omega arith)
        (at_back setting.kinds 0 (length parameters) (param_kinds parameters) own_kinds (many_params parameters) (at_all setting.kinds))) body_kinded
        body_fits here)
        (λ a_value next_state leaves. (
          frame_at setting end leaves.locals_behind (a_value ∷ []) [],
          frame ∷ callers,
          at_place frame.place (a_value ∷ frame.operands) frame ∷ callers,
          leaves.is,
          returns number block end leaves.locals_behind (a_value ∷ []) (frame ∷ callers) found end_is
              (ap (λ k. k ∷ []) (kind_coded result a_value leaves.of_kind)),
          (refl, leaves.of_kind),
        ))

    pub function_does : DoesCall code world (I.Invoke number) (function_of world functions called_so parameters result body)
    function_does own own_block place locals arguments operands loops callers stands placed have =
        let takes = param_kinds parameters in
        let frame : Frame = record { block = own; place = place; locals = locals; operands = reverse arguments ++ operands; loops = loops } in
        let onto : Frame = record { block = own; place = suc place; locals = locals; operands = operands; loops = loops } in
        let head = numbered_heads code number block found in
        let many : length (reverse arguments) ≡ length (code_kinds takes) = length-reverse arguments ∙ as_many takes arguments have
        ∙ sym (length-map takes code_kind) in
        let kinds : kinds_of (reverse arguments) ≡ reverse (code_kinds takes) = kinds_turned arguments []
        ∙ ap reverse (kinds_are takes arguments have) in
        let enough : length (reverse arguments) ≡ operand_count (row_in code world own_block (I.Invoke number)) = many
        ∙ sym (length-reverse (code_kinds takes))
        ∙ ap (λ o. operand_count (invoke_row o)) (sym head) in
        let leaves : left_of (row_in code world own_block (I.Invoke number)) (kinds_of (reverse arguments)) ≡ Ok (code_kind result ∷ []) =
        ap₂ (λ o l. left_of (invoke_row o) l) head kinds ∙ ap (λ (test : Bool). if test then Ok (code_kind result ∷ []) else Err WrongOperand)
        (same_kinds_refl (reverse (code_kinds takes))) in
        let same_count : 1 + words_of_all (code_kinds takes) ≡ weights takes + 1 = omega (arith, all_words_coded takes) in
        let steps : step code world frame callers ≡ gives (begin number block arguments ∷ onto ∷ callers) (weights takes + 1) =
        does code world frame callers own_block (I.Invoke number) (reverse arguments) operands
        (code_kind result ∷ []) stands placed refl enough leaves
        ∙ ap (λ o. invoked number o frame callers) found
        ∙ ap₂ (λ (values others : List Value).
        gives (begin number block (reverse values) ∷ onward others frame ∷ callers) (1 + words_of_all (code_kinds takes)))
        (take_front (reverse arguments) operands (length (code_kinds takes)) many)
        (drop_front (reverse arguments) operands (length (code_kinds takes)) many)
        ∙ ap₂ (λ (values : List Value) (n : ℕ). gives (begin number block values ∷ onto ∷ callers) n) (reverse-reverse arguments) same_count in
        goes_first code world frame callers (begin number block arguments ∷ onto ∷ callers) (spent (weights takes + 1))
        (value_of world functions (with_arguments parameters arguments) body >>= widened result)
        (λ a_value next_state.
        (next_state ≡ record { block = own; place = suc place; locals = locals; operands = a_value ∷ operands; loops = loops } ∷ callers)
        × HasKind result a_value) steps
        (body_goes arguments onto callers have)
