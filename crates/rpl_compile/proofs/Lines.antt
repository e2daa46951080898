-- Lines that stand in the code of a form fit, where the operands are of the kinds that the form asks for: locals, slots, loops, puts and lists.
use Rattle.rpl_compile.proofs.Common.{Before, Decides-le, Instruction, IsAnyList, IsElement, IsList, IsSome, IsSomeAnd, IsTarget, IsTrue, Kind, List}
use Rattle.rpl_compile.proofs.Common.{Loop, None, NotSettable, Ok, Open, Option, Result, Rule, Scope, Some, TargetStep, ValueKind, VerifyKind, [], ap}
use Rattle.rpl_compile.proofs.Common.{ap₂, arith, before, can_set, code_kind, element_of, element_on_top, goes_by, if_fits, if◌then◌else◌, inl, inr}
use Rattle.rpl_compile.proofs.Common.{is_near, judged_at, length-replicate, list_all, list_kind, listed, load_row, mapping, number_kind, numbers_kind}
use Rattle.rpl_compile.proofs.Common.{of_list, opened, operand_row, option_map, put_misfit, refl, replicate, room_of, room_on_top, same_kind_refl}
use Rattle.rpl_compile.proofs.Common.{same_kinds_refl, shut, slice_get, slot_named, slots_kind, store_row, subst, suc, sym, taken, then_do, true}
use Rattle.rpl_compile.proofs.Common.{unless_misfit, unless_there, unsigned_abs, visiting, zero, ℕ, ℤ, ◌&&◌, ◌++◌, ◌∙◌, ◌∷◌, ◌≡◌, ◌≤◌}
use Rattle.rpl_code.specs.declared.kind.ValueKind.TheVariants as K
use Rattle.rpl_code.specs.declared.instruction.Instruction.TheVariants as I
use Rattle.rpl_verify.specs.Kinds as V
use Rattle.rpl_verify.specs.Names.{put_step_misfit}
use Rattle.rpl_compile.proofs.Going.{takes_by, takes_kinds}

-- ---- kinds of code

pub room_code : (kind : Kind) → V.list_room (code_kind kind) ≡ room_of kind
room_code number_kind = refl
room_code kind = refl

-- what holds of each list of numbers and each of slots holds of any list
pub of_lists : (place_kind : Kind → Type 0) → ((m : ℕ) → place_kind (numbers_kind m)) → ((m : ℕ) → place_kind (slots_kind m)) → (kind : Kind)
    → IsAnyList kind → place_kind kind
of_lists place_kind of_numbers of_slots kind is_any_list = by is_any_list.0 is_any_list.1
  where
    by : (m : ℕ) → IsList kind m → place_kind kind
    by m (inl e) = subst place_kind (sym e) (of_numbers m)
    by m (inr e) = subst place_kind (sym e) (of_slots m)

element_code : (kind : Kind) → IsAnyList kind → V.element_kind (code_kind kind) ≡ Some (code_kind (element_of kind))
element_code kind is_any_list =
    of_lists (λ k. V.element_kind (code_kind k) ≡ Some (code_kind (element_of k))) (λ m. refl) (λ m. refl) kind is_any_list

list_left : (left : List ValueKind) (kind : Kind) → IsAnyList kind → of_list left (code_kind kind ∷ []) ≡ Some left
list_left left kind is_any_list = of_lists (λ k. of_list left (code_kind k ∷ []) ≡ Some left) (λ m. refl) (λ m. refl) kind is_any_list

-- ---- single instructions

-- the loop that begins at a place over a list with so much room
abbrev pub loop_at : Loop → ℕ → ℕ → List ValueKind → Open
loop_at loop place room under = record { start = place; loop = loop; room = room; under = under }

module _ (scope : Scope) where
  pub load_fits : (place number : ℕ) (kind : ValueKind) (under : List ValueKind) (open_loops : List Open) → slice_get scope.locals number ≡ Some kind
      → judged_at scope place (before under open_loops) (I.Load number) ≡ Ok (before (kind ∷ under) open_loops)
  load_fits place number kind under open_loops stands = takes_kinds scope (I.Load number) [] (kind ∷ []) under open_loops (ap load_row stands)

  pub store_fits : (place number : ℕ) (kind : ValueKind) (under : List ValueKind) (open_loops : List Open) → slice_get scope.locals number ≡ Some kind
      → judged_at scope place (before (kind ∷ under) open_loops) (I.Store number) ≡ Ok (before under open_loops)
  store_fits place number kind under open_loops stands = takes_kinds scope (I.Store number) (kind ∷ []) [] under open_loops (ap store_row stands)

  pub slot_fits : (place : ℕ) (object slot_name : List ℕ) (under : List ValueKind) (open_loops : List Open)
      → IsSome (slot_named scope.basin.objects object slot_name)
      → judged_at scope place (before under open_loops) (I.Slot object slot_name) ≡ Ok (before (K.S ∷ under) open_loops)
  slot_fits place object slot_name under open_loops is_some = named (slot_named scope.basin.objects object slot_name) is_some
      ∙ takes_kinds scope (I.Slot object slot_name) [] (K.S ∷ []) under open_loops refl
    where
      named : (found : Option ℕ) → IsSome found
          → unless_misfit (unless_there found) (taken scope (I.Slot object slot_name) (before under open_loops))
          ≡ taken scope (I.Slot object slot_name) (before under open_loops)
      named None is_some = absurd (cc is_some)
      named (Some n) is_some = refl

  opening : (place number : ℕ) (loop : Loop) (line : Instruction) (kind : Kind) (under : List ValueKind) (open_loops : List Open) → IsAnyList kind
      → slice_get scope.locals number ≡ Some (code_kind (element_of kind)) → operand_row scope.heads scope.locals line ≡ goes_by 1 (of_list [])
      → opened scope place loop number line (before (code_kind kind ∷ under) open_loops)
      ≡ Ok (before under (loop_at loop place (room_of kind) under ∷ open_loops))
  opening place number loop line kind under open_loops is_any_list stands row =
      let here : Before = before (code_kind kind ∷ under) open_loops in
      let same : V.is_that_kind (slice_get scope.locals number) (V.element_kind (code_kind kind)) ≡ true =
      ap₂ (λ a b. V.is_that_kind a b) stands (element_code kind is_any_list) ∙ same_kind_refl (code_kind (element_of kind)) in
      ap (λ (judged : Result Before VerifyKind).
      then_do judged (λ (there : Before). if_fits (V.is_that_kind (slice_get scope.locals number) (element_on_top here.kinds))
      (before there.kinds (loop_at loop place (room_on_top here.kinds) there.kinds ∷ open_loops))))
      (takes_by scope line 1 (of_list []) (code_kind kind ∷ []) [] under open_loops row refl (list_left [] kind is_any_list))
      ∙ ap₂ (λ t m. if_fits t (before under (loop_at loop place m under ∷ open_loops))) same (room_code kind)

  pub foreach_fits : (place number : ℕ) (kind : Kind) (under : List ValueKind) (open_loops : List Open) → IsAnyList kind
      → slice_get scope.locals number ≡ Some (code_kind (element_of kind))
      → judged_at scope place (before (code_kind kind ∷ under) open_loops) (I.Foreach number)
      ≡ Ok (before under (loop_at visiting place (room_of kind) under ∷ open_loops))
  foreach_fits place number kind under open_loops is_any_list stands =
      opening place number visiting (I.Foreach number) kind under open_loops is_any_list stands refl

  pub map_fits : (place number : ℕ) (kind : Kind) (under : List ValueKind) (open_loops : List Open) → IsAnyList kind
      → slice_get scope.locals number ≡ Some (code_kind (element_of kind))
      → judged_at scope place (before (code_kind kind ∷ under) open_loops) (I.Map number)
      ≡ Ok (before under (loop_at mapping place (room_of kind) under ∷ open_loops))
  map_fits place number kind under open_loops is_any_list stands =
      opening place number mapping (I.Map number) kind under open_loops is_any_list stands refl

  pub next_fits : (place start room : ℕ) (under : List ValueKind) (open_loops : List Open)
      → judged_at scope place (before under (loop_at visiting start room under ∷ open_loops)) I.Next ≡ Ok (before under open_loops)
  next_fits place start room under open_loops =
      let open_loop : Open = loop_at visiting start room under in
      ap (λ (judged : Result Before VerifyKind). then_do judged (λ (there : Before). shut visiting there.kinds there.loops))
      (takes_kinds scope I.Next [] [] under (open_loop ∷ open_loops) refl)
      ∙ ap (λ t. if_fits t (before under open_loops)) (same_kinds_refl under)

  pub yield_fits : (place start room : ℕ) (under : List ValueKind) (open_loops : List Open)
      → judged_at scope place (before (K.N ∷ under) (loop_at mapping start room under ∷ open_loops)) I.Yield
      ≡ Ok (before (K.NList room ∷ under) open_loops)
  yield_fits place start room under open_loops =
      let open_loop : Open = loop_at mapping start room under in
      ap (λ (judged : Result Before VerifyKind). then_do judged (λ (there : Before). shut mapping there.kinds there.loops))
      (takes_kinds scope I.Yield (K.N ∷ []) [] under (open_loop ∷ open_loops) refl)
      ∙ ap (λ t. if_fits t (before (K.NList room ∷ under) open_loops)) (same_kinds_refl under)

  pub put_fits : (place : ℕ) (object slot_name : List ℕ) (ahead : ℤ) (under : List ValueKind) (open_loops : List Open) → scope.head ≡ Rule
      → IsTarget scope.basin [] (slot_named scope.basin.objects object slot_name) ahead
      → judged_at scope place (before (K.N ∷ under) open_loops) (I.Put object slot_name (unsigned_abs ahead)) ≡ Ok (before under open_loops)
  put_fits place object slot_name ahead under open_loops rule is_target =
      named (slot_named scope.basin.objects object slot_name) is_target.0
      ∙ takes_kinds scope (I.Put object slot_name (unsigned_abs ahead)) (K.N ∷ []) [] under open_loops refl
    where
      near : put_step_misfit scope.basin.control.ahead scope.head (unsigned_abs ahead) ≡ None
      near =
          ap (λ head. put_step_misfit scope.basin.control.ahead head (unsigned_abs ahead)) rule
          ∙ ap (λ t. if t then None else Some TargetStep)
          ((Decides-le (unsigned_abs ahead) scope.basin.control.ahead).1 (is_near scope.basin ahead is_target.1))

      named : (found : Option ℕ) → IsSomeAnd found (λ s. IsTrue (can_set scope.basin s))
          → unless_misfit (put_misfit scope found (unsigned_abs ahead))
          (taken scope (I.Put object slot_name (unsigned_abs ahead)) (before (K.N ∷ under) open_loops))
          ≡ taken scope (I.Put object slot_name (unsigned_abs ahead)) (before (K.N ∷ under) open_loops)
      named None is_some_and = absurd is_some_and
      named (Some n) is_some_and =
          ap (λ t. unless_misfit (if t then put_step_misfit scope.basin.control.ahead scope.head (unsigned_abs ahead) else Some NotSettable)
          (taken scope (I.Put object slot_name (unsigned_abs ahead)) (before (K.N ∷ under) open_loops))) is_some_and
          ∙ ap (λ misfit. unless_misfit misfit (taken scope (I.Put object slot_name (unsigned_abs ahead)) (before (K.N ∷ under) open_loops))) near

  all_same : (count : ℕ) (kind : ValueKind) → list_all (V.is_same_value_kind kind) (replicate count kind) ≡ true
  all_same zero kind = refl
  all_same (suc count) kind = ap (λ t. t && list_all (V.is_same_value_kind kind) (replicate count kind)) (same_kind_refl kind) ∙ all_same count kind

  listed_kinds : (count : ℕ) (kind : Kind) → IsElement kind
      → listed (suc count) (replicate (suc count) (code_kind kind)) ≡ Some (code_kind (list_kind (suc count) kind) ∷ [])
  listed_kinds count kind is_element =
      ap (λ t. if t then option_map (λ kind. kind ∷ []) (V.list_value_kind (suc count) (code_kind kind)) else None) (all_same count (code_kind kind))
      ∙ by is_element
    where
      by : IsElement kind
          → option_map (λ kind. kind ∷ []) (V.list_value_kind (suc count) (code_kind kind)) ≡ Some (code_kind (list_kind (suc count) kind) ∷ [])
      by (inl e) =
          subst (λ k. option_map (λ kind. kind ∷ []) (V.list_value_kind (suc count) (code_kind k)) ≡ Some (code_kind (list_kind (suc count) k) ∷ []))
          (sym e) refl
      by (inr e) =
          subst (λ k. option_map (λ kind. kind ∷ []) (V.list_value_kind (suc count) (code_kind k)) ≡ Some (code_kind (list_kind (suc count) k) ∷ []))
          (sym e) refl

  pub list_fits : (place count : ℕ) (kind : Kind) (under : List ValueKind) (open_loops : List Open) → 1 ≤ count → IsElement kind
      → judged_at scope place (before (replicate count (code_kind kind) ++ under) open_loops) (I.List count)
      ≡ Ok (before (code_kind (list_kind count kind) ∷ under) open_loops)
  list_fits place zero kind under open_loops at_most is_element = absurd (omega (arith, at_most))
  list_fits place (suc count) kind under open_loops at_most is_element =
      takes_by scope (I.List (suc count)) (suc count) (listed (suc count)) (replicate (suc count) (code_kind kind))
      (code_kind (list_kind (suc count) kind) ∷ []) under open_loops refl
      (sym (length-replicate _ _)) (listed_kinds count kind is_element)
