-- Calls of functions that stand before a block fit in it.
use Rattle.rpl_compile.proofs.Common.{Before, BlockHead, Bool, Callee, HasHead, Head, Instruction, IsTrue, LaterCall, List, None, Ok, Open, Option}
use Rattle.rpl_compile.proofs.Common.{Predefined, Scope, Some, ValueKind, VerifyKind, [], ap, arith, before, bytes_eq, bytes_eq-Decides, call_by}
use Rattle.rpl_compile.proofs.Common.{call_line, call_misfit, call_row, callee_heads, code_kind, code_kinds, cond_both, false, function_named}
use Rattle.rpl_compile.proofs.Common.{going_of, if◌then◌else◌, invoke_row, judged_at, length, list_any, nat_lt, nat_tests, numbered, onward}
use Rattle.rpl_compile.proofs.Common.{predefined_callees, predefined_functions, refl, replicate, result_named, reverse, sym, taken, takes_named, true}
use Rattle.rpl_compile.proofs.Common.{unless_misfit, unless_there, ℕ, ◌++◌, ◌<◌, ◌||◌, ◌∙◌, ◌∷◌, ◌≡◌, ◌≤◌}
use Rattle.rpl_code.specs.declared.kind.ValueKind.TheVariants as K
use Rattle.rpl_code.specs.declared.instruction.Instruction.TheVariants as I
use Rattle.rpl_code.specs.declared.block.BlockHead.TheVariants.{Function}
use Rattle.rpl_compile.proofs.Going.{takes_kinds}

-- in a block of this scope, a call of each function fits that there is
abbrev pub LinesFit : Scope → List Callee → Type 0
LinesFit scope callees =
    (function_name : List ℕ) → HasHead (callee_heads callees) function_name → (place : ℕ) (under : List ValueKind) (open_loops : List Open)
    → judged_at scope place (before (reverse (code_kinds (takes_named (callee_heads callees) function_name)) ++ under) open_loops)
    (call_line callees function_name)
    ≡ Ok (before (code_kind (result_named (callee_heads callees) function_name) ∷ under) open_loops)

-- what holds of a call by name and of one of each block holds of each call
pub each_call : (P : Instruction → Type 0) (function_name : List ℕ) → P (I.Call function_name) → ((n : ℕ) → P (I.Invoke n)) → (callees : List Callee)
    → P (call_line callees function_name)
each_call P function_name named of_block [] = named
each_call P function_name named of_block (callee ∷ callees) =
    cond_both _ _ _ P (λ e. by callee.block) (λ e. each_call P function_name named of_block callees)
  where
    by : (block : Option ℕ) → P (call_by function_name block)
    by None = named
    by (Some n) = of_block n

pub call_onward : (callees : List Callee) (function_name : List ℕ) → going_of (call_line callees function_name) ≡ onward
call_onward callees function_name = each_call (λ i. going_of i ≡ onward) function_name refl (λ n. refl) callees

-- a predefined function of that head, which takes numbers and answers one
pub record IsPredefined (head : Head) : Type 0 where
  pub known : Predefined
  pub named : function_named predefined_functions head.name ≡ Some known
  pub takes : replicate (length known.head.takes) K.N ≡ reverse (code_kinds head.takes)
  pub result : K.N ≡ code_kind head.result

-- a function of that head that stands before the block of a number, among all heads
pub record IsEarlier (all : List BlockHead) (number : ℕ) (head : Head) (block : ℕ) : Type 0 where
  pub earlier : block < number
  pub there : numbered all block ≡ Some (Function (code_kind head.result) (code_kinds head.takes))

abbrev pub IsCallable : List BlockHead → ℕ → Head → Option ℕ → Type 0
IsCallable all number head None = IsPredefined head
IsCallable all number head (Some block) = IsEarlier all number head block

abbrev pub AreCallable : List BlockHead → ℕ → List Callee → Type 0
AreCallable all number [] = Unit {0}
AreCallable all number (callee ∷ callees) = IsCallable all number callee.head callee.block × AreCallable all number callees

pub callable_later : (all : List BlockHead) (number later_number : ℕ) (callees : List Callee) → number ≤ later_number → AreCallable all number callees
    → AreCallable all later_number callees
callable_later all number later_number [] at_most are_callable = tt
callable_later all number later_number (callee ∷ callees) at_most are_callable =
    (by callee.block are_callable.0, callable_later all number later_number callees at_most are_callable.1)
  where
    by : (block : Option ℕ) → IsCallable all number callee.head block → IsCallable all later_number callee.head block
    by None is_callable = is_callable
    by (Some block) is_callable = record { earlier = omega (arith, at_most, is_callable.earlier); there = is_callable.there }

pub predefined_callable : (all : List BlockHead) (number : ℕ) → AreCallable all number predefined_callees
predefined_callable all number = (
  record { known = _; named = refl; takes = refl; result = refl },
  (
    record { known = _; named = refl; takes = refl; result = refl },
    (
      record { known = _; named = refl; takes = refl; result = refl },
      (
        record { known = _; named = refl; takes = refl; result = refl },
        (
          record { known = _; named = refl; takes = refl; result = refl },
          (
            record { known = _; named = refl; takes = refl; result = refl },
            (record { known = _; named = refl; takes = refl; result = refl }, tt),
          ),
        ),
      ),
    ),
  ),
)

module _ (scope : Scope) where
  invoke_fits : (block : ℕ) (result : ValueKind) (parameters : List ValueKind) → block < scope.number
      → numbered scope.heads block ≡ Some (Function result parameters)
      → (place : ℕ) (under : List ValueKind) (open_loops : List Open)
      → judged_at scope place (before (reverse parameters ++ under) open_loops) (I.Invoke block) ≡ Ok (before (result ∷ under) open_loops)
  invoke_fits block result parameters less there place under open_loops =
      let here : Before = before (reverse parameters ++ under) open_loops in
      let is_earlier : nat_lt block scope.number ≡ true = grind (arith, nat_tests, less) in
      let fine : call_misfit scope.number block (numbered scope.heads block) ≡ None =
      ap (call_misfit scope.number block) there ∙ ap (λ t. if t then None else Some LaterCall) is_earlier in
      ap (λ (m : Option VerifyKind). unless_misfit m (taken scope (I.Invoke block) here)) fine
      ∙ takes_kinds scope (I.Invoke block) (reverse parameters) (result ∷ []) under open_loops (ap invoke_row there)

  call_fits : (function_name : List ℕ) (head : Head) → head.name ≡ function_name → IsPredefined head
      → (place : ℕ) (under : List ValueKind) (open_loops : List Open)
      → judged_at scope place (before (reverse (code_kinds head.takes) ++ under) open_loops) (I.Call function_name)
      ≡ Ok (before (code_kind head.result ∷ under) open_loops)
  call_fits function_name head name_is is_predefined place under open_loops =
      let here : Before = before (reverse (code_kinds head.takes) ++ under) open_loops in
      let found : function_named predefined_functions function_name ≡ Some is_predefined.known =
      ap (function_named predefined_functions) (sym name_is) ∙ is_predefined.named in
      ap (λ (o : Option Predefined). unless_misfit (unless_there o) (taken scope (I.Call function_name) here)) found
      ∙ ap (λ kinds. taken scope (I.Call function_name) (before (kinds ++ under) open_loops)) (sym is_predefined.takes)
      ∙ takes_kinds scope (I.Call function_name) (replicate (length is_predefined.known.head.takes) K.N) (K.N ∷ []) under open_loops
      (ap call_row found)
      ∙ ap (λ k. Ok (before (k ∷ under) open_loops)) is_predefined.result

  callable_fits : (function_name : List ℕ) (head : Head) (block : Option ℕ) → head.name ≡ function_name
      → IsCallable scope.heads scope.number head block
      → (place : ℕ) (under : List ValueKind) (open_loops : List Open)
      → judged_at scope place (before (reverse (code_kinds head.takes) ++ under) open_loops) (call_by function_name block)
      ≡ Ok (before (code_kind head.result ∷ under) open_loops)
  callable_fits function_name head None name_is is_callable place under open_loops =
      call_fits function_name head name_is is_callable place under open_loops
  callable_fits function_name head (Some block) name_is is_callable place under open_loops =
      invoke_fits block (code_kind head.result) (code_kinds head.takes) is_callable.earlier is_callable.there place under open_loops

  pub calls_fit : (callees : List Callee) → AreCallable scope.heads scope.number callees → LinesFit scope callees
  calls_fit [] are_callable function_name has place under open_loops = absurd (cc has)
  calls_fit (callee ∷ callees) are_callable function_name has place under open_loops =
      by (bytes_eq callee.head.name function_name) refl has (λ g. calls_fit callees are_callable.1 function_name g place under open_loops)
    where
      by : (test : Bool) → bytes_eq callee.head.name function_name ≡ test
          → IsTrue (test || list_any (λ (head : Head). bytes_eq head.name function_name) (callee_heads callees))
          → (HasHead (callee_heads callees) function_name
          → judged_at scope place (before (reverse (code_kinds (takes_named (callee_heads callees) function_name)) ++ under) open_loops)
          (call_line callees function_name)
          ≡ Ok (before (code_kind (result_named (callee_heads callees) function_name) ∷ under) open_loops))
          → judged_at scope place
          (before (reverse (code_kinds (if test then callee.head.takes else takes_named (callee_heads callees) function_name)) ++ under)
          open_loops)
          (if test then call_by function_name callee.block else call_line callees function_name)
          ≡ Ok (before (code_kind (if test then callee.head.result else result_named (callee_heads callees) function_name) ∷ under) open_loops)
      by true equal has later =
          callable_fits function_name callee.head callee.block
          ((bytes_eq-Decides callee.head.name function_name).0 equal) are_callable.0 place under open_loops
      by false equal has later = later has
