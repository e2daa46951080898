-- Functions that can be called: the predefined ones, and one more.
use Rattle.rpl_compile.proofs.Common.{Block, Bool, Callee, Function, HasHead, Head, IsTrue, Kind, List, None, Ok, Some, State, Value, World, [], ap}
use Rattle.rpl_compile.proofs.Common.{ap₂, bytes_eq, call_by, call_line, call_row, called, callee_heads, code_kind, cond_both, false, function_heads}
use Rattle.rpl_compile.proofs.Common.{function_named, if◌then◌else◌, kinds_of, left_of, length, length-replicate, length-reverse, list_any, locals_of}
use Rattle.rpl_compile.proofs.Common.{map, number_kind, numbered, of_function, operand_count, or_wrong, predefined_callees, predefined_functions}
use Rattle.rpl_compile.proofs.Common.{refl, replicate, result_named, reverse, reverse-reverse, same_kinds_refl, subst, suc, sym, takes_named, true}
use Rattle.rpl_compile.proofs.Common.{unless_there, zero, ℕ, ◌++◌, ◌||◌, ◌∙◌, ◌∷◌, ◌≡◌}
use Rattle.rpl_code.specs.declared.kind.ValueKind.TheVariants as K
use Rattle.rpl_code.specs.declared.instruction.Instruction.TheVariants as I
use Rattle.rpl_compile.proofs.Goes.{Goes}
use Rattle.rpl_compile.proofs.OfKind.{HasKind, HaveKinds, coded_kinds, kind_coded}
use Rattle.rpl_compile.proofs.Rows.{AllHave, all_turned, all_roomy}
use Rattle.rpl_compile.proofs.Setting.{CanCall, DoesCall, Known, Setting}
use Rattle.rpl_compile.proofs.Steps.{operates_as}

-- ---- one function more

pub known_first : (code : List Block) (world : World) (callee : Callee) (known : Function) (callees : List Callee) (functions : List Function)
    (function_name : List ℕ)
    → callee.head ≡ known.head
    → (bytes_eq callee.head.name function_name ≡ true → DoesCall code world (call_by function_name callee.block) known)
    → (bytes_eq callee.head.name function_name ≡ false → HasHead (callee_heads callees) function_name
    → Known code world callees functions function_name)
    → HasHead (callee_heads (callee ∷ callees)) function_name → Known code world (callee ∷ callees) (known ∷ functions) function_name
known_first code world callee known callees functions function_name same does later has_head =
    by (bytes_eq callee.head.name function_name) refl has_head does later
  where
    by : (test : Bool) → bytes_eq callee.head.name function_name ≡ test
        → IsTrue (test || list_any (λ (head : Head). bytes_eq head.name function_name) (callee_heads callees))
        → (test ≡ true → DoesCall code world (call_by function_name callee.block) known)
        → (test ≡ false → HasHead (callee_heads callees) function_name → Known code world callees functions function_name)
        → Known code world (callee ∷ callees) (known ∷ functions) function_name
    by true equal is_true does later =
        let equal_there : bytes_eq known.head.name function_name ≡ true = ap (λ (head : Head). bytes_eq head.name function_name) (sym same) ∙ equal in
        record {
          known = known;
          found = λ go. ap (λ (test : Bool). if test then go known else called functions function_name go) equal_there;
          takes = ap (λ (test : Bool). if test then callee.head.takes else takes_named (callee_heads callees) function_name) equal
              ∙ ap (λ (head : Head). head.takes) same;
          result = ap (λ (test : Bool). if test then callee.head.result else result_named (callee_heads callees) function_name) equal
              ∙ ap (λ (head : Head). head.result) same;
          does = subst
              (λ (test : Bool). DoesCall code world (if test then call_by function_name callee.block else call_line callees function_name) known)
              (sym equal) (does refl);
        }
    by false equal is_true does later =
        let equal_there : bytes_eq known.head.name function_name ≡ false = ap (λ (head : Head). bytes_eq head.name function_name) (sym same)
        ∙ equal in
        let known_so = later refl is_true in
        record {
          known = known_so.known;
          found = λ go. ap (λ (test : Bool). if test then go known else called functions function_name go) equal_there ∙ known_so.found go;
          takes = ap (λ (test : Bool). if test then callee.head.takes else takes_named (callee_heads callees) function_name) equal ∙ known_so.takes;
          result = ap (λ (test : Bool). if test then callee.head.result else result_named (callee_heads callees) function_name) equal
              ∙ known_so.result;
          does = subst
              (λ (test : Bool).
              DoesCall code world (if test then call_by function_name callee.block else call_line callees function_name) known_so.known)
              (sym equal) known_so.does;
        }

-- ---- predefined functions

-- it takes numbers, and its result is a number
abbrev IsNumeric : Function → Type 0
IsNumeric known = (known.head.takes ≡ replicate (length known.head.takes) number_kind) × (known.head.result ≡ number_kind)

abbrev AreNumeric : List Function → Type 0
AreNumeric [] = Unit {0}
AreNumeric (function_here ∷ functions) = IsNumeric function_here × AreNumeric functions

all_numeric : AreNumeric predefined_functions
all_numeric = ((refl, refl), ((refl, refl), ((refl, refl), ((refl, refl), ((refl, refl), ((refl, refl), ((refl, refl), tt)))))))

named_numeric : (functions : List Function) (function_name : List ℕ) (known : Function) → AreNumeric functions
    → function_named functions function_name ≡ Some known → IsNumeric known
named_numeric [] function_name known all found = absurd (cc found)
named_numeric (first ∷ functions) function_name known all found =
    cond_both (bytes_eq first.head.name function_name) (Some first) (function_named functions function_name)
    (λ found. found ≡ Some known → IsNumeric known)
    (λ e h. let function_here_is : first ≡ known = cc h in subst IsNumeric function_here_is all.0)
    (λ e. named_numeric functions function_name known all.1) found

all_have : (count : ℕ) (kind : Kind) (values : List Value) → HaveKinds (replicate count kind) values → AllHave kind values × (length values ≡ count)
all_have zero kind [] have_kinds = (tt, refl)
all_have zero kind (a_value ∷ values) have_kinds = absurd have_kinds
all_have (suc count) kind [] have_kinds = absurd have_kinds
all_have (suc count) kind (a_value ∷ values) have_kinds = let others = all_have count kind values have_kinds.1 in
    ((have_kinds.0, others.0), ap suc others.1)

kinds_alike : (kind : Kind) (values : List Value) → AllHave kind values → kinds_of values ≡ replicate (length values) (code_kind kind)
kinds_alike kind [] all_have = refl
kinds_alike kind (a_value ∷ values) all_have = ap₂ (λ a b. a ∷ b) (kind_coded kind a_value all_have.0) (kinds_alike kind values all_have.1)

nothing_called : (code : List Block) (world : World) → CanCall code world [] []
nothing_called code world function_name none = absurd (cc none)

-- any block, with no function that can be called
abbrev bare : (code : List Block) (world : World) (own : ℕ) (block : Block) → numbered code own ≡ Some block → Setting
bare code world own block found =
    let coded_so = coded_kinds (locals_of block) in
    record {
      code = code;
      world = world;
      own = own;
      block = block;
      kinds = coded_so.0;
      callees = [];
      functions = [];
      stands = found;
      locals_are = coded_so.1;
      same_heads = refl;
      calls = nothing_called code world;
    }

module _ (code : List Block) (world : World) where
  predefined_does : (function_name : List ℕ) (known : Function) → function_named predefined_functions function_name ≡ Some known
      → DoesCall code world (I.Call function_name) known
  predefined_does function_name known named own block place locals arguments operands loops callers found placed have =
      let numeric = named_numeric predefined_functions function_name known all_numeric named in
      let count : ℕ = length known.head.takes in
      let all = all_have count number_kind arguments (subst (λ kinds. HaveKinds kinds arguments) numeric.0 have) in
      let turned = all_turned number_kind arguments [] all.0 tt in
      let many : length (reverse arguments) ≡ count = length-reverse arguments ∙ all.1 in
      let setting : Setting = bare code world own block found in
      let there : unless_there (function_named predefined_functions function_name) ≡ None = ap unless_there named in
      let state : State = record { block = own; place = place; locals = locals; operands = reverse arguments ++ operands; loops = loops } ∷ callers in
      let leaves : left_of (call_row (function_named predefined_functions function_name)) (kinds_of (reverse arguments)) ≡ Ok (K.N ∷ []) =
      ap₂ (λ o l. left_of (call_row o) l) named (kinds_alike number_kind (reverse arguments) turned ∙ ap (λ m. replicate m K.N) many)
      ∙ ap (λ (test : Bool). if test then Ok (K.N ∷ []) else or_wrong None) (same_kinds_refl (replicate count K.N)) in
      let same_answer : of_function (function_named predefined_functions function_name) (reverse (reverse arguments)) ≡ known.does arguments =
      ap₂ of_function named
      (reverse-reverse arguments) in
      let Wanted : Value → State
      → Type 0 = λ a_value next_state.
      (next_state ≡ record { block = own; place = suc place; locals = locals; operands = a_value ∷ operands; loops = loops } ∷ callers)
      × HasKind number_kind a_value in
      subst (λ k. Goes code world state (known.does arguments)
      (λ a_value next_state.
      (next_state ≡ record { block = own; place = suc place; locals = locals; operands = a_value ∷ operands; loops = loops } ∷ callers)
      × HasKind k a_value)) (sym numeric.1)
      (subst (λ m. Goes code world state m Wanted) same_answer
      (operates_as setting number_kind place locals (reverse arguments) operands loops callers (I.Call function_name) tt there placed
      (all_roomy number_kind (reverse arguments) turned)
      (many ∙ sym (length-replicate count K.N) ∙ ap (λ o. operand_count (call_row o)) (sym named)) leaves))

  named_known : (functions : List Function) (function_name : List ℕ)
      → ((known : Function) → function_named functions function_name ≡ Some known → DoesCall code world (I.Call function_name) known)
      → HasHead (callee_heads (map (λ (head : Head). record { head = head; block = None }) (function_heads functions))) function_name
      → Known code world (map (λ (head : Head). record { head = head; block = None }) (function_heads functions)) functions function_name
  named_known [] function_name does has_head = absurd (cc has_head)
  named_known (first ∷ functions) function_name does has_head =
      known_first code world (record { head = first.head; block = None }) first
      (map (λ (head : Head). record { head = head; block = None }) (function_heads functions))
      functions function_name refl
      (λ equal. does first (ap (λ (test : Bool). if test then Some first else function_named functions function_name) equal))
      (λ equal. named_known functions function_name
      (λ known e. does known (ap (λ (test : Bool). if test then Some first else function_named functions function_name) equal ∙ e))) has_head

  pub predefined_called : CanCall code world predefined_callees predefined_functions
  predefined_called function_name has_head = named_known predefined_functions function_name (predefined_does function_name) has_head

pub predefined_heads : function_heads predefined_functions ≡ callee_heads predefined_callees
predefined_heads = refl
