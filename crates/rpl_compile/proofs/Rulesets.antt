-- The block of a rule does what the rule does, wherever it is declared.
use Rattle.rpl_compile.proofs.Common.{Acts, AreKindedActs, AreKindedFrom, Block, Bool, Callee, Declared, Frame, Function, Head, Kind, List, Parameter}
use Rattle.rpl_compile.proofs.Common.{Some, State, Tree, TypeName, Value, World, [], acts_done, acts_local_kinds, ap, arith, begin, blank}
use Rattle.rpl_compile.proofs.Common.{blocks_from, callee_heads, code_kind, code_kinds, false, function, function_block, function_heads, function_of}
use Rattle.rpl_compile.proofs.Common.{gives, if◌then◌else◌, kind_of_type, length-map, map, nat_tests, numbered, numbered_by, param_kinds, refl, rule}
use Rattle.rpl_compile.proofs.Common.{rule_block, rule_count, rule_done, rule_from, size_of_acts, slice_get, start, step, subst, suc, sym, true, ℕ}
use Rattle.rpl_compile.proofs.Common.{◌+◌, ◌-◌, ◌==◌, ◌∙◌, ◌∷◌, ◌≡◌, ◌≤◌}
use Rattle.rpl_compile.proofs.Goes.{Goes, goes_weaker}
use Rattle.rpl_compile.proofs.OfKind.{At, at_all, at_head, at_tail}
use Rattle.rpl_compile.proofs.Sizes.{acts-size}
use Rattle.rpl_compile.proofs.Setting.{CanCall, Here, Setting}
use Rattle.rpl_compile.proofs.Statements.{Behind, acts_go}
use Rattle.rpl_compile.proofs.Callables.{known_first}
use Rattle.rpl_compile.proofs.Bodies.{function_does, returns}

-- the block of a number behind others
numbered_at : {A : Type 0} (xs : List A) (place : ℕ) (x : A) → slice_get xs place ≡ Some x → numbered xs (place + 1) ≡ Some x
numbered_at xs place x stands = let same_place : place + 1 - 1 ≡ place = omega arith in
    numbered_by xs (place + 1) x (ap (slice_get xs) same_place ∙ stands) (omega arith)

module _ (code : List Block) (world : World) where
  -- one step more, which counts nothing, and no block is left
  abbrev pub Over : Unit {0} → State → Type 0
  Over done next_state = (frame : Frame) × (next_state ≡ frame ∷ []) × (step code world frame [] ≡ gives [] 0)

  rule_goes : (callees : List Callee) (functions : List Function) (same_heads : function_heads functions ≡ callee_heads callees)
      → CanCall code world callees functions
      → (number : ℕ) (body : Acts) → numbered code number ≡ Some (rule_block callees body) → AreKindedActs world.basin (callee_heads callees) [] body
      → Goes code world (begin number (rule_block callees body) [] ∷ []) (acts_done world functions [] body) Over
  rule_goes callees functions same_heads calls number body found kinded =
      let kinds : List Kind = acts_local_kinds (callee_heads callees) [] body in
      let block : Block = rule_block callees body in
      let setting : Setting = record {
        code = code;
        world = world;
        own = number;
        block = block;
        kinds = kinds;
        callees = callees;
        functions = functions;
        stands = found;
        locals_are = refl;
        same_heads = same_heads;
        calls = calls;
      } in
      let locals : List Value = map blank (code_kinds kinds) in
      let end : ℕ = 0 + size_of_acts (callee_heads callees) [] body in
      let here : Here setting (start [] 0) [] locals [] = (tt, length-map (code_kinds kinds) blank ∙ length-map kinds code_kind, refl) in
      goes_weaker code world (begin number block [] ∷ []) (acts_done world functions [] body) (Behind setting 0 end locals [] [] []) Over
      (λ done next_state leaves. (
        record { block = number; place = end; locals = leaves.locals_behind; operands = []; loops = [] },
        leaves.is,
        returns code world number block end leaves.locals_behind [] [] found
            (omega (arith, acts-size world.basin callees (start [] 0) body kinded)) refl,
      ))
      (acts_go setting body (start [] 0) [] locals [] [] [] (at_all block.lines) (at_all kinds) kinded here)

  -- the rule of a number among declarations, of which the first has this number
  pub record Found (callees : List Callee) (functions : List Function) (rest : List Declared) (first_number number : ℕ) : Type 0 where
    pub at : ℕ
    pub block : Block
    pub rule_is : rule_from first_number (blocks_from callees first_number rest) number ≡ Some at
    pub there : numbered code at ≡ Some block
    pub goes : Goes code world (begin at block [] ∷ []) (rule_done world functions rest number) Over

  -- another rule before it
  behind_rule : (callees : List Callee) (functions : List Function) (called_so : List ℕ) (body : Acts) (rest : List Declared) (place number : ℕ)
      → (number == 1) ≡ false
      → Found callees functions rest (place + 1 + 1) (number - 1) → Found callees functions (rule called_so body ∷ rest) (place + 1) number
  behind_rule callees functions called_so body rest place number not_first found_so =
      let same_place : suc (place + 1) ≡ place + 1 + 1 = omega arith in
      let onto : rule_from (suc (place + 1)) (blocks_from callees (place + 1 + 1) rest) (number - 1) ≡ Some found_so.at =
      ap (λ n. rule_from n (blocks_from callees (place + 1 + 1) rest) (number - 1)) same_place ∙ found_so.rule_is in
      record {
        at = found_so.at;
        block = found_so.block;
        rule_is = ap
            (λ (test : Bool). if test then Some (place + 1) else rule_from (suc (place + 1)) (blocks_from callees (place + 1 + 1) rest) (number - 1))
            not_first ∙ onto;
        there = found_so.there;
        goes = subst (λ (test : Bool). Goes code world (begin found_so.at found_so.block [] ∷ [])
            (if test then acts_done world functions [] body else rule_done world functions rest (number - 1)) Over) (sym not_first) found_so.goes;
      }

  -- the function of a block, as it is called and as it is meant
  abbrev callee_of : List ℕ → List Parameter → TypeName → ℕ → Callee
  callee_of called_so parameters result number =
      record { head = record { name = called_so; takes = param_kinds parameters; result = kind_of_type result }; block = Some number }

  abbrev meant : List Function → List ℕ → List Parameter → TypeName → Tree → Function
  meant functions called_so parameters result body = function_of world functions called_so parameters (kind_of_type result) body

  -- a function before it
  behind_function : (callees : List Callee) (functions : List Function) (called_so : List ℕ) (parameters : List Parameter) (result : TypeName)
      (body : Tree) (rest : List Declared) (place number : ℕ)
      → Found (callee_of called_so parameters result (place + 1) ∷ callees) (meant functions called_so parameters result body ∷ functions) rest
      (place + 1 + 1) number
      → Found callees functions (function called_so parameters result body ∷ rest) (place + 1) number
  behind_function callees functions called_so parameters result body rest place number found_so =
      let same_place : suc (place + 1) ≡ place + 1 + 1 = omega arith in
      let blocks = blocks_from (callee_of called_so parameters result (place + 1) ∷ callees) (place + 1 + 1) rest in
      record {
        at = found_so.at;
        block = found_so.block;
        rule_is = ap (λ n. rule_from n blocks number) same_place ∙ found_so.rule_is;
        there = found_so.there;
        goes = found_so.goes;
      }

  pub found : (rest : List Declared) (callees : List Callee) (functions : List Function) (place number : ℕ)
      → At code place (blocks_from callees (place + 1) rest)
      → function_heads functions ≡ callee_heads callees → CanCall code world callees functions → AreKindedFrom world.basin (callee_heads callees) rest
      → 1 ≤ number → number ≤ rule_count rest → Found callees functions rest (place + 1) number
  found [] callees functions place number placed same calls kinded low high = absurd (omega (arith, low, high))
  found (rule called_so body ∷ rest) callees functions place number placed same calls kinded low high =
      by (number == 1) refl
      (λ number_there placed_there low_there high_there.
      found rest callees functions (place + 1) number_there placed_there same calls kinded.1 low_there high_there)
    where
      by : (test : Bool) → (number == 1) ≡ test
          → ((k : ℕ) → At code (place + 1) (blocks_from callees (place + 1 + 1) rest) → 1 ≤ k → k ≤ rule_count rest
          → Found callees functions rest (place + 1 + 1) k)
          → Found callees functions (rule called_so body ∷ rest) (place + 1) number
      by true first_is later =
          let others = blocks_from callees (place + 1 + 1) rest in
          let there = numbered_at code place (rule_block callees body) (at_head code place (rule_block callees body) others placed) in
          record {
            at = place + 1;
            block = rule_block callees body;
            rule_is = ap (λ (test : Bool). if test then Some (place + 1) else rule_from (suc (place + 1)) others (number - 1)) first_is;
            there = there;
            goes = subst (λ (test : Bool). Goes code world (begin (place + 1) (rule_block callees body) [] ∷ [])
                (if test then acts_done world functions [] body else rule_done world functions rest (number - 1)) Over) (sym first_is)
                (rule_goes callees functions same calls (place + 1) body there kinded.0);
          }
      by false first_is later =
          let more : 2 ≤ number = grind (arith, nat_tests, first_is, low) in
          let behind = at_tail code place (rule_block callees body) (blocks_from callees (place + 1 + 1) rest) placed in
          behind_rule callees functions called_so body rest place number first_is
          (later (number - 1) behind (omega (arith, more)) (omega (arith, more, high)))
  found (function called_so parameters result body ∷ rest) callees functions place number placed same calls kinded low high =
      let kind = kind_of_type result in
      let callee : Callee = callee_of called_so parameters result (place + 1) in
      let known : Function = meant functions called_so parameters result body in
      let block : Block = function_block callees parameters kind body in
      let blocks = blocks_from (callee ∷ callees) (place + 1 + 1) rest in
      let there = numbered_at code place block (at_head code place block blocks placed) in
      let does = function_does code world callees functions same calls (place + 1) called_so parameters kind body there kinded.0 in
      behind_function callees functions called_so parameters result body rest place number
      (found rest (callee ∷ callees) (known ∷ functions) (place + 1) number (at_tail code place block blocks placed)
      (ap (λ (heads : List Head). callee.head ∷ heads) same)
      (λ f h. known_first code world callee known callees functions f refl (λ e. does) (λ e m. calls f m) h) kinded.1 low high)
