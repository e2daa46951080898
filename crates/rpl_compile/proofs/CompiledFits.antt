-- Code of a ruleset fits the basin, where the ruleset is of the kinds that are asked for and has no more declarations than there may be.
use Rattle.rpl_compile.proofs.Common.{Acts, AreFit, AreKinded, AreKindedFrom, Before, Block, BlockHead, Bool, Callee, Declared, Draft, Err, List}
use Rattle.rpl_compile.proofs.Common.{Misplaced, Ok, Parameter, Refusal, Result, Rule, Some, TooMany, Tree, TypeName, ValueKind, [], ap, append_assoc}
use Rattle.rpl_compile.proofs.Common.{arith, before, befores, block_befores, blocks_from, callee_heads, count_alike, each_block, false, function}
use Rattle.rpl_compile.proofs.Common.{function_block, function_count, heads_of, if◌then◌else◌, in_block, is_alike, kind_of_type, length}
use Rattle.rpl_compile.proofs.Common.{length-append, nat_lt, nat_tests, numbered, numbered_by, option_map, param_kinds, predefined_callees, refl}
use Rattle.rpl_compile.proofs.Common.{refusal_in_result, rule, rule_block, rule_count, scope_of, slice_get, slice_get-map, suc, sym, translate, true}
use Rattle.rpl_compile.proofs.Common.{ℕ, ◌++◌, ◌+◌, ◌-◌, ◌<◌, ◌∙◌, ◌∷◌, ◌≡◌, ◌≤◌}
use Rattle.rpl_code.specs.declared.block.BlockHead.TheVariants.{Function}
use Rattle.rpl_compile.proofs.Placing.{has_behind}
use Rattle.rpl_compile.proofs.Calling.{AreCallable, callable_later, calls_fit, predefined_callable}
use Rattle.rpl_compile.proofs.Fitting.{BlockFits, function_fits, rule_fits}

-- ---- how many blocks there are

alike_self : (head : BlockHead) → is_alike head head ≡ true
alike_self Rule = refl
alike_self (Function result parameters) = refl

counts_add : (head : BlockHead) (blocks other_blocks : List Block)
    → count_alike head (blocks ++ other_blocks) ≡ count_alike head blocks + count_alike head other_blocks
counts_add head [] other_blocks = omega arith
counts_add head (block ∷ blocks) other_blocks = by (is_alike head block.head) (counts_add head blocks other_blocks)
  where
    by : (test : Bool) → count_alike head (blocks ++ other_blocks) ≡ count_alike head blocks + count_alike head other_blocks
        → (if test then suc (count_alike head (blocks ++ other_blocks)) else count_alike head (blocks ++ other_blocks))
        ≡ (if test then suc (count_alike head blocks) else count_alike head blocks) + count_alike head other_blocks
    by true same = omega (arith, same)
    by false same = same

-- behind fewer blocks than there may be
pub room_for : (all earlier rest : List Block) (block : Block) → count_alike block.head all ≤ 200 → earlier ++ block ∷ rest ≡ all
    → nat_lt (count_alike block.head earlier) 200 ≡ true
room_for all earlier rest block few whole_is =
    let all_counted = counts_add block.head earlier (block ∷ rest) in
    let one : count_alike block.head (block ∷ rest) ≡ suc (count_alike block.head rest) =
    ap (λ t. if t then suc (count_alike block.head rest) else count_alike block.head rest) (alike_self block.head) in
    let same = ap (count_alike block.head) whole_is in
    let less : count_alike block.head earlier < 200 = omega (arith, few, all_counted, one, same) in
    grind (arith, nat_tests, less)

pub rules_counted : (callees : List Callee) (number : ℕ) (declarations : List Declared)
    → count_alike Rule (blocks_from callees number declarations) ≡ rule_count declarations
rules_counted callees number [] = refl
rules_counted callees number (rule called_so body ∷ declarations) = let counted = rules_counted callees (number + 1) declarations in
    omega (arith, counted)
rules_counted callees number (function called_so parameters result body ∷ declarations) = rules_counted _ (number + 1) declarations

functions_counted : (result_kind : ValueKind) (parameter_kinds : List ValueKind) (callees : List Callee) (number : ℕ) (declarations : List Declared)
    → count_alike (Function result_kind parameter_kinds) (blocks_from callees number declarations) ≡ function_count declarations
functions_counted result_kind parameter_kinds callees number [] = refl
functions_counted result_kind parameter_kinds callees number (rule called_so body ∷ declarations) =
    functions_counted result_kind parameter_kinds callees (number + 1) declarations
functions_counted result_kind parameter_kinds callees number (function called_so parameters result body ∷ declarations) =
    let kind = kind_of_type result in
    let callee : Callee = record { head = record { name = called_so; takes = param_kinds parameters; result = kind }; block = Some number } in
    let counted = functions_counted result_kind parameter_kinds (callee ∷ callees) (number + 1) declarations in omega (arith, counted)

-- of each sort there are no more blocks than there may be
abbrev pub AreFew : List Block → Type 0
AreFew all = (head : BlockHead) → count_alike head all ≤ 200

pub few_blocks : (declarations : List Declared) → rule_count declarations ≤ 200 → function_count declarations ≤ 200 → AreFew (translate declarations)
few_blocks declarations rules functions Rule = let counted = rules_counted predefined_callees 1 declarations in omega (arith, rules, counted)
few_blocks declarations rules functions (Function result_kind parameter_kinds) = let counted =
    functions_counted result_kind parameter_kinds predefined_callees 1 declarations in omega (arith, functions, counted)

-- ---- a function is called by its number

there : (all earlier rest : List Block) (block : Block) (number : ℕ) → number ≡ suc (length earlier) → earlier ++ block ∷ rest ≡ all
    → numbered (heads_of all) number ≡ Some block.head
there all earlier rest block number number_is whole_is =
    let before_it : number - 1 ≡ length earlier = omega (arith, number_is) in
    let stands : slice_get all (number - 1) ≡ Some block =
    ap (λ (blocks : List Block). slice_get blocks (number - 1)) (sym whole_is) ∙ ap (slice_get (earlier ++ block ∷ rest)) before_it
    ∙ (has_behind earlier (block ∷ rest)).0 in
    numbered_by (heads_of all) number block.head
    (slice_get-map (λ (x : Block). x.head) all (number - 1) ∙ ap (option_map (λ (x : Block). x.head)) stands) (omega (arith, number_is))

-- ---- what is known on the way through a ruleset

-- the blocks before a number, and the functions that can be called there
pub record Reached (all : List Block) (callees : List Callee) (number : ℕ) (declarations : List Declared) (earlier : List Block) : Type 0 where
  pub whole : earlier ++ blocks_from callees number declarations ≡ all
  pub counted : number ≡ suc (length earlier)
  pub callable : AreCallable (heads_of all) number callees

pub next_number : {A : Type 0} (earlier : List A) (last : A) (number : ℕ) → number ≡ suc (length earlier)
    → number + 1 ≡ suc (length (earlier ++ last ∷ []))
next_number earlier last number number_is = omega (arith, number_is, length-append earlier (last ∷ []))

pub behind_rule : (all : List Block) (callees : List Callee) (number : ℕ) (function_name : List ℕ) (body : Acts) (declarations : List Declared)
    (earlier : List Block)
    → Reached all callees number (rule function_name body ∷ declarations) earlier
    → Reached all callees (number + 1) declarations (earlier ++ rule_block callees body ∷ [])
behind_rule all callees number function_name body declarations earlier reached =
    let block : Block = rule_block callees body in
    record {
      whole = append_assoc earlier (block ∷ []) (blocks_from callees (number + 1) declarations) ∙ reached.whole;
      counted = next_number earlier block number reached.counted;
      callable = callable_later (heads_of all) number (number + 1) callees (omega arith) reached.callable;
    }

abbrev pub declared_callee : ℕ → List ℕ → List Parameter → TypeName → Callee
declared_callee number function_name parameters result =
    record { head = record { name = function_name; takes = param_kinds parameters; result = kind_of_type result }; block = Some number }

pub behind_function : (all : List Block) (callees : List Callee) (number : ℕ) (function_name : List ℕ) (parameters : List Parameter)
    (result : TypeName)
    (body : Tree) (declarations : List Declared)
    (earlier : List Block) → Reached all callees number (function function_name parameters result body ∷ declarations) earlier
    → Reached all (declared_callee number function_name parameters result ∷ callees) (number + 1) declarations
    (earlier ++ function_block callees parameters (kind_of_type result) body ∷ [])
behind_function all callees number function_name parameters result body declarations earlier reached =
    let block : Block = function_block callees parameters (kind_of_type result) body in
    let later : List Block = blocks_from (declared_callee number function_name parameters result ∷ callees) (number + 1) declarations in
    record {
      whole = append_assoc earlier (block ∷ []) later ∙ reached.whole;
      counted = next_number earlier block number reached.counted;
      callable = (
        record { earlier = omega arith; there = there all earlier later block number reached.counted reached.whole },
        callable_later (heads_of all) number (number + 1) callees (omega arith) reached.callable,
      );
    }

pub reached_first : (declarations : List Declared) → Reached (translate declarations) predefined_callees 1 declarations []
reached_first declarations = record { whole = refl; counted = refl; callable = predefined_callable (heads_of (translate declarations)) 1 }

-- ---- all blocks

-- what is before each place of a block that fits is found, where there are few before it
pub befores_found : (basin : Draft) (all : List Block) (number : ℕ) (earlier rest : List Block) (block : Block) → AreFew all
    → number ≡ suc (length earlier)
    → earlier ++ block ∷ rest ≡ all → (fits : BlockFits basin all number block) → block_befores basin all earlier block ≡ Ok fits.0
befores_found basin all number earlier rest block few number_is whole_is fits =
    ap (λ t. if t then befores (scope_of basin all (suc (length earlier)) block) 0 (before [] []) block.lines else Err
    (record { misfit = TooMany; place = 0 }))
    (room_for all earlier rest block (few block.head) whole_is)
    ∙ ap (λ m. befores (scope_of basin all m block) 0 (before [] []) block.lines) (sym number_is) ∙ fits.1

module _ (basin : Draft) (all : List Block) (few : AreFew all) where
  abbrev judge : List Block → List (List Before) → Block → Result (List Before) Misplaced
  judge earlier done block = block_befores basin all earlier block

  abbrev Passes : List Block → List (List Before) → List Block → Type 0
  Passes earlier done blocks = (out : List (List Before)) × (each_block judge earlier done blocks ≡ Ok out)

  passes_next : (number : ℕ) (earlier : List Block) (done : List (List Before)) (block : Block) (rest : List Block) → number ≡ suc (length earlier)
      → earlier ++ block ∷ rest ≡ all
      → BlockFits basin all number block → ((befores_there : List Before) → Passes (earlier ++ block ∷ []) (done ++ befores_there ∷ []) rest)
      → Passes earlier done (block ∷ rest)
  passes_next number earlier done block rest number_is whole_is fits later =
      let others = later fits.0 in
      let own = befores_found basin all number earlier rest block few number_is whole_is fits in (
        others.0,
        ap (λ (judged : Result (List Before) Misplaced). in_block (suc (length earlier)) judged
            (λ befores_there. each_block judge (earlier ++ block ∷ []) (done ++ befores_there ∷ []) rest)) own ∙ others.1,
      )

  blocks_fit : (callees : List Callee) (number : ℕ) (declarations : List Declared) (earlier : List Block) (done : List (List Before))
      → Reached all callees number declarations earlier
      → AreKindedFrom basin (callee_heads callees) declarations → Passes earlier done (blocks_from callees number declarations)
  blocks_fit callees number [] earlier done reached are_kinded_from = (done, refl)
  blocks_fit callees number (rule called_so body ∷ declarations) earlier done reached are_kinded_from =
      let block : Block = rule_block callees body in
      passes_next number earlier done block (blocks_from callees (number + 1) declarations) reached.counted reached.whole
      (rule_fits basin all number callees body (calls_fit (scope_of basin all number block) callees reached.callable) are_kinded_from.0)
      (λ befores_there.
      blocks_fit callees (number + 1) declarations (earlier ++ block ∷ []) (done ++ befores_there ∷ [])
      (behind_rule all callees number called_so body declarations earlier reached) are_kinded_from.1)
  blocks_fit callees number (function called_so parameters result body ∷ declarations) earlier done reached are_kinded_from =
      let block : Block = function_block callees parameters (kind_of_type result) body in
      let callee : Callee = declared_callee number called_so parameters result in
      passes_next number earlier done block (blocks_from (callee ∷ callees) (number + 1) declarations) reached.counted reached.whole
      (function_fits basin all number callees parameters (kind_of_type result) body
      (calls_fit (scope_of basin all number block) callees reached.callable) are_kinded_from.0)
      (λ befores_there. blocks_fit (callee ∷ callees) (number + 1) declarations (earlier ++ block ∷ []) (done ++ befores_there ∷ [])
      (behind_function all callees number called_so parameters result body declarations earlier reached) are_kinded_from.1)

pub compiled_code_fits : (basin : Draft) (rules : List Declared) → AreKinded basin rules → rule_count rules ≤ 200 → function_count rules ≤ 200
    → AreFit basin (translate rules)
compiled_code_fits basin rules kinded few_rules few_functions =
    let passes_so = blocks_fit basin (translate rules) (few_blocks rules few_rules few_functions) predefined_callees 1 rules [] []
    (reached_first rules) kinded in
    ap (λ (judged : Result (List (List Before)) Refusal). refusal_in_result judged) passes_so.1
