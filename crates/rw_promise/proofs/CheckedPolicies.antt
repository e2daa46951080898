-- The budgets of a policy's rules, and those of a ruleset's code.
use Rattle.rw_commands.proofs.Common.{Bool, Declared, IsSome, List, None, Option, Some, [], ap, arith, counts_line, declaration_from, false, for_each}
use Rattle.rw_commands.proofs.Common.{function, if◌then◌else◌, length, line_if, nat_tests, option_map, refl, rule, rules_in, subst, suc, sym, zero, ℕ}
use Rattle.rw_commands.proofs.Common.{◌++◌, ◌+◌, ◌-◌, ◌<◌, ◌==◌, ◌∙◌, ◌∷◌, ◌≡◌, ◌≤◌}
use Rattle.rw_base.proofs.Common.{option_and_then, slice_get}
use Rattle.rw_model.proofs.Common.{Draft, numbered-known}
use Rattle.rw_model.specs.Objects.{numbered}
use Rattle.rpl_tree.specs.Budget.{budget_of}
use Rattle.rpl_tree.specs.Kinds.{kind_of_type}
use Rattle.rpl_tree.specs.Mean.{param_kinds}
use Rattle.rpl_tree.specs.Tree.{Parameter, TypeName}
use Rattle.rpl_tree.specs.Bounds.{function_count, rule_count}
use Rattle.rpl_code.specs.declared.block.Block.{Block}
use Rattle.rpl_code.specs.declared.block.BlockHead.TheVariants.{Rule}
use Rattle.rpl_verify.specs.Fits.{count_alike}
use Rattle.rpl_verify.specs.Verified.{function_head, rules_from}
use Rattle.rpl_verify.proofs.Common.{rule_from}
use Rattle.rpl_verify.proofs.VerifiedFacts.{each as budget_each, length-rules, rule_is}
use Rattle.rpl_compile.specs.Budgets.{budgets_from, code_budgets_of}
use Rattle.rpl_compile.specs.Translate.{Callee, blocks_from, predefined_callees, translate}
use Rattle.rw_commands.specs.Budgets.{budget_in, check_text}
use Rattle.rw_commands.specs.Policy.{PolicyFile, Ruleset, Code, IsPolicyFileOf}
use Rattle.rw_commands.proofs.BudgetLemmas.{is_declared, its_block}

-- ---- each rule has budgets

is_there : {A B : Type 0} (f : A → B) (o : Option A) → IsSome o → IsSome (option_map f o)
is_there f None there = absurd cc
is_there f (Some x) there = refl

got : {A : Type 0} (xs : List A) (k : ℕ) → k < length xs → (x : A) × (slice_get xs k ≡ Some x)
got [] k lt = absurd (omega (arith, lt))
got (x ∷ xs) zero lt = (x, refl)
got (x ∷ xs) (suc k) lt = got xs k (omega (arith, lt))

block_of : (blocks : List Block) (number : ℕ) → 1 ≤ number → number ≤ count_alike Rule blocks → (b : ℕ) × (rule_from 1 blocks number ≡ Some b)
block_of blocks zero low high = absurd (omega (arith, low))
block_of blocks (suc r) low high =
    let many = length-rules 1 blocks in
    let there = got (rules_from 1 blocks) r (omega (arith, many, high)) in
    (there.0, rule_is 1 blocks r ∙ there.1)

pub each : (as_code : Bool) (basin : Draft) (text : List ℕ) (policy : PolicyFile) (number : ℕ)
    → IsPolicyFileOf as_code basin text policy → 1 ≤ number → number ≤ rules_in policy → IsSome (budget_in policy number)
each as_code basin text (Ruleset rules) number is low high = is_there (budget_of rules) _ (is_declared rules number low high)
each as_code basin text (Code blocks budgets) number is low high =
    let block = block_of blocks number low high in
    let within = its_block blocks number block.0 block.1 in
    let many = budget_each basin blocks budgets is.1.accepted in
    let there = got budgets (block.0 - 1) (omega (arith, within.0, within.1, many)) in
    let is_its : budget_in (Code blocks budgets) number ≡ Some there.0 =
    ap (option_and_then (numbered budgets)) block.1 ∙ numbered-known budgets block.0 within.0 ∙ there.1 in
    subst IsSome (sym is_its) refl

-- ---- those of a ruleset are those of its code

-- the callees behind a function
abbrev and_callee : ℕ → List ℕ → List Parameter → TypeName → List Callee → List Callee
and_callee number f params result callees =
    record {
      head = record { name = f; takes = param_kinds params; result = kind_of_type result };
      block = Some number;
    } ∷ callees

rules_alike : (callees : List Callee) (number : ℕ) (ds : List Declared) → rule_count ds ≡ count_alike Rule (blocks_from callees number ds)
rules_alike callees number [] = refl
rules_alike callees number (rule f body ∷ ds) = let rest = rules_alike callees (number + 1) ds in omega (arith, rest)
rules_alike callees number (function f params result body ∷ ds) = rules_alike (and_callee number f params result callees) (number + 1) ds

functions_alike : (callees : List Callee) (number : ℕ) (ds : List Declared)
    → function_count ds ≡ count_alike function_head (blocks_from callees number ds)
functions_alike callees number [] = refl
functions_alike callees number (rule f body ∷ ds) = functions_alike callees (number + 1) ds
functions_alike callees number (function f params result body ∷ ds) =
    let rest = functions_alike (and_callee number f params result callees) (number + 1) ds in omega (arith, rest)

-- the block of a rule has its declaration's number
block_is : (callees : List Callee) (number place : ℕ) (ds : List Declared) (r : ℕ) → place ≡ number
    → rule_from place (blocks_from callees number ds) r ≡ declaration_from number ds r
block_is callees number place [] r same = refl
block_is callees number place (rule f body ∷ ds) zero same =
    let on = block_is callees (number + 1) (suc place) ds zero (omega (arith, same)) in on ∙ none (number + 1) ds
  where
    none : (k : ℕ) (ds : List Declared) → declaration_from k ds zero ≡ None
    none k [] = refl
    none k (rule f body ∷ ds) = refl
    none k (function f params result body ∷ ds) = none (k + 1) ds
block_is callees number place (rule f body ∷ ds) (suc zero) same = ap Some same
block_is callees number place (rule f body ∷ ds) (suc (suc r)) same =
    let e : (suc (suc r) == 1) ≡ false = grind (arith, nat_tests) in
    let z : suc (suc r) - 1 ≡ suc r = omega arith in
    let rest : List Block = blocks_from callees (number + 1) ds in
    ap (λ (t : Bool). if t then Some place else rule_from (suc place) rest (suc (suc r) - 1)) e
    ∙ ap (rule_from (suc place) rest) z ∙ block_is callees (number + 1) (suc place) ds (suc r) (omega (arith, same))
block_is callees number place (function f params result body ∷ ds) r same =
    block_is (and_callee number f params result callees) (number + 1) (suc place) ds r (omega (arith, same))

blocks_each : (callees : List Callee) (number : ℕ) (ds : List Declared) → length (blocks_from callees number ds) ≡ length ds
blocks_each callees number [] = refl
blocks_each callees number (rule f body ∷ ds) = ap suc (blocks_each callees (number + 1) ds)
blocks_each callees number (function f params result body ∷ ds) =
    ap suc (blocks_each (and_callee number f params result callees) (number + 1) ds)

budget_at : (rules : List Declared) (number k : ℕ) (ds : List Declared) → k < length ds
    → slice_get (budgets_from rules number ds) k ≡ Some (budget_of rules (number + k))
budget_at rules number k [] lt = absurd (omega (arith, lt))
budget_at rules number zero (d ∷ ds) lt = let z : number ≡ number + 0 = omega arith in ap (λ n. Some (budget_of rules n)) z
budget_at rules number (suc k) (d ∷ ds) lt =
    let z : number + 1 + k ≡ number + suc k = omega arith in
    budget_at rules (number + 1) k ds (omega (arith, lt)) ∙ ap (λ n. Some (budget_of rules n)) z

budget_is : (rules : List Declared) (r : ℕ) (o : Option ℕ) → rule_from 1 (translate rules) r ≡ o
    → option_map (budget_of rules) o ≡ option_and_then (numbered (code_budgets_of rules)) o
budget_is rules r None is = refl
budget_is rules r (Some n) is =
    let within = its_block (translate rules) r n is in
    let many = blocks_each predefined_callees 1 rules in
    let z : 1 + (n - 1) ≡ n = omega (arith, within.0) in
    sym (numbered-known (code_budgets_of rules) n within.0
    ∙ budget_at rules 1 (n - 1) rules (omega (arith, within.0, within.1, many)) ∙ ap (λ m. Some (budget_of rules m)) z)

budgets_alike : (rules : List Declared) (r : ℕ) → budget_in (Ruleset rules) r ≡ budget_in (Code (translate rules) (code_budgets_of rules)) r
budgets_alike rules r =
    ap (option_map (budget_of rules)) (sym (block_is predefined_callees 1 1 rules r refl))
    ∙ budget_is rules r (rule_from 1 (translate rules) r) refl

pub alike : (rules : List Declared) → check_text (Ruleset rules) ≡ check_text (Code (translate rules) (code_budgets_of rules))
alike rules =
    let rules_are = rules_alike predefined_callees 1 rules in
    let functions_are = functions_alike predefined_callees 1 rules in
    λ i. counts_line (rules_are i) (functions_are i) ++ for_each (λ r. line_if r (budgets_alike rules r i)) (rules_are i)
