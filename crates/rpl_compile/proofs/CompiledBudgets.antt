-- Code of a ruleset that is accepted is accepted, with the budgets of its declarations.
use Rattle.rpl_compile.proofs.Common.{Acts, AreDeclared, AreKindedFrom, Before, Block, BlockHead, Bool, Budget, Callee, Costed, Costly, Declared}
use Rattle.rpl_compile.proofs.Common.{Draft, Err, Head, IsTyped, IsWithinLimits, List, Misplaced, None, Ok, Option, Parameter, Price, Result}
use Rattle.rpl_compile.proofs.Common.{Signature, Some, TooCostly, TooDeep, TooManyPuts, TooManyReads, Tree, TypeName, VerifyKind, [], accepted_code}
use Rattle.rpl_compile.proofs.Common.{acts_local_kinds, and_function, and_true, ap, append-nil, append_assoc, ap₂, arith, at_place, block_ruling}
use Rattle.rpl_compile.proofs.Common.{blocks_from, budget, budget_by, budget_of, budgets_from, callee_heads, capped, code_budgets_of, cost_refusal}
use Rattle.rpl_compile.proofs.Common.{costed_heads, costs, costs_from, each_block, false, function, function_block, function_count, heads_of, height}
use Rattle.rpl_compile.proofs.Common.{height_of_acts, if◌then◌else◌, in_block, is_affordable, kind_of_type, length, length-append, limits}
use Rattle.rpl_compile.proofs.Common.{local_kinds, max, most_of_acts, most_of_body, nat_le, nat_lt, nat_tests, numbered, numbered_by, param_kinds}
use Rattle.rpl_compile.proofs.Common.{param_names, part_of, predefined_callees, predefined_costs, price_of_looks, price_of_puts, price_of_steps, refl}
use Rattle.rpl_compile.proofs.Common.{rule, rule_block, rule_count, ruling, scope_of, slice_get, slice_index, subst, suc, sym, then_do, translate}
use Rattle.rpl_compile.proofs.Common.{true, unless, verified, weight, weights, with_budgets, within_limits, words_from, words_of_rules, ℕ, ◌&&◌, ◌++◌}
use Rattle.rpl_compile.proofs.Common.{◌+◌, ◌-◌, ◌∙◌, ◌∷◌, ◌≡◌, ◌≤◌}
use Rattle.rpl_compile.proofs.Placing.{has_behind}
use Rattle.rpl_compile.proofs.TypedKinds.{typed_is_kinded}
use Rattle.rpl_compile.proofs.Calling.{AreCallable, calls_fit}
use Rattle.rpl_compile.proofs.CallCosts.{AreCosted, call_count, call_part, costed_later, predefined_costed, predefined_free}
use Rattle.rpl_compile.proofs.Fitting.{BlockFits, function_fits, rule_fits}
use Rattle.rpl_compile.proofs.CompiledFits.{AreFew, Reached, befores_found, behind_function, behind_rule, declared_callee, few_blocks, reached_first}
use Rattle.rpl_compile.proofs.BlockBudgets.{AllCosted, Comes, comes_to, function_comes, rule_comes}

-- ---- budgets that keep within the limits

unrefused : (its_budget : Budget) → cost_refusal its_budget ≡ None → is_affordable its_budget ≡ true
unrefused its_budget none = by (is_affordable its_budget) refl none
  where
    by : (test : Bool) → is_affordable its_budget ≡ test → (if test then None else Some TooCostly) ≡ None → is_affordable its_budget ≡ true
    by true same none = same
    by false same none = absurd (cc none)

at_most : (m n : ℕ) → nat_le m n ≡ true → m ≤ n
at_most m n holds = grind (arith, nat_tests, holds)

not_above : (m n : ℕ) → m ≤ n → nat_lt n m ≡ false
not_above m n fewer = grind (arith, nat_tests, fewer)

pub limited : (its_budget : Budget) → cost_refusal its_budget ≡ None → IsWithinLimits its_budget
limited its_budget none =
    let count_looks_puts : Bool =
    nat_le its_budget.count limits.count && nat_le its_budget.looks limits.looks && nat_le its_budget.puts limits.puts in
    let one = and_true count_looks_puts (nat_le its_budget.words limits.words) (unrefused its_budget none) in
    let two = and_true (nat_le its_budget.count limits.count && nat_le its_budget.looks limits.looks) (nat_le its_budget.puts limits.puts) one.0 in
    let three = and_true (nat_le its_budget.count limits.count) (nat_le its_budget.looks limits.looks) two.0 in
    record {
      count = at_most its_budget.count limits.count three.0;
      looks = at_most its_budget.looks limits.looks three.1;
      puts = at_most its_budget.puts limits.puts two.1;
      words = at_most its_budget.words limits.words one.1;
    }

passes_limits : (its_budget : Budget) → IsWithinLimits its_budget → within_limits its_budget ≡ Ok its_budget
passes_limits its_budget is_within_limits =
    unless (nat_lt limits.count its_budget.count) (Err Costly) _ (not_above its_budget.count limits.count is_within_limits.count)
    ∙ unless (nat_lt limits.looks its_budget.looks) (Err TooManyReads) _ (not_above its_budget.looks limits.looks is_within_limits.looks)
    ∙ unless (nat_lt limits.puts its_budget.puts) (Err TooManyPuts) _ (not_above its_budget.puts limits.puts is_within_limits.puts)
    ∙ unless (nat_lt limits.words its_budget.words) (Err TooDeep) _ (not_above its_budget.words limits.words is_within_limits.words)

-- ---- on the way through a ruleset

-- the costs that are left are those of the declarations that are left
abbrev AreLeft : ℕ → List ℕ → List ℕ → Type 0
AreLeft passed all rest = (further : ℕ) → slice_index all (passed + further) ≡ slice_index rest further

left_next : (passed own : ℕ) (all rest : List ℕ) → AreLeft passed all (own ∷ rest) → AreLeft (passed + 1) all rest
left_next passed own all rest left_so further = let same_place : passed + 1 + further ≡ passed + suc further = omega arith in
    ap (slice_index all) same_place ∙ left_so (suc further)

pub record Walked (rules : List Declared) (all : List Block) (callees : List Callee) (number : ℕ) (declarations : List Declared)
    (earlier : List Block)
    (done : List Budget)
    (steps looks puts deep : List Costed) : Type 0 where
  pub reached : Reached all callees number declarations earlier
  pub long : length done ≡ length earlier
  pub costed : AllCosted done callees steps looks puts deep
  pub left_steps : (j : ℕ)
      → slice_index (costs price_of_steps rules) (length earlier + j) ≡ slice_index (costs_from price_of_steps steps declarations) j
  pub left_looks : (j : ℕ)
      → slice_index (costs price_of_looks rules) (length earlier + j) ≡ slice_index (costs_from price_of_looks looks declarations) j
  pub left_puts : (j : ℕ) → slice_index (costs price_of_puts rules) (length earlier + j) ≡ slice_index (costs_from price_of_puts puts declarations) j
  pub left_words : (j : ℕ) → slice_index (words_of_rules rules) (length earlier + j) ≡ slice_index (words_from deep declarations) j

-- a declaration of a number costs so much
pub record Costs (rules : List Declared) (number count looks puts most : ℕ) : Type 0 where
  pub is : budget_of rules number
      ≡ budget (capped limits.count count) (capped limits.looks looks) (capped limits.puts puts) (capped limits.words most)
  pub within : IsWithinLimits (budget_of rules number)

here_is : (all : List ℕ) (passed number own : ℕ) → number ≡ suc passed → slice_index all (passed + 0) ≡ own → slice_index all (number - 1) ≡ own
here_is all passed number own number_is own_there = let same_place : number - 1 ≡ passed + 0 = omega (arith, number_is) in
    ap (slice_index all) same_place ∙ own_there

costs_here : (rules : List Declared) (passed number count looks puts most : ℕ) → number ≡ suc passed → cost_refusal (budget_of rules number) ≡ None
    → slice_index (costs price_of_steps rules) (passed + 0) ≡ count → slice_index (costs price_of_looks rules) (passed + 0) ≡ looks
    → slice_index (costs price_of_puts rules) (passed + 0) ≡ puts → slice_index (words_of_rules rules) (passed + 0) ≡ most
    → Costs rules number count looks puts most
costs_here rules passed number count looks puts most number_is cheap steps_there looks_there puts_there words_there = record {
  is =
      let steps_here = here_is (costs price_of_steps rules) passed number count number_is steps_there in
      let looks_here = here_is (costs price_of_looks rules) passed number looks number_is looks_there in
      let puts_here = here_is (costs price_of_puts rules) passed number puts number_is puts_there in
      let words_here = here_is (words_of_rules rules) passed number most number_is words_there in
      ap₂ (λ x y. budget (capped limits.count x) (capped limits.looks y) (capped limits.puts (slice_index (costs price_of_puts rules) (number - 1)))
      (capped limits.words (slice_index (words_of_rules rules) (number - 1)))) steps_here looks_here
      ∙ ap₂ (λ x y. budget (capped limits.count count) (capped limits.looks looks) (capped limits.puts x) (capped limits.words y)) puts_here
      words_here;
  within = limited (budget_of rules number) cheap;
}

uncapped : (limit count capped_count : ℕ) → capped_count ≡ capped limit count → capped_count ≤ limit → capped_count ≡ count
uncapped limit count capped_count m_is fewer = omega (arith, m_is, fewer)

-- what the budget of the declaration has, exactly
pub record Exact (its_budget : Budget) (count looks puts most : ℕ) : Type 0 where
  pub by_count : its_budget.count ≡ count
  pub by_looks : its_budget.looks ≡ looks
  pub by_puts : its_budget.puts ≡ puts
  pub by_words : its_budget.words ≡ most

exact : (rules : List Declared) (number count looks puts most : ℕ) → Costs rules number count looks puts most
    → Exact (budget_of rules number) count looks puts most
exact rules number count looks puts most costs_so =
    let own_budget : Budget = budget_of rules number in
    record {
      by_count = uncapped limits.count count own_budget.count (ap (λ (its_budget : Budget). its_budget.count) costs_so.is) costs_so.within.count;
      by_looks = uncapped limits.looks looks own_budget.looks (ap (λ (its_budget : Budget). its_budget.looks) costs_so.is) costs_so.within.looks;
      by_puts = uncapped limits.puts puts own_budget.puts (ap (λ (its_budget : Budget). its_budget.puts) costs_so.is) costs_so.within.puts;
      by_words = uncapped limits.words most own_budget.words (ap (λ (its_budget : Budget). its_budget.words) costs_so.is) costs_so.within.words;
    }

-- ---- what calls cost, with one budget more

last_numbered : (done : List Budget) (own_budget : Budget) (number : ℕ) → number ≡ suc (length done)
    → numbered (done ++ own_budget ∷ []) number ≡ Some own_budget
last_numbered done own_budget number number_is =
    let before_it : number - 1 ≡ length done = omega (arith, number_is) in
    numbered_by (done ++ own_budget ∷ []) number own_budget
    (ap (slice_get (done ++ own_budget ∷ [])) before_it ∙ (has_behind done (own_budget ∷ [])).0) (omega (arith, number_is))

count_later : (all : List BlockHead) (number : ℕ) (done : List Budget) (own_budget : Budget) (callees : List Callee) (functions : List Costed)
    → number ≡ suc (length done)
    → AreCallable all number callees → AreCosted (call_count done) callees functions
    → AreCosted (call_count (done ++ own_budget ∷ [])) callees functions
count_later all number done own_budget callees functions number_is are_callable are_costed =
    costed_later all number done (own_budget ∷ []) call_count
    (λ head m e. ap (λ (found : Option Budget). weights head.takes + 1 + part_of (λ (its_budget : Budget). its_budget.count) found) e)
    (λ head. refl) number_is callees functions are_callable are_costed

part_later : (part : Budget → ℕ) (all : List BlockHead) (number : ℕ) (done : List Budget) (own_budget : Budget) (callees : List Callee)
    (functions : List Costed) → number ≡ suc (length done)
    → AreCallable all number callees → AreCosted (call_part part done) callees functions
    → AreCosted (call_part part (done ++ own_budget ∷ [])) callees functions
part_later part all number done own_budget callees functions number_is are_callable are_costed =
    costed_later all number done (own_budget ∷ []) (call_part part) (λ head m e. ap (part_of part) e)
    (λ head. refl) number_is callees functions are_callable are_costed

all_later : (all : List BlockHead) (number : ℕ) (done : List Budget) (own_budget : Budget) (callees : List Callee)
    (steps looks puts deep : List Costed)
    → number ≡ suc (length done)
    → AreCallable all number callees → AllCosted done callees steps looks puts deep
    → AllCosted (done ++ own_budget ∷ []) callees steps looks puts deep
all_later all number done own_budget callees steps looks puts deep number_is are_callable all_costed = record {
  by_steps = count_later all number done own_budget callees steps number_is are_callable all_costed.by_steps;
  by_looks = part_later
      (λ (its_budget : Budget). its_budget.looks) all number done own_budget callees looks number_is are_callable all_costed.by_looks;
  by_puts = part_later (λ (its_budget : Budget). its_budget.puts) all number done own_budget callees puts number_is are_callable all_costed.by_puts;
  by_words = part_later
      (λ (its_budget : Budget). its_budget.words) all number done own_budget callees deep number_is are_callable all_costed.by_words;
}

-- ---- behind a declaration

one_further : (earlier : List Block) (block : Block) (all rest : List ℕ) → AreLeft (length earlier + 1) all rest
    → AreLeft (length (earlier ++ block ∷ [])) all rest
one_further earlier block all rest are_left = subst (λ n. AreLeft n all rest) (sym (length-append earlier (block ∷ []))) are_left

one_longer : (earlier : List Block) (block : Block) (done : List Budget) (own_budget : Budget) → length done ≡ length earlier
    → length (done ++ own_budget ∷ []) ≡ length (earlier ++ block ∷ [])
one_longer earlier block done own_budget done_counted =
    omega (arith, done_counted, length-append earlier (block ∷ []), length-append done (own_budget ∷ []))

count_is : (number : ℕ) (earlier : List Block) (done : List Budget) → number ≡ suc (length earlier) → length done ≡ length earlier
    → number ≡ suc (length done)
count_is number earlier done number_is done_counted = omega (arith, number_is, done_counted)

module _ (rules : List Declared) (all : List Block) (callees : List Callee) (number : ℕ) (declarations : List Declared) (earlier : List Block)
    (done : List Budget)
    (steps looks puts deep : List Costed) (own_budget : Budget) where
  pub walked_rule : (function_name : List ℕ) (body : Acts)
      → Walked rules all callees number (rule function_name body ∷ declarations) earlier done steps looks puts deep
      → Walked rules all callees (number + 1) declarations (earlier ++ rule_block callees body ∷ []) (done ++ own_budget ∷ []) steps looks puts deep
  walked_rule function_name body walked =
      let block : Block = rule_block callees body in
      let passed : ℕ = length earlier in
      record {
        reached = behind_rule all callees number function_name body declarations earlier walked.reached;
        long = one_longer earlier block done own_budget walked.long;
        costed = all_later (heads_of all) number done own_budget callees steps looks puts deep
            (count_is number earlier done walked.reached.counted walked.long) walked.reached.callable walked.costed;
        left_steps = one_further earlier block (costs price_of_steps rules) (costs_from price_of_steps steps declarations)
            (left_next passed (most_of_acts price_of_steps steps [] body) (costs price_of_steps rules)
            (costs_from price_of_steps steps declarations) walked.left_steps);
        left_looks = one_further earlier block (costs price_of_looks rules) (costs_from price_of_looks looks declarations)
            (left_next passed (most_of_acts price_of_looks looks [] body) (costs price_of_looks rules)
            (costs_from price_of_looks looks declarations) walked.left_looks);
        left_puts = one_further earlier block (costs price_of_puts rules) (costs_from price_of_puts puts declarations)
            (left_next passed (most_of_acts price_of_puts puts [] body) (costs price_of_puts rules)
            (costs_from price_of_puts puts declarations) walked.left_puts);
        left_words = one_further earlier block (words_of_rules rules) (words_from deep declarations)
            (left_next passed (weights (acts_local_kinds (costed_heads deep) [] body) + height_of_acts deep [] body) (words_of_rules rules)
            (words_from deep declarations) walked.left_words);
      }

  module _ (function_name : List ℕ) (parameters : List Parameter) (result : TypeName) (body : Tree) where
    abbrev pub head_here : Head
    head_here = record { name = function_name; takes = param_kinds parameters; result = kind_of_type result }

    abbrev pub known_by : Price → List Costed → Costed
    known_by price functions = record {
      head = head_here;
      most = price.step (weights (param_kinds parameters) + 1) + most_of_body price functions (param_names parameters) (kind_of_type result) body;
    }

    abbrev pub words_inside : ℕ
    words_inside =
        weights (param_kinds parameters)
        + (weights (local_kinds (costed_heads deep) (param_names parameters) body) + max (height deep (param_names parameters) body)
        (weight (kind_of_type result)))

    abbrev pub known_words : Costed
    known_words = record { head = head_here; most = words_inside }

    pub walked_function : Walked rules all callees number
        (function function_name parameters result body ∷ declarations) earlier done steps looks puts deep
        → Exact own_budget (most_of_body price_of_steps steps (param_names parameters) (kind_of_type result) body)
        (most_of_body price_of_looks looks (param_names parameters) (kind_of_type result) body)
        (most_of_body price_of_puts puts (param_names parameters) (kind_of_type result) body) words_inside
        → Walked rules all (declared_callee number function_name parameters result ∷ callees) (number + 1) declarations
        (earlier ++ function_block callees parameters (kind_of_type result) body ∷ [])
        (done ++ own_budget ∷ []) (known_by price_of_steps steps ∷ steps) (known_by price_of_looks looks ∷ looks) (known_by price_of_puts puts ∷ puts)
        (known_words ∷ deep)
    walked_function walked exact_so =
        let block : Block = function_block callees parameters (kind_of_type result) body in
        let passed : ℕ = length earlier in
        let counted = count_is number earlier done walked.reached.counted walked.long in
        let later = all_later (heads_of all) number done own_budget callees steps looks puts deep counted walked.reached.callable walked.costed in
        let at = last_numbered done own_budget number counted in
        let takes : ℕ = weights (param_kinds parameters) in
        let of_count : part_of (λ (its_budget : Budget). its_budget.count) (numbered (done ++ own_budget ∷ []) number) ≡ own_budget.count =
        ap (part_of (λ (its_budget : Budget). its_budget.count)) at in
        let of_looks : part_of (λ (its_budget : Budget). its_budget.looks) (numbered (done ++ own_budget ∷ []) number) ≡ own_budget.looks =
        ap (part_of (λ (its_budget : Budget). its_budget.looks)) at in
        let of_puts : part_of (λ (its_budget : Budget). its_budget.puts) (numbered (done ++ own_budget ∷ []) number) ≡ own_budget.puts =
        ap (part_of (λ (its_budget : Budget). its_budget.puts)) at in
        let of_words : part_of (λ (its_budget : Budget). its_budget.words) (numbered (done ++ own_budget ∷ []) number) ≡ own_budget.words =
        ap (part_of (λ (its_budget : Budget). its_budget.words)) at in
        let count_exact = exact_so.by_count in let looks_exact = exact_so.by_looks in let puts_exact = exact_so.by_puts in
        record {
          reached = behind_function all callees number function_name parameters result body declarations earlier walked.reached;
          long = one_longer earlier block done own_budget walked.long;
          costed = record {
            by_steps = (refl, omega (arith, of_count, count_exact), later.by_steps);
            by_looks = (refl, omega (arith, of_looks, looks_exact), later.by_looks);
            by_puts = (refl, omega (arith, of_puts, puts_exact), later.by_puts);
            by_words = (refl, of_words ∙ exact_so.by_words, later.by_words);
          };
          left_steps =
              one_further earlier block (costs price_of_steps rules) (costs_from price_of_steps (known_by price_of_steps steps ∷ steps) declarations)
              (left_next passed (most_of_body price_of_steps steps (param_names parameters) (kind_of_type result) body) (costs price_of_steps rules)
              (costs_from price_of_steps (known_by price_of_steps steps ∷ steps) declarations) walked.left_steps);
          left_looks =
              one_further earlier block (costs price_of_looks rules) (costs_from price_of_looks (known_by price_of_looks looks ∷ looks) declarations)
              (left_next passed (most_of_body price_of_looks looks (param_names parameters) (kind_of_type result) body) (costs price_of_looks rules)
              (costs_from price_of_looks (known_by price_of_looks looks ∷ looks) declarations) walked.left_looks);
          left_puts =
              one_further earlier block (costs price_of_puts rules) (costs_from price_of_puts (known_by price_of_puts puts ∷ puts) declarations)
              (left_next passed (most_of_body price_of_puts puts (param_names parameters) (kind_of_type result) body) (costs price_of_puts rules)
              (costs_from price_of_puts (known_by price_of_puts puts ∷ puts) declarations) walked.left_puts);
          left_words = one_further earlier block (words_of_rules rules) (words_from (known_words ∷ deep) declarations)
              (left_next passed words_inside (words_of_rules rules) (words_from (known_words ∷ deep) declarations) walked.left_words);
        }

-- ---- all declarations

module _ (basin : Draft) (rules : List Declared) (all : List Block) (few : AreFew all) where
  -- a block whose budget is that of its declaration passes
  block_passes : (number : ℕ) (earlier rest : List Block) (done : List Budget) (block : Block) (count looks puts most : ℕ)
      → number ≡ suc (length earlier)
      → earlier ++ block ∷ rest ≡ all
      → (fits : BlockFits basin all number block) → Comes (scope_of basin all number block) block.lines fits.0 done count looks puts most
      → Costs rules number count looks puts most
      → block_ruling basin all earlier done block ≡ Ok (budget_of rules number)
  block_passes number earlier rest done block count looks puts most number_is whole_is fits comes cost =
      let judge : ℕ → List Before → Result Budget Misplaced =
      λ m befores_there.
      at_place (length block.lines) (within_limits (budget_by (scope_of basin all m block) done befores_there block.lines)) (λ looks. Ok looks) in
      ap (λ (judged : Result (List Before) Misplaced). then_do judged (judge (suc (length earlier))))
      (befores_found basin all number earlier rest block few number_is whole_is fits)
      ∙ ap (λ m. judge m fits.0) (sym number_is)
      ∙ ap (λ (own_budget : Budget). at_place (length block.lines) (within_limits own_budget) (λ looks. Ok looks))
      (comes_to (scope_of basin all number block) block.lines fits.0 done count looks puts most comes ∙ sym cost.is)
      ∙ ap (λ (judged : Result Budget VerifyKind). at_place (length block.lines) judged (λ looks. Ok looks))
      (passes_limits (budget_of rules number) cost.within)

  -- then the rest does
  with_rest : (number : ℕ) (earlier : List Block) (done : List Budget) (block : Block) (rest : List Block) (others : List Budget)
      → block_ruling basin all earlier done block ≡ Ok (budget_of rules number)
      → each_block (block_ruling basin all) (earlier ++ block ∷ []) (done ++ budget_of rules number ∷ []) rest
      ≡ Ok ((done ++ budget_of rules number ∷ []) ++ others)
      → each_block (block_ruling basin all) earlier done (block ∷ rest) ≡ Ok (done ++ budget_of rules number ∷ others)
  with_rest number earlier done block rest others own later =
      ap (λ (judged : Result Budget Misplaced). in_block (suc (length earlier)) judged
      (λ b. each_block (block_ruling basin all) (earlier ++ block ∷ []) (done ++ b ∷ []) rest)) own
      ∙ later ∙ ap (λ (budgets : List Budget). Ok budgets) (append_assoc done (budget_of rules number ∷ []) others)

  all_pass : (callees : List Callee) (number : ℕ) (signatures : List Signature) (declarations : List Declared) (earlier : List Block)
      (done : List Budget)
      (steps looks puts deep : List Costed)
      → Walked rules all callees number declarations earlier done steps looks puts deep → AreDeclared basin rules number signatures declarations
      → AreKindedFrom basin (callee_heads callees) declarations
      → each_block (block_ruling basin all) earlier done (blocks_from callees number declarations)
      ≡ Ok (done ++ budgets_from rules number declarations)
  all_pass callees number signatures [] earlier done steps looks puts deep walked are_declared are_kinded_from =
      ap (λ (budgets : List Budget). Ok budgets) (sym (append-nil done))
  all_pass callees number signatures (rule called_so body ∷ declarations) earlier done steps looks puts deep walked are_declared are_kinded_from =
      let block : Block = rule_block callees body in
      let reached_so = walked.reached in
      let rest : List Block = blocks_from callees (number + 1) declarations in
      let own_budget : Budget = budget_of rules number in
      let fits = rule_fits basin all number callees body
      (calls_fit (scope_of basin all number block) callees reached_so.callable) are_kinded_from.0 in
      let comes =
      rule_comes basin all number callees reached_so.callable done steps looks puts deep walked.costed body fits.0 fits.1 are_kinded_from.0 in
      let cost = costs_here rules (length earlier) number _ _ _ _ reached_so.counted are_declared.1 (walked.left_steps 0) (walked.left_looks 0)
      (walked.left_puts 0) (walked.left_words 0) in
      with_rest number earlier done block rest (budgets_from rules (number + 1) declarations)
      (block_passes number earlier rest done block _ _ _ _ reached_so.counted reached_so.whole fits comes cost)
      (all_pass callees (number + 1) (and_function (rule called_so body) signatures) declarations (earlier ++ block ∷ [])
      (done ++ own_budget ∷ []) steps looks puts deep
      (walked_rule rules all callees number declarations earlier done steps looks puts deep own_budget called_so body walked) are_declared.2
      are_kinded_from.1)
  all_pass callees number signatures
      (function called_so parameters result body ∷ declarations) earlier done steps looks puts deep walked are_declared are_kinded_from =
      let kind = kind_of_type result in
      let block : Block = function_block callees parameters kind body in
      let callee : Callee = declared_callee number called_so parameters result in
      let reached_so = walked.reached in
      let rest : List Block = blocks_from (callee ∷ callees) (number + 1) declarations in
      let own_budget : Budget = budget_of rules number in
      let fits = function_fits basin all number callees parameters kind body
      (calls_fit (scope_of basin all number block) callees reached_so.callable) are_kinded_from.0 in
      let comes =
      function_comes basin all number callees reached_so.callable done steps looks puts deep walked.costed parameters kind body fits.0 fits.1
      are_kinded_from.0 in
      let cost = costs_here rules (length earlier) number _ _ _ _ reached_so.counted are_declared.1 (walked.left_steps 0) (walked.left_looks 0)
      (walked.left_puts 0) (walked.left_words 0) in
      with_rest number earlier done block rest (budgets_from rules (number + 1) declarations)
      (block_passes number earlier rest done block _ _ _ _ reached_so.counted reached_so.whole fits comes cost)
      (all_pass (callee ∷ callees) (number + 1) (and_function (function called_so parameters result body) signatures) declarations
      (earlier ++ block ∷ [])
      (done ++ own_budget ∷ []) _ _ _ _
      (walked_function rules all callees number declarations earlier done steps looks puts deep own_budget called_so parameters result body walked
      (exact rules number _ _ _ _ cost)) are_declared.2
      are_kinded_from.1)

from_first : (all : List ℕ) → AreLeft 0 all all
from_first all further = let same_place : 0 + further ≡ further = omega arith in ap (slice_index all) same_place

pub compiled_budgets : (basin : Draft) (rules : List Declared) → IsTyped basin rules → rule_count rules ≤ 200 → function_count rules ≤ 200
    → ruling basin (translate rules) ≡ Ok (code_budgets_of rules)
compiled_budgets basin rules typed few_rules few_functions =
    let first : Walked rules (translate rules) predefined_callees 1 rules [] [] (predefined_costs 1) (predefined_costs 0) (predefined_costs 0)
    (predefined_costs 0) = record {
      reached = reached_first rules;
      long = refl;
      costed = record {
        by_steps = predefined_costed [];
        by_looks = predefined_free (λ (its_budget : Budget). its_budget.looks) [];
        by_puts = predefined_free (λ (its_budget : Budget). its_budget.puts) [];
        by_words = predefined_free (λ (its_budget : Budget). its_budget.words) [];
      };
      left_steps = from_first (costs price_of_steps rules);
      left_looks = from_first (costs price_of_looks rules);
      left_puts = from_first (costs price_of_puts rules);
      left_words = from_first (words_of_rules rules);
    } in
    all_pass basin rules (translate rules) (few_blocks rules few_rules few_functions) predefined_callees 1 [] rules [] [] (predefined_costs 1)
    (predefined_costs 0) (predefined_costs 0)
    (predefined_costs 0) first typed (typed_is_kinded basin rules typed)

pub compiled_code_is_accepted : (basin : Draft) (rules : List Declared) → IsTyped basin rules → rule_count rules ≤ 200 → function_count rules ≤ 200
    → verified basin (translate rules) ≡ Ok (accepted_code basin rules)
compiled_code_is_accepted basin rules typed few_rules few_functions =
    ap (with_budgets basin (translate rules)) (compiled_budgets basin rules typed few_rules few_functions)
