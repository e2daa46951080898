-- The budget of a declaration's block is what the declaration costs.
use Rattle.rpl_compile.proofs.Common.{Acts, AreKindedActs, Before, Block, Budget, costs_ahead, Callee, Costed, Draft, Head, Instruction, IsKindedBody, Kind}
use Rattle.rpl_compile.proofs.Common.{List, Names, Ok, Option, Parameter, Price, Scope, Tree, words_ahead, [], acts_local_kinds, ap, ap₂, arith, before}
use Rattle.rpl_compile.proofs.Common.{befores, budget, budget_by, call_by, callee_heads, capped, code_kind, code_kinds, costed_heads, function_block}
use Rattle.rpl_compile.proofs.Common.{heads_of, height, height_of_acts, limits, local_kinds, looks_of, max, most_of_acts, most_of_body, names_in}
use Rattle.rpl_compile.proofs.Common.{param_kinds, param_names, parameters_from, price_of_looks, price_of_puts, price_of_steps, puts_of, refl}
use Rattle.rpl_compile.proofs.Common.{reverse, rule_block, scope_of, spots, takes_named, weight, weights, words_at, words_kept, words_of_all, ℕ, ◌++◌}
use Rattle.rpl_compile.proofs.Common.{◌+◌, ◌-◌, ◌∙◌, ◌∷◌, ◌≡◌}
use Rattle.rpl_verify.specs.Budget.{count_of}
use Rattle.rpl_compile.proofs.Placing.{has_all}
use Rattle.rpl_compile.proofs.Counting.{Prices}
use Rattle.rpl_compile.proofs.Costing.{CallsFit}
use Rattle.rpl_compile.proofs.TreeCosts.{words_added}
use Rattle.rpl_compile.proofs.Calling.{AreCallable, IsCallable, call_onward, calls_fit}
use Rattle.rpl_compile.proofs.CallCosts.{AreCosted, CallCost, call_count, call_part, called_cost, costed_same, count_prices, counts_call, looks_call}
use Rattle.rpl_compile.proofs.CallCosts.{looks_prices, puts_call, puts_prices, words_above, words_call}
use Rattle.rpl_compile.proofs.BlockWays.{function_goes, rule_goes}
use Rattle.rpl_compile.proofs.Paying.{paying_account, whole}
use Rattle.rpl_compile.proofs.OfKind.{all_words_coded}
use Rattle.rpl_compile.proofs.LocalFacts.{parameter_names}

-- what the functions cost that can be called, in each of the four measures
pub record AllCosted (budgets : List Budget) (callees : List Callee) (steps looks puts deep : List Costed) : Type 0 where
  pub by_steps : AreCosted (call_count budgets) callees steps
  pub by_looks : AreCosted (call_part (λ (its_budget : Budget). its_budget.looks) budgets) callees looks
  pub by_puts : AreCosted (call_part (λ (its_budget : Budget). its_budget.puts) budgets) callees puts
  pub by_words : AreCosted (call_part (λ (its_budget : Budget). its_budget.words) budgets) callees deep

module _ (scope : Scope) (lines : List Instruction) (befores_there : List Before) (spotted : scope.spots ≡ spots lines)
    (fits : befores scope 0 (before [] []) lines ≡ Ok befores_there)
    (budgets : List Budget) (callees : List Callee) (callable : AreCallable scope.heads scope.number callees) (functions deep : List Costed)
    (by_words : AreCosted (call_part (λ (its_budget : Budget). its_budget.words) budgets) callees deep)
    (pays : Price) (price : Before → Instruction → ℕ) (prices : Prices scope pays price) (cost : CallCost) (costed : AreCosted cost callees functions)
    (at : (here : Before) (function_name : List ℕ) (head : Head) (block : Option ℕ) → IsCallable scope.heads scope.number head block
    → price here (call_by function_name block) ≡ cost head block) where
  pub paying_calls : CallsFit scope lines pays
      (paying_account scope lines befores_there spotted fits budgets pays price prices) callees functions deep
  unfolding paying_account
  paying_calls function_name has place under open_loops =
      let here : Before = before (reverse (code_kinds (takes_named (callee_heads callees) function_name)) ++ under) open_loops in
      let above = called_cost scope.heads scope.number (call_part (λ (its_budget : Budget). its_budget.words) budgets)
      (λ i. words_at scope budgets here i - words_kept scope.locals here) function_name
      (words_call scope budgets here function_name) callees deep callable by_words has in
      let least = words_above scope budgets here function_name callees in
      record {
        fits = calls_fit scope callees callable function_name has place under open_loops;
        goes_on = call_onward callees function_name;
        sum = called_cost scope.heads scope.number cost (price here) function_name (at here function_name) callees functions callable costed has;
        high = omega (arith, above, least);
      }

-- what a block comes to, in each measure
pub record Comes (scope : Scope) (lines : List Instruction) (befores_there : List Before) (budgets : List Budget)
    (count looks puts words : ℕ) : Type 0 where
  pub by_count : costs_ahead scope budgets (count_of scope budgets) lines befores_there 0 ≡ count
  pub by_looks : costs_ahead scope budgets (looks_of scope budgets) lines befores_there 0 ≡ looks
  pub by_puts : costs_ahead scope budgets (puts_of scope budgets) lines befores_there 0 ≡ puts
  pub by_words : words_ahead scope budgets lines befores_there 0 ≡ words

pub comes_to : (scope : Scope) (lines : List Instruction) (befores_there : List Before) (budgets : List Budget) (count looks puts words : ℕ)
    → Comes scope lines befores_there budgets count looks puts words
    → budget_by scope budgets befores_there lines
    ≡ budget (capped limits.count count) (capped limits.looks looks) (capped limits.puts puts) (capped limits.words words)
comes_to scope lines befores_there budgets count looks puts words comes =
    ap₂ (λ a b.
    budget (capped limits.count a) (capped limits.looks b)
    (capped limits.puts (costs_ahead scope budgets (puts_of scope budgets) lines befores_there 0))
    (capped limits.words (words_ahead scope budgets lines befores_there 0))) comes.by_count comes.by_looks
    ∙ ap₂ (λ a b. budget (capped limits.count count) (capped limits.looks looks) (capped limits.puts a) (capped limits.words b)) comes.by_puts
    comes.by_words

module _ (basin : Draft) (all : List Block) (number : ℕ) (callees : List Callee) (callable : AreCallable (heads_of all) number callees)
    (budgets : List Budget)
    (steps looks puts deep : List Costed) (costed : AllCosted budgets callees steps looks puts deep) where
  abbrev steps_heads : callee_heads callees ≡ costed_heads steps
  steps_heads = costed_same (call_count budgets) callees steps costed.by_steps

  abbrev deep_heads : callee_heads callees ≡ costed_heads deep
  deep_heads = costed_same (call_part (λ (its_budget : Budget). its_budget.words) budgets) callees deep costed.by_words

  pub rule_comes : (body : Acts) (befores_there : List Before)
      → let block : Block = rule_block callees body in
      let scope : Scope = scope_of basin all number block in
      befores scope 0 (before [] []) block.lines ≡ Ok befores_there → AreKindedActs basin (callee_heads callees) [] body
      → Comes scope block.lines befores_there budgets (most_of_acts price_of_steps steps [] body) (most_of_acts price_of_looks looks [] body)
      (most_of_acts price_of_puts puts [] body)
      (weights (acts_local_kinds (costed_heads deep) [] body) + height_of_acts deep [] body)
  rule_comes body befores_there fits are_kinded_acts =
      let block : Block = rule_block callees body in
      let scope : Scope = scope_of basin all number block in
      let lines : List Instruction = block.lines in
      let kept : ℕ = words_kept scope.locals (before [] []) in
      let high : ℕ = kept + height_of_acts deep [] body in
      let count_calls =
      paying_calls scope lines befores_there refl fits budgets callees callable steps deep costed.by_words price_of_steps (count_of scope budgets)
      (count_prices scope budgets)
      (call_count budgets) costed.by_steps (counts_call scope budgets) in
      let looks_calls =
      paying_calls scope lines befores_there refl fits budgets callees callable looks deep costed.by_words price_of_looks (looks_of scope budgets)
      (looks_prices scope budgets)
      (call_part (λ (its_budget : Budget). its_budget.looks) budgets) costed.by_looks (looks_call scope budgets) in
      let puts_calls =
      paying_calls scope lines befores_there refl fits budgets callees callable puts deep costed.by_words price_of_puts (puts_of scope budgets)
      (puts_prices scope budgets)
      (call_part (λ (its_budget : Budget). its_budget.puts) budgets) costed.by_puts (puts_call scope budgets) in
      let count_way = rule_goes basin all number callees steps deep steps_heads deep_heads price_of_steps body
      (paying_account scope lines befores_there refl fits budgets price_of_steps (count_of scope budgets) (count_prices scope budgets)) count_calls
      are_kinded_acts in
      let looks_way = rule_goes basin all number callees looks deep (costed_same _ callees looks costed.by_looks) deep_heads price_of_looks body
      (paying_account scope lines befores_there refl fits budgets price_of_looks (looks_of scope budgets) (looks_prices scope budgets)) looks_calls
      are_kinded_acts in
      let puts_way = rule_goes basin all number callees puts deep (costed_same _ callees puts costed.by_puts) deep_heads price_of_puts body
      (paying_account scope lines befores_there refl fits budgets price_of_puts (puts_of scope budgets) (puts_prices scope budgets)) puts_calls
      are_kinded_acts in
      let count_whole = whole scope lines befores_there refl fits budgets price_of_steps (count_of scope budgets) (count_prices scope budgets)
      (most_of_acts price_of_steps steps [] body) high (before [] [])
      (count_way.go (has_all lines) refl).0 count_way.tall in
      let looks_whole = whole scope lines befores_there refl fits budgets price_of_looks (looks_of scope budgets) (looks_prices scope budgets)
      (most_of_acts price_of_looks looks [] body) high (before [] [])
      (looks_way.go (has_all lines) refl).0 looks_way.tall in
      let puts_whole = whole scope lines befores_there refl fits budgets price_of_puts (puts_of scope budgets) (puts_prices scope budgets)
      (most_of_acts price_of_puts puts [] body) high (before [] [])
      (puts_way.go (has_all lines) refl).0 puts_way.tall in
      let own : words_of_all scope.locals ≡ weights (acts_local_kinds (costed_heads deep) [] body) =
      all_words_coded (acts_local_kinds (callee_heads callees) [] body) ∙ ap (λ heads. weights (acts_local_kinds heads [] body)) deep_heads in
      let last = count_whole.1 in
      record { by_count = count_whole.0; by_looks = looks_whole.0; by_puts = puts_whole.0; by_words = omega (arith, last, own) }

  pub function_comes : (parameters : List Parameter) (result : Kind) (body : Tree) (befores_there : List Before)
      → let block : Block = function_block callees parameters result body in
      let scope : Scope = scope_of basin all number block in
      let names : Names = param_names parameters in
      befores scope 0 (before [] []) block.lines ≡ Ok befores_there → IsKindedBody basin (callee_heads callees) names result body
      → Comes scope block.lines befores_there budgets (most_of_body price_of_steps steps names result body)
      (most_of_body price_of_looks looks names result body)
      (most_of_body price_of_puts puts names result body)
      (weights (param_kinds parameters) + (weights (local_kinds (costed_heads deep) names body) + max (height deep names body) (weight result)))
  function_comes parameters result body befores_there fits is_kinded_body =
      let block : Block = function_block callees parameters result body in
      let scope : Scope = scope_of basin all number block in
      let lines : List Instruction = block.lines in
      let names : Names = param_names parameters in
      let kept : ℕ = words_kept scope.locals (before [] []) in
      let high : ℕ = kept + max (height deep names body) (weight result) in
      let end : Before = before (code_kind result ∷ []) [] in
      let count_calls =
      paying_calls scope lines befores_there refl fits budgets callees callable steps deep costed.by_words price_of_steps (count_of scope budgets)
      (count_prices scope budgets)
      (call_count budgets) costed.by_steps (counts_call scope budgets) in
      let looks_calls =
      paying_calls scope lines befores_there refl fits budgets callees callable looks deep costed.by_words price_of_looks (looks_of scope budgets)
      (looks_prices scope budgets)
      (call_part (λ (its_budget : Budget). its_budget.looks) budgets) costed.by_looks (looks_call scope budgets) in
      let puts_calls =
      paying_calls scope lines befores_there refl fits budgets callees callable puts deep costed.by_words price_of_puts (puts_of scope budgets)
      (puts_prices scope budgets)
      (call_part (λ (its_budget : Budget). its_budget.puts) budgets) costed.by_puts (puts_call scope budgets) in
      let count_way = function_goes basin all number callees steps deep steps_heads deep_heads price_of_steps parameters result body
      (paying_account scope lines befores_there refl fits budgets price_of_steps (count_of scope budgets) (count_prices scope budgets)) count_calls
      is_kinded_body in
      let looks_way = function_goes basin all number callees looks deep
      (costed_same _ callees looks costed.by_looks) deep_heads price_of_looks parameters result body
      (paying_account scope lines befores_there refl fits budgets price_of_looks (looks_of scope budgets) (looks_prices scope budgets)) looks_calls
      is_kinded_body in
      let puts_way = function_goes basin all number callees puts deep
      (costed_same _ callees puts costed.by_puts) deep_heads price_of_puts parameters result body
      (paying_account scope lines befores_there refl fits budgets price_of_puts (puts_of scope budgets) (puts_prices scope budgets)) puts_calls
      is_kinded_body in
      let count_whole = whole scope lines befores_there refl fits budgets price_of_steps (count_of scope budgets) (count_prices scope budgets)
      (most_of_body price_of_steps steps names result body) high end
      (count_way.go (has_all lines) refl).0 count_way.tall in
      let looks_whole = whole scope lines befores_there refl fits budgets price_of_looks (looks_of scope budgets) (looks_prices scope budgets)
      (most_of_body price_of_looks looks names result body) high end
      (looks_way.go (has_all lines) refl).0 looks_way.tall in
      let puts_whole = whole scope lines befores_there refl fits budgets price_of_puts (puts_of scope budgets) (puts_prices scope budgets)
      (most_of_body price_of_puts puts names result body) high end
      (puts_way.go (has_all lines) refl).0 puts_way.tall in
      let given = code_kinds (param_kinds parameters) in
      let bound_names : Names = names_in (parameters_from 0 parameters) in
      let own : words_of_all scope.locals ≡ weights (param_kinds parameters) + weights (local_kinds (costed_heads deep) names body) =
      words_added given (code_kinds (local_kinds (callee_heads callees) bound_names body))
      ∙ ap₂ (λ m n. m + n) (all_words_coded (param_kinds parameters)) (all_words_coded (local_kinds (callee_heads callees) bound_names body)
      ∙ ap₂ (λ heads ns. weights (local_kinds heads ns body)) deep_heads (parameter_names 0 parameters)) in
      let last = count_whole.1 in
      record { by_count = count_whole.0; by_looks = looks_whole.0; by_puts = puts_whole.0; by_words = omega (arith, last, own) }
