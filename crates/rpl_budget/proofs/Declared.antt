-- The budgets of all declarations by one pass are those that are defined.
use Rattle.std.proofs.Common.{◌≡◌, ℕ, ◌+◌, max, List, [], ◌∷◌, refl, sym, ap, ap₂, ◌∙◌, subst, arith}
use Rattle.rpl_tree.proofs.Common.{Budget, budget, capped, limits, Costed, costed_heads, costs_from, most_of_acts, most_of_body, param_names}
use Rattle.rpl_tree.proofs.Common.{price_of_looks, price_of_puts, price_of_steps, Head, Names, kind_of_type, acts_local_kinds, local_kinds}
use Rattle.rpl_tree.proofs.Common.{param_kinds, Tree, Acts, Declared, Parameter, TypeName, rule, function, Kind, weight, weights, height}
use Rattle.rpl_tree.proofs.Common.{height_of_acts, words_from}
use Rattle.rpl_budget.specs.Budgets.{budgets_of, side_by_side}
use Rattle.rpl_budget.specs.Pass.{Priced, call_budget, declared_budget, function_budget, priced_heads, pass, passed_from, predefined_priced}
use Rattle.rpl_budget.specs.Pass.{budget_of_load, room_for}
use Rattle.rpl_budget.proofs.Costs as Costs
use Rattle.rpl_budget.proofs.Costs.{counting, looking, putting}
use Rattle.rpl_budget.proofs.Exact.{costed, heads_same, stopped, stopped_budget}
use Rattle.rpl_budget.proofs.Passed.{acts_are, acts_found, found, pass_is}

pub same_budget : {count looks puts words other_count other_looks other_puts other_words : ℕ} → count ≡ other_count → looks ≡ other_looks
    → puts ≡ other_puts → words ≡ other_words → budget count looks puts words ≡ budget other_count other_looks other_puts other_words
same_budget counts_are looks_are puts_are words_are = rw (counts_are, looks_are, puts_are, words_are) refl

module _ (functions : List Priced) where
  abbrev costed_by : (Budget → ℕ) → List Costed
  costed_by part = costed part functions

  abbrev words_of : List Costed
  words_of = costed_by (λ b. b.words)

  by_heads : (P : List Head → Type 0) → P (priced_heads functions) → P (costed_heads words_of)
  by_heads P holds = subst P (sym (heads_same (λ b. b.words) functions)) holds

  -- ---- a rule

  abbrev rule_words : Acts → List Head → ℕ
  rule_words body heads_given = weights (acts_local_kinds heads_given [] body) + height_of_acts words_of [] body

  abbrev exact_rule : Acts → Budget
  exact_rule body =
      budget (most_of_acts price_of_steps (costed_by (λ b. b.count)) [] body) (most_of_acts price_of_looks (costed_by (λ b. b.looks)) [] body)
      (most_of_acts price_of_puts (costed_by (λ b. b.puts)) [] body) (rule_words body (costed_heads words_of))

  rule_is : (body : Acts) → declared_budget (stopped functions) (rule [] body) ≡ stopped_budget (exact_rule body)
  rule_is body =
      ap budget_of_load (acts_are functions [] body)
      ∙ by_heads (λ heads. budget_of_load (acts_found functions [] body)
      ≡ budget (capped limits.count (exact_rule body).count) (capped limits.looks (exact_rule body).looks)
      (capped limits.puts (exact_rule body).puts) (capped limits.words (rule_words body heads)))
      (same_budget refl refl refl (omega arith))

  -- ---- a function

  module _ (parameters : List Parameter) (result : TypeName) (body : Tree) where
    abbrev takes : List Kind
    takes = param_kinds parameters

    abbrev kind : Kind
    kind = kind_of_type result

    abbrev names : Names
    names = param_names parameters

    abbrev function_words : List Head → ℕ
    function_words heads_given = weights takes + (weights (local_kinds heads_given names body) + max (height words_of names body) (weight kind))

    abbrev exact_function : Budget
    exact_function =
        budget (most_of_body price_of_steps (costed_by (λ b. b.count)) names kind body)
        (most_of_body price_of_looks (costed_by (λ b. b.looks)) names kind body)
        (most_of_body price_of_puts (costed_by (λ b. b.puts)) names kind body) (function_words (costed_heads words_of))

    function_is : function_budget (room_for takes) kind (pass (stopped functions) names body) ≡ stopped_budget exact_function
    function_is =
        ap (function_budget (room_for takes) kind) (pass_is functions names body)
        ∙ by_heads (λ heads. function_budget (room_for takes) kind (found functions names body) ≡ budget (capped limits.count exact_function.count)
        (capped limits.looks exact_function.looks) (capped limits.puts exact_function.puts) (capped limits.words (function_words heads)))
        (same_budget (Costs.body_cost counting functions names kind body) (Costs.body_cost looking functions names kind body)
        (Costs.body_cost putting functions names kind body) (omega arith))

    -- what a call comes to
    abbrev exact_call : Budget
    exact_call = budget (weights takes + 1 + exact_function.count) (0 + exact_function.looks) (0 + exact_function.puts) exact_function.words

    call_is : call_budget (room_for takes) (stopped_budget exact_function) ≡ stopped_budget exact_call
    call_is = same_budget (omega arith) (omega arith) (omega arith) refl

-- ---- all declarations

abbrev exact : List Priced → List Declared → List Budget
exact functions rules =
    side_by_side (costs_from price_of_steps (costed (λ b. b.count) functions) rules)
    (costs_from price_of_looks (costed (λ b. b.looks) functions) rules)
    (costs_from price_of_puts (costed (λ b. b.puts) functions) rules) (words_from (costed (λ b. b.words) functions) rules)

passed : (functions : List Priced) (rules : List Declared) → passed_from (stopped functions) rules ≡ exact functions rules
passed functions [] = refl
passed functions (rule called_so body ∷ rest) = ap₂ (λ b budgets. b ∷ budgets) (rule_is functions body) (passed functions rest)
passed functions (function called_so parameters result body ∷ rest) =
    let takes = param_kinds parameters in
    let kind = kind_of_type result in
    let inside = exact_function functions parameters result body in
    let known : Budget → Priced =
    λ most. record { head = record { name = called_so; takes = takes; result = kind }; room = room_for takes; most = most } in
    ap (λ (its_budget : Budget). its_budget ∷ passed_from (known (call_budget (room_for takes) its_budget) ∷ stopped functions) rest)
    (function_is functions parameters result body)
    ∙ ap (λ (most : Budget). stopped_budget inside ∷ passed_from (known most ∷ stopped functions) rest) (call_is functions parameters result body)
    ∙ ap (λ budgets. stopped_budget inside ∷ budgets) (passed (known (exact_call functions parameters result body) ∷ functions) rest)

pub all_passed : (rules : List Declared) → passed_from predefined_priced rules ≡ budgets_of rules
all_passed rules = passed predefined_priced rules
