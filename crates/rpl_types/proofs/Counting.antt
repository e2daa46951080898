-- Budgets and declarations, each in its place.
use Rattle.rw_base.proofs.Common.{◌≡◌, ℕ, zero, suc, ◌+◌, ◌++◌, ◌≤◌, ◌<◌, List, [], ◌∷◌, map, length, get_or, Some, option_map, ap, ◌∙◌, refl, sym, arith}
use Rattle.rw_base.proofs.Common.{length-map, slice_get-get_or, slice_get-map, slice_get}
use Rattle.rpl_budget.proofs.Ordered.{budget_at, budgets_length}
use Rattle.rpl_budget.specs.Budgets.{budgets_of}
use Rattle.rpl_budget.specs.Seen.{budget_seen}
use Rattle.rpl_budget.specs.declared.cost.TreeCost.{TreeCost}
use Rattle.rpl_tree.proofs.Common.{Budget, budget_of, Declared, rule, function}
use Rattle.rpl_types.specs.Checked.{declaration_from, declaration_of_rule, rule_budget}

module _ (costs : List TreeCost) (rules : List Declared) (are : map budget_seen costs ≡ budgets_of rules) where
  -- there are as many budgets as declarations
  pub as_many : length costs ≡ length rules
  as_many = sym (length-map costs budget_seen) ∙ ap length are ∙ budgets_length rules

  pub its_budget : (place : ℕ) (cost default : TreeCost) → place < length rules → cost ≡ get_or costs place default
      → budget_seen cost ≡ budget_of rules (place + 1)
  its_budget place cost default less cost_is =
      let many = as_many in
      let here : slice_get costs place ≡ Some cost = slice_get-get_or costs place default (omega (arith, less, many)) ∙ ap Some (sym cost_is) in
      let seen : Some (budget_seen cost) ≡ Some (budget_of rules (place + 1)) =
      sym (slice_get-map budget_seen costs place ∙ ap (option_map budget_seen) here) ∙ ap (λ budgets. slice_get budgets place) are
      ∙ budget_at rules place less in
      cc

-- what stands behind so many
at_seam : {X : Type 0} (xs : List X) (x : X) (ys : List X) → slice_get (xs ++ x ∷ ys) (length xs) ≡ Some x
at_seam [] x ys = refl
at_seam (y ∷ xs) x ys = at_seam xs x ys

pub its_next : (before : List Budget) (rules : List Declared) (place : ℕ) (mine : Budget) (behind : List Budget) → place < length rules
    → length before ≡ place → before ++ mine ∷ behind ≡ budgets_of rules → mine ≡ budget_of rules (place + 1)
its_next before rules place mine behind less many are =
    let seen : Some mine ≡ Some (budget_of rules (place + 1)) =
    sym (at_seam before mine behind) ∙ ap (λ n. slice_get (before ++ mine ∷ behind) n) many
    ∙ ap (λ budgets. slice_get budgets place) are ∙ budget_at rules place less in
    cc

pub none_left : {X : Type 0} (xs : List X) → length xs ≡ 0 → xs ≡ []
none_left [] none = refl
none_left (x ∷ xs) none = absurd (omega arith)

-- a rule's declaration is one of them
within_from : (first_number number place : ℕ) (declarations : List Declared) → declaration_from first_number declarations number ≡ Some place
    → (first_number ≤ place) × (place < first_number + length declarations)
within_from first_number number place [] found = absurd cc
within_from first_number zero place (rule called_so body ∷ declarations) found = absurd cc
within_from first_number (suc zero) place (rule called_so body ∷ declarations) found = let same : first_number ≡ place = cc in
    (omega (arith, same), omega (arith, same))
within_from first_number (suc (suc n)) place (rule called_so body ∷ declarations) found =
    let rest = within_from (first_number + 1) (suc n) place declarations found in (omega (arith, rest.0), omega (arith, rest.1))
within_from first_number number place (function called_so parameters result body ∷ declarations) found =
    let rest = within_from (first_number + 1) number place declarations found in (omega (arith, rest.0), omega (arith, rest.1))

pub rule_within : (rules : List Declared) (number place : ℕ) → declaration_of_rule rules number ≡ Some (place + 1) → place < length rules
rule_within rules number place found = let within = within_from 1 number (place + 1) rules found in omega (arith, within.1)

pub budget_of_rule : (rules : List Declared) (number place : ℕ) (its_budget : Budget) → declaration_of_rule rules number ≡ Some (place + 1)
    → its_budget ≡ budget_of rules (place + 1) → rule_budget rules number ≡ Some its_budget
budget_of_rule rules number place its_budget found its_budget_is = ap (option_map (budget_of rules)) found ∙ ap Some (sym its_budget_is)
