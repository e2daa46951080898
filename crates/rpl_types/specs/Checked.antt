-- What `check` answers.
use Rattle.std.specs.Prelude.{ℕ, zero, suc, ◌+◌, List, [], ◌∷◌, Option, Some, None, option_map, Result, Ok, Err}
use Rattle.rw_model.specs.Draft.{Draft}
use Rattle.rpl_tree.specs.Budget.{Budget, budget_of}
use Rattle.rpl_tree.specs.Seen.{rules_of}
use Rattle.rpl_tree.specs.Tree.{Declared, rule, function}
use Rattle.rpl_tree.specs.declared.rules.ParsedRules.{ParsedRules}
use Rattle.rpl_types.specs.Judged.{TypeRefusal, rules_judged}
use Rattle.rpl_types.specs.Nodes.{Types}

-- a ruleset, and the types of its nodes
pub record Checked : Type 0 where
  pub rules : List Declared
  pub types : List Types

-- what is known of a ruleset that was checked
pub record Known : Type 0 where
  pub rules : ParsedRules
  pub types : List Types

abbrev pub checked_of : Known → Checked
checked_of known = record { rules = rules_of known.rules; types = known.types }

abbrev pub with_types : List Declared → Result (List Types) TypeRefusal → Result Checked TypeRefusal
with_types rules (Ok types) = Ok (record { rules = rules; types = types })
with_types rules (Err refused) = Err refused

-- the ruleset with its types, or its first refusal
abbrev pub checked : Draft → List Declared → Result Checked TypeRefusal
checked basin rules = with_types rules (rules_judged basin rules)

-- ---- rules, which are numbered from 1 apart from the functions

-- of the declarations from number k on, that of the rule so many rules further
abbrev pub declaration_from : ℕ → List Declared → ℕ → Option ℕ
declaration_from k [] n = None
declaration_from k (rule called_so body ∷ ds) zero = None
declaration_from k (rule called_so body ∷ ds) (suc zero) = Some k
declaration_from k (rule called_so body ∷ ds) (suc (suc n)) = declaration_from (k + 1) ds (suc n)
declaration_from k (function f ps result body ∷ ds) n = declaration_from (k + 1) ds n

-- the number of the declaration that is the rule of this number
abbrev pub declaration_of_rule : List Declared → ℕ → Option ℕ
declaration_of_rule rules n = declaration_from 1 rules n

-- the budgets of the rule of this number
abbrev pub rule_budget : List Declared → ℕ → Option Budget
rule_budget rules n = option_map (budget_of rules) (declaration_of_rule rules n)
