-- The budgets of a ruleset's declarations, in order, and what its code is accepted as.
use Rattle.std.specs.Prelude.{ℕ, ◌+◌, List, [], ◌∷◌}
use Rattle.rw_model.specs.Draft.{Draft}
use Rattle.rpl_tree.specs.Tree.{Declared}
use Rattle.rpl_tree.specs.Budget.{Budget, budget_of}
use Rattle.rpl_verify.specs.Resolved.{resolved_code}
use Rattle.rpl_verify.specs.Verified.{Accepted}
use Rattle.rpl_compile.specs.Translate.{translate}

-- of the declarations from a number on
abbrev pub budgets_from : List Declared → ℕ → List Declared → List Budget
budgets_from rules number [] = []
budgets_from rules number (d ∷ ds) = budget_of rules number ∷ budgets_from rules (number + 1) ds

abbrev pub code_budgets_of : List Declared → List Budget
code_budgets_of rules = budgets_from rules 1 rules

-- the code of a ruleset with the budgets of its declarations, and its instructions resolved
abbrev pub accepted_code : Draft → List Declared → Accepted
accepted_code basin rules =
    record { blocks = translate rules; budgets = code_budgets_of rules; resolved = resolved_code basin (translate rules) }
