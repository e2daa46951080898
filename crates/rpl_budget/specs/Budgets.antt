-- The budgets of all declarations of a ruleset, in order.
use Rattle.std.specs.Prelude.{ℕ, List, [], ◌∷◌}
use Rattle.rpl_tree.specs.Tree.{Declared}
use Rattle.rpl_tree.specs.Budget.{Budget, budget, capped, limits}
use Rattle.rpl_tree.specs.Cost.{costs, price_of_looks, price_of_puts, price_of_steps}
use Rattle.rpl_tree.specs.Words.{words_of_rules}

-- four numbers of each, none above the first that is above its limit
abbrev pub side_by_side : List ℕ → List ℕ → List ℕ → List ℕ → List Budget
side_by_side (count ∷ counts) (look ∷ looks) (put ∷ puts) (word ∷ words) =
    budget (capped limits.count count) (capped limits.looks look) (capped limits.puts put) (capped limits.words word)
    ∷ side_by_side counts looks puts words
side_by_side _ _ _ _ = []

abbrev pub budgets_of : List Declared → List Budget
budgets_of rules = side_by_side (costs price_of_steps rules) (costs price_of_looks rules) (costs price_of_puts rules) (words_of_rules rules)
