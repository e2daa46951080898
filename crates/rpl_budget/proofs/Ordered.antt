-- There are as many budgets as declarations, each in its place.
use Rattle.rw_base.proofs.Common.{◌≡◌, ℕ, zero, suc, ◌+◌, ◌-◌, ◌<◌, List, [], ◌∷◌, Some, length, refl, ap, ◌∙◌, arith, slice_get, slice_index}
use Rattle.rpl_tree.proofs.Common.{Declared, rule, function, Budget, budget, budget_of, capped, limits, Costed, Price, costs, costs_from}
use Rattle.rpl_tree.proofs.Common.{price_of_looks, price_of_puts, price_of_steps, words_of_rules, words_from}
use Rattle.rpl_budget.specs.Budgets.{budgets_of, side_by_side}

costs_length : (price : Price) (rules : List Declared) (functions : List Costed) → length (costs_from price functions rules) ≡ length rules
costs_length price [] functions = refl
costs_length price (rule called_so body ∷ rest) functions = ap suc (costs_length price rest functions)
costs_length price (function called_so parameters result body ∷ rest) functions = ap suc (costs_length price rest _)

words_length : (rules : List Declared) (functions : List Costed) → length (words_from functions rules) ≡ length rules
words_length [] functions = refl
words_length (rule called_so body ∷ rest) functions = ap suc (words_length rest functions)
words_length (function called_so parameters result body ∷ rest) functions = ap suc (words_length rest _)

all_length : (many : ℕ) (counts looks puts words : List ℕ) → length counts ≡ many → length looks ≡ many → length puts ≡ many → length words ≡ many
    → length (side_by_side counts looks puts words) ≡ many
all_length many [] looks puts words counts_long looks_long puts_long words_long = counts_long
all_length many (count ∷ counts) [] puts words counts_long looks_long puts_long words_long = looks_long
all_length many (count ∷ counts) (look ∷ looks) [] words counts_long looks_long puts_long words_long = puts_long
all_length many (count ∷ counts) (look ∷ looks) (put ∷ puts) [] counts_long looks_long puts_long words_long = words_long
all_length zero (count ∷ counts) (look ∷ looks) (put ∷ puts) (word ∷ words) counts_long looks_long puts_long words_long =
    absurd (omega (arith, counts_long))
all_length (suc many) (count ∷ counts) (look ∷ looks) (put ∷ puts) (word ∷ words) counts_long looks_long puts_long words_long =
    ap suc (all_length many counts looks puts words (omega (arith, counts_long)) (omega (arith, looks_long)) (omega (arith, puts_long))
    (omega (arith, words_long)))

-- the four in one place
abbrev four_at : List ℕ → List ℕ → List ℕ → List ℕ → ℕ → Budget
four_at counts looks puts words place = budget (capped limits.count (slice_index counts place)) (capped limits.looks (slice_index looks place))
    (capped limits.puts (slice_index puts place)) (capped limits.words (slice_index words place))

in_place : (counts looks puts words : List ℕ) (place : ℕ) → place < length (side_by_side counts looks puts words)
    → slice_get (side_by_side counts looks puts words) place ≡ Some (four_at counts looks puts words place)
in_place [] looks puts words place less = absurd (omega (arith, less))
in_place (count ∷ counts) [] puts words place less = absurd (omega (arith, less))
in_place (count ∷ counts) (look ∷ looks) [] words place less = absurd (omega (arith, less))
in_place (count ∷ counts) (look ∷ looks) (put ∷ puts) [] place less = absurd (omega (arith, less))
in_place (count ∷ counts) (look ∷ looks) (put ∷ puts) (word ∷ words) zero less = refl
in_place (count ∷ counts) (look ∷ looks) (put ∷ puts) (word ∷ words) (suc place) less = in_place counts looks puts words place (omega (arith, less))

pub budgets_length : (rules : List Declared) → length (budgets_of rules) ≡ length rules
budgets_length rules =
    all_length (length rules) _ _ _ _ (costs_length price_of_steps rules _) (costs_length price_of_looks rules _)
    (costs_length price_of_puts rules _) (words_length rules _)

pub budget_at : (rules : List Declared) (place : ℕ) → place < length rules → slice_get (budgets_of rules) place ≡ Some (budget_of rules (place + 1))
budget_at rules place less =
    let before : place ≡ place + 1 - 1 = omega arith in
    in_place (costs price_of_steps rules) (costs price_of_looks rules) (costs price_of_puts rules) (words_of_rules rules) place
    (omega (arith, less, budgets_length rules))
    ∙ ap (λ j. Some (four_at (costs price_of_steps rules) (costs price_of_looks rules) (costs price_of_puts rules) (words_of_rules rules) j)) before
