-- The four budgets of a declaration.
use Rattle.std.specs.Prelude.{ℕ, ◌+◌, ◌-◌, min, List, slice_index}
use Rattle.rw_base.specs.declared.limits.TheConstants.{INSTRUCTIONS_MAX, LOOKS_MAX, PUTS_MAX, WORDS_MAX}
use Rattle.rpl_tree.specs.Tree.{Declared}
use Rattle.rpl_tree.specs.Cost.{costs, price_of_steps, price_of_looks, price_of_puts}
use Rattle.rpl_tree.specs.Words.{words_of_rules}

-- the most that a firing counts, how often it looks and puts at most, and how many words it keeps at most
pub record Budget : Type 0 where
  pub count : ℕ
  pub looks : ℕ
  pub puts : ℕ
  pub words : ℕ

abbrev pub budget : ℕ → ℕ → ℕ → ℕ → Budget
budget count looks puts words = record { count = count; looks = looks; puts = puts; words = words }

-- what a declaration may have at most
abbrev pub limits : Budget
limits = budget INSTRUCTIONS_MAX LOOKS_MAX PUTS_MAX WORDS_MAX

-- a number, or where that is above the limit the first above it
abbrev pub capped : ℕ → ℕ → ℕ
capped limit n = min n (limit + 1)

-- of the declaration of this number, counted from 1: `costs` and `words_of_rules`, where they are within the limits
abbrev pub budget_of : List Declared → ℕ → Budget
budget_of rules number =
    budget
    (capped limits.count (slice_index (costs price_of_steps rules) (number - 1)))
    (capped limits.looks (slice_index (costs price_of_looks rules) (number - 1)))
    (capped limits.puts (slice_index (costs price_of_puts rules) (number - 1)))
    (capped limits.words (slice_index (words_of_rules rules) (number - 1)))
