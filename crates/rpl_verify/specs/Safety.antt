-- What firings of accepted code keep to: each ends, within the budget of its rule.
use Rattle.std.specs.Prelude.{◌≡◌, ◌≤◌, ◌+◌, max, ℕ, zero, suc, ℤ, List, [], ◌∷◌, length, slice_get, Option, Some, None, option_and_then}
use Rattle.rw_base.specs.declared.number.Cell.{Cell}
use Rattle.rw_model.specs.Draft.{Draft}
use Rattle.rw_model.specs.Objects.{numbered}
use Rattle.rw_firing.specs.Fire.{Fire}
use Rattle.rpl_code.specs.declared.instruction.Instruction.{Instruction}
use Rattle.rpl_code.specs.declared.instruction.Instruction.TheVariants as I
use Rattle.rpl_code.specs.declared.block.Block.{Block}
use Rattle.rpl_tree.specs.Outcome.{Answer, ended, stuck, value}
use Rattle.rpl_tree.specs.Budget.{Budget}
use Rattle.rpl_tree.specs.World.{World}
use Rattle.rpl_verify.specs.Machine.{Frame, State, fire_of_code, first_frame, most_steps, rule_from, run, step, words_in}

-- how often an instruction looks, whether or not there is a cell of the run
abbrev pub look_count : Option Instruction → ℕ
look_count (Some I.Read) = 1
look_count (Some I.Known) = 1
look_count _ = 0

-- the instruction that is next
abbrev pub next_instruction : List Block → State → Option Instruction
next_instruction code [] = None
next_instruction code (frame ∷ callers) = option_and_then (λ (x : Block). slice_get x.lines frame.place) (numbered code frame.block)

module _ (code : List Block) (world : World) where
  abbrev pub states_behind : Answer State → (State → List State) → List State
  states_behind (value state) go = go state
  states_behind (ended end) go = []
  states_behind stuck go = []

  -- the states that so many steps pass
  abbrev pub states : ℕ → State → List State
  states n [] = []
  states zero state = state ∷ []
  states (suc n) (frame ∷ callers) = (frame ∷ callers) ∷ states_behind (step code world frame callers).answer (states n)

abbrev pub look_count_in : List Block → List State → ℕ
look_count_in code [] = 0
look_count_in code (state ∷ states_passed) = look_count (next_instruction code state) + look_count_in code states_passed

-- the most words that one of the states has
abbrev pub most_words : List State → ℕ
most_words [] = 0
most_words (state ∷ states_passed) = max (words_in state) (most_words states_passed)

-- what a firing passes that begins with this frame, in as many steps as it may have
abbrev pub firing_from : List Block → World → Option Frame → List State
firing_from code world None = []
firing_from code world (Some frame) = states code world most_steps (frame ∷ [])

-- how many puts are executed
abbrev pub puts_from : List Block → World → Option Frame → ℕ
puts_from code world None = 0
puts_from code world (Some frame) = length (run code world most_steps (frame ∷ [])).trail.puts

-- the rule of a number fires at a timestep, for these values of the cells: it is never stuck, and it ends. What it counts, how often it looks,
-- how many puts it executes and the words of each state that it passes are at most those of the budget
pub record IsSafe (code : List Block) (basin : Draft) (rule step : ℕ) (values : Cell → Option ℤ) (its_budget : Budget) : Type 0 where
  pub fire : Fire
  pub fires : fire_of_code code basin rule step values ≡ Some fire
  pub count : fire.count ≤ its_budget.count
  pub cells : length fire.looked ≤ its_budget.looks
  pub looks : look_count_in code (firing_from code (record { basin = basin; values = values; step = step })
      (first_frame code rule)) ≤ its_budget.looks
  pub puts : puts_from code (record { basin = basin; values = values; step = step }) (first_frame code rule) ≤ its_budget.puts
  pub words : most_words (firing_from code (record { basin = basin; values = values; step = step }) (first_frame code rule)) ≤ its_budget.words

-- each rule of the code has a block, and that a budget, to which it keeps, at whatever timestep and however the cells are
abbrev pub AreSafe : Draft → List Block → List Budget → Type 0
AreSafe basin code budgets = (rule number step : ℕ) (values : Cell → Option ℤ) → rule_from 1 code rule ≡ Some number
    → (its_budget : Budget) × (numbered budgets number ≡ Some its_budget) × IsSafe code basin rule step values its_budget
