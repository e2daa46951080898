-- What a rule means and what its code does.
use Rattle.std.specs.Prelude.{◌≡◌, ◌≤◌, ◌+◌, ℕ, ℤ, List, [], ◌∷◌, Option, Some, None}
use Rattle.rw_base.specs.declared.number.Cell.{Cell}
use Rattle.rw_model.specs.Draft.{Draft}
use Rattle.rw_firing.specs.Fire.{Fire}
use Rattle.rpl_code.specs.declared.block.Block.{Block}
use Rattle.rpl_tree.specs.Outcome.{Outcome}
use Rattle.rpl_tree.specs.World.{World}
use Rattle.rpl_tree.specs.Tree.{Tree, Act, Declared}
use Rattle.rpl_tree.specs.Mean.{fire_of, mean}
use Rattle.rpl_tree.specs.Worked.{basin_over_days, numbers_object, pool, rule_of, unknown_cells, with_functions, x_rule}
use Rattle.rpl_tree.specs.Bounds.{rule_count}
use Rattle.rpl_verify.specs.Machine.{Frame, fire_of_code, first_frame, run}
use Rattle.rpl_compile.specs.Translate.{translate}

-- a firing of the rule of a number by its code is the firing that the rule means: it ends alike, has looked at the same cells, asks for
-- the same, and counts as much
abbrev pub FiresAlike : List Declared → Draft → ℕ → ℕ → (Cell → Option ℤ) → Type 0
FiresAlike rules basin rule step values =
    fire_of_code (translate rules) basin rule step values ≡ mean rules basin rule step values

-- ---- so many steps

abbrev pub fired_in : ℕ → List Block → World → Option Frame → Option Fire
fired_in most code world None = None
fired_in most code world (Some f) =
    let done : Outcome (Unit {0}) = run code world most (f ∷ []) in
    fire_of done.answer done.trail

-- what a rule of a code does, as `fire_of_code`, but in so many steps at most
abbrev pub fired_within : ℕ → List Block → Draft → ℕ → ℕ → (Cell → Option ℤ) → Option Fire
fired_within most code basin rule step values =
    let world : World = record { basin = basin; values = values; step = step } in
    fired_in most code world (first_frame code rule)

-- a rule of the number is declared
abbrev pub HasRule : List Declared → ℕ → Type 0
HasRule rules number = (1 ≤ number) × (number ≤ rule_count rules)

-- with enough steps a firing by the code is the firing that the rule means
abbrev pub EndsAlike : List Declared → Draft → ℕ → ℕ → (Cell → Option ℤ) → Type 0
EndsAlike rules basin rule step values =
    (enough : ℕ) × ((more : ℕ) → fired_within (enough + more) (translate rules) basin rule step values ≡ mean rules basin rule step values)

-- ---- worked rules

-- in a basin of two numbers, X and Y
abbrev pub RulesAlike : List Declared → (Cell → Option ℤ) → Type 0
RulesAlike rules values = FiresAlike rules (basin_over_days 2 (numbers_object ∷ [])) 1 1 values

-- `D.X[t] := e;` there, where nothing is known; beside the functions `Count` and `Both`; and statements
abbrev pub TreeAlike : Tree → Type 0
TreeAlike e = RulesAlike (x_rule e) unknown_cells

abbrev pub CallAlike : Tree → Type 0
CallAlike e = RulesAlike (with_functions e) unknown_cells

abbrev pub ActsAlike : List Act → Type 0
ActsAlike statements = RulesAlike (rule_of statements ∷ []) unknown_cells

-- beside a pool, at a timestep of forty
abbrev pub PoolAlike : ℕ → Tree → Type 0
PoolAlike step e = FiresAlike (x_rule e) (basin_over_days 40 (numbers_object ∷ pool ∷ [])) 1 step unknown_cells
