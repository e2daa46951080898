-- Within the crate: the terms of a reservoir's balance, and what it answers, of what evaporates and of what its balance comes to.
use Rattle.std.specs.Prelude.{ℤ, Bool, List, [], ◌∷◌, Option}
use Rattle.rw_table.specs.Table.{Row}
use Rattle.rw_method.specs.declared.balanced.Balanced.{Balanced}
use Rattle.rw_method.specs.declared.places.TheConstants.{INFLOW, OUTFLOW, POOL_ELEVATION, STORAGE}
use Rattle.rw_method.specs.declared.solved.Solved.{Solved}
use Rattle.rw_method.specs.declared.term.Term.{Term}
use Rattle.rw_method.specs.declared.view.View.{View}
use Rattle.rw_method.specs.View.{given}
use Rattle.rw_method.specs.Contents.{basis_of, contents_by}
use Rattle.rw_method.specs.Balance.{brings, stores, takes}
use Rattle.rw_method.specs.Puts.{reservoir_puts}
use Rattle.rw_method.specs.Solve.{answer, answer_of_puts, fault_of_level, fault_of_past, or_else}
use Rattle.rw_method.specs.Asking.{can_get}

-- the terms of its balance
abbrev pub reservoir_terms : Option (List Row) → View → List Term
reservoir_terms table view =
    brings view INFLOW ∷ takes view OUTFLOW ∷ stores (contents_by table (basis_of (given view STORAGE) (given view POOL_ELEVATION))) ∷ []

-- what is wrong with the storage before, or with the contents that are given
abbrev pub fault_of_held : Option (List Row) → Bool → View → Option Solved
fault_of_held table evaporation view = or_else (fault_of_past evaporation table view.past) (fault_of_level table view)

-- the answer, by what is wrong with what it holds and by what it puts
abbrev pub reservoir_answer : Option (List Row) → Bool → Option ℤ → Option ℤ → View → Balanced → Solved
reservoir_answer table evaporation amount max_release view balanced =
    answer (can_get table view) (reservoir_puts table evaporation amount max_release view balanced) balanced
    (fault_of_held table evaporation view)

-- the answer by what it puts alone, once its balance is solved and nothing is wrong with what it holds
abbrev pub answer_by_puts : Option (List Row) → Bool → Option ℤ → Option ℤ → View → Balanced → Solved
answer_by_puts table evaporation amount max_release view balanced =
    answer_of_puts (can_get table view) (reservoir_puts table evaporation amount max_release view balanced)
