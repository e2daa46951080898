-- Within the crate: what a power reservoir puts, of how far water falls, of the outflow that is asked for and of its terms, and what it answers.
use Rattle.std.specs.Prelude.{ℤ, List, ◌++◌, Option, Some}
use Rattle.rw_table.specs.Table.{Row}
use Rattle.rw_method.specs.declared.balanced.Balanced.{Balanced}
use Rattle.rw_method.specs.declared.given.Given.{Given}
use Rattle.rw_method.specs.declared.places.TheConstants.{OUTFLOW, POOL_ELEVATION, STORAGE}
use Rattle.rw_method.specs.declared.put.Put.{Put}
use Rattle.rw_method.specs.declared.solved.Solved.{Solved}
use Rattle.rw_method.specs.declared.term.Term.{Term}
use Rattle.rw_method.specs.declared.view.View.{View}
use Rattle.rw_method.specs.View.{given}
use Rattle.rw_method.specs.Power.{Plant}
use Rattle.rw_method.specs.Balance.{power_balance}
use Rattle.rw_method.specs.Solving.{solved_balance}
use Rattle.rw_method.specs.Puts.{energy_puts, flow_puts, held_after_puts, level_puts, power_puts}
use Rattle.rw_method.specs.Solve.{answer, fault_of_level}
use Rattle.rw_method.specs.Asking.{can_get}

-- its flows, and the other of storage and elevation
abbrev pub front_puts : List Row → View → Option Given → List Term → Balanced → List Put
front_puts table view asked terms balanced =
    flow_puts asked terms balanced ++ level_puts (Some table) (given view STORAGE) (given view POOL_ELEVATION) balanced

-- all that it puts
abbrev pub asked_puts : Plant → View → ℤ → Option Given → List Term → Balanced → List Put
asked_puts plant view head asked terms balanced =
    front_puts plant.table view asked terms balanced ++ energy_puts plant head (held_after_puts view (flow_puts asked terms balanced) OUTFLOW)

-- what its balance comes to
abbrev pub power_balanced : Plant → View → Balanced
power_balanced plant view = solved_balance view.past (power_balance plant view).terms

-- the answer, where nothing is wrong before all else
abbrev pub power_answer : Plant → View → Solved
power_answer plant view =
    answer (can_get (Some plant.table) view) (power_puts plant view (power_balanced plant view)) (power_balanced plant view)
    (fault_of_level (Some plant.table) view)
