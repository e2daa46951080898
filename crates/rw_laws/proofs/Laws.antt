-- The laws of priority, of rules and of balance, and what every run keeps.
use Rattle.rw_laws.proofs.Common.{Cell, Draft, IsBalanced, IsBasin, IsLed, IsPolicyOf, IsRunOf, List, Log, Policy, Run, Some, before_closing}
use Rattle.rw_laws.proofs.Common.{cells_of, held, subst, sym, ℕ, ℤ, ◌∙◌, ◌≡◌, ◌≤◌}
use Rattle.rw_laws.specs.Balances.{AllBalanced}
use Rattle.rw_laws.specs.Laws.{KeepsLaws}
use Rattle.rw_laws.specs.Priority.{KeepPriority}
use Rattle.rw_laws.specs.Rules.{AllStandBy}
use Rattle.rw_laws.proofs.Closed.{closings, stays}
use Rattle.rw_laws.proofs.Closing.{IsWithin, begin_within, next_within, rules_stand}
use Rattle.rw_laws.proofs.Linked.{links}
use Rattle.rw_laws.proofs.Settles.{balances}
use Rattle.rw_laws.proofs.Staying.{same_view}
use Rattle.rw_laws.proofs.Along.{along}

pub priority : (basin : Draft) (policy : Policy) (inputs : List (Cell × ℤ)) (log : Log) → IsBasin basin → IsPolicyOf basin policy
    → IsLed basin policy inputs log → KeepPriority basin log
priority basin policy inputs log valid promise run =
    (along basin policy (IsWithin basin policy) (next_within basin valid policy promise) inputs log run
    (begin_within basin valid policy promise inputs)).holds.priority

pub rules : (basin : Draft) (policy : Policy) (inputs : List (Cell × ℤ)) (log before : Log) (step : ℕ) → IsBasin basin → IsPolicyOf basin policy
    → IsLed basin policy inputs log
    → before_closing step log ≡ Some before → AllStandBy basin policy step before
rules basin policy inputs log before step valid promise run closes = rules_stand basin valid policy promise inputs log run step before closes

pub balance : (basin : Draft) (policy : Policy) (inputs : List (Cell × ℤ)) (log before : Log) (step : ℕ) → IsBasin basin → IsPolicyOf basin policy
    → IsLed basin policy inputs log
    → before_closing step log ≡ Some before → AllBalanced basin step (cells_of basin before)
balance basin policy inputs log before step valid promise run closes = balances basin valid policy promise inputs log run step before closes

pub closed_stay : (basin : Draft) (policy : Policy) (inputs : List (Cell × ℤ)) (log before : Log) (step : ℕ) → IsBasin basin → IsPolicyOf basin policy
    → IsLed basin policy inputs log
    → before_closing step log ≡ Some before → (cell : Cell) → cell.step.0 ≤ step → cells_of basin log cell ≡ cells_of basin before cell
closed_stay basin policy inputs log before step valid promise run closes = stays basin valid policy promise inputs log run step before closes

pub every_order : (basin : Draft) (policy : Policy) (inputs : List (Cell × ℤ)) (log : Log) (run : Run) → IsBasin basin → IsPolicyOf basin policy
    → IsLed basin policy inputs log
    → IsRunOf basin log run → KeepsLaws basin policy log run
every_order basin policy inputs log run valid promise whole comes = record {
  links = λ cell other known shared. comes.cells cell ∙ links basin log cell other known shared ∙ sym (comes.cells other);
  priority = priority basin policy inputs log valid promise whole;
  steps = λ step first last.
      let closing = closings basin valid policy promise inputs log whole step first (subst (λ n. step ≤ n) comes.closed_steps last) in
      let same : (cell : Cell) → cell.step.0 ≤ step → held run.series cell ≡ cells_of basin closing.0 cell =
      λ cell low. comes.cells cell ∙ stays basin valid policy promise inputs log whole step closing.0 closing.1 cell low in
      record {
        before = closing.0;
        is = closing.1;
        rules = rules basin policy inputs log closing.0 step valid promise whole closing.1;
        stays = same;
        balance = λ object kind own.
            subst (IsBalanced kind) (sym (same_view basin (held run.series) (cells_of basin closing.0) object step same))
            (balance basin policy inputs log closing.0 step valid promise whole closing.1 object kind own);
      };
}
