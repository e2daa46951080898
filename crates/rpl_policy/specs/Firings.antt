-- The firings in a run of code, and what verified code keeps to in them.
use Rattle.std.specs.Prelude.{◌≡◌, ℕ, List, [], ◌∷◌, Option, Some, None}
use Rattle.std.specs.Option.{ForSome}
use Rattle.rw_model.specs.Draft.{Draft}
use Rattle.rw_model.specs.Objects.{numbered}
use Rattle.rw_run.specs.Log.{Event, Log, cells_of, fault, fired, value_in}
use Rattle.rw_run.specs.Next.{ended}
use Rattle.rw_run.specs.declared.fault.RunFault.TheVariants.{RuleOutOfRange, ZeroDivisor}
use Rattle.rpl_code.specs.declared.block.Block.{Block}
use Rattle.rpl_tree.specs.Budget.{Budget}
use Rattle.rpl_verify.specs.Machine.{rule_from}
use Rattle.rpl_verify.specs.Safety.{IsSafe}

-- a rule at a timestep
pub record RuleTurn : Type 0 where
  pub rule : ℕ
  pub step : ℕ

-- which rule fired in an event, if one did: to its end, up to an unknown value, or into a fault
abbrev pub turn_in : Event → Option RuleTurn
turn_in (fired firing) = Some (record { rule = firing.rule; step = firing.step })
turn_in (fault (ZeroDivisor rule step)) = Some (record { rule = rule.0; step = step.0 })
turn_in (fault (RuleOutOfRange rule step value)) = Some (record { rule = rule.0; step = step.0 })
turn_in event = None

-- the rule's block has a budget, its firing by the machine, for what the cells hold after the log, is safe by that, and the event is that
-- firing
pub record IsVerified (basin : Draft) (code : List Block) (budgets : List Budget) (log : Log) (event : Event) (turn : RuleTurn) : Type 0 where
  pub block : ℕ
  pub stands : rule_from 1 code turn.rule ≡ Some block
  pub budget : Budget
  pub is_budget : numbered budgets block ≡ Some budget
  pub safe : IsSafe code basin turn.rule turn.step (value_in (cells_of basin log)) budget
  pub is : event ≡ ended basin (cells_of basin log) turn.rule turn.step safe.fire safe.fire.end

-- each firing in a log is one of verified code
abbrev pub AreVerified : Draft → List Block → List Budget → Log → Type 0
AreVerified basin code budgets [] = Unit {0}
AreVerified basin code budgets (event ∷ log) =
    ForSome (turn_in event) (λ turn. IsVerified basin code budgets log event turn) × AreVerified basin code budgets log
