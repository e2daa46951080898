-- The law of rules: where a timestep is closed, each rule would do again what it last did, and what it asked for stands or gave way.
use Rattle.std.specs.Prelude.{◌≡◌, ◌≢◌, ◌⊎◌, ℕ, ◌≤◌, Bool, true, false, All, Some}
use Rattle.rw_model.specs.Draft.{Draft}
use Rattle.rw_model.specs.declared.content.Content.{Content}
use Rattle.rw_model.specs.declared.writer.Writer.TheVariants.{Rule}
use Rattle.rw_firing.specs.Fire.{Fire}
use Rattle.rw_firing.specs.declared.fire.FireEnd.{FireEnd}
use Rattle.rw_firing.specs.declared.fire.FireEnd.TheVariants.{Done, Unknown, ZeroDivisor, OutOfRange}
use Rattle.rw_run.specs.Frame.{cells_looked}
use Rattle.rw_run.specs.Log.{Asked, Cells, Firing, Log, cells_of, value_in}
use Rattle.rw_run.specs.Next.{Policy, asked_of_rule, last_firing, last_ones}
use Rattle.rw_run.specs.Policy.{Fires, IsRule}

-- a firing ends so: it is done, or it met an unknown value
abbrev pub EndsAs : Bool → FireEnd → Type 0
EndsAs is_done Done = is_done ≡ true
EndsAs is_done Unknown = is_done ≡ false
EndsAs is_done ZeroDivisor = ⊥
EndsAs is_done (OutOfRange value) = ⊥

-- a firing that is told of as this did that
pub record IsFiringOf (basin : Draft) (rule step : ℕ) (fire : Fire) (firing : Firing) : Type 0 where
  pub end : EndsAs firing.is_done fire.end
  pub looked : cells_looked firing.looked ≡ fire.looked
  pub asked : firing.asked ≡ asked_of_rule basin rule step fire.puts
  pub count : firing.count ≡ fire.count

-- the cell of a rule's put has a number that is no greater than the rule's, and holds the value that was put, or what another wrote
pub record IsHeldOr (cells : Cells) (rule : ℕ) (put : Asked) : Type 0 where
  pub content : Content
  pub held : cells put.cell ≡ Some content
  pub number : content.number ≤ rule
  pub so : (content.value ≡ put.content.value) ⊎ (content.writer ≢ Rule (record { 0 = rule }))

-- where a log stands within a timestep, the rule fired in it; it would do the same again; and so it is with each of its last puts that
-- isn't put again by the same firing
pub record StandsBy (basin : Draft) (policy : Policy) (step : ℕ) (log : Log) (rule : ℕ) : Type 0 where
  pub firing : Firing
  pub last : last_firing log rule ≡ Some firing
  pub fire : Fire
  pub again : Fires policy rule step (value_in (cells_of basin log)) fire
  pub is : IsFiringOf basin rule step fire firing
  pub puts : All (IsHeldOr (cells_of basin log) rule) (last_ones basin firing.asked)

-- every rule does
abbrev pub AllStandBy : Draft → Policy → ℕ → Log → Type 0
AllStandBy basin policy step log = (rule : ℕ) → IsRule policy rule → StandsBy basin policy step log rule
