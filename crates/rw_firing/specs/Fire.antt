-- What a firing of a rule does.
use Rattle.std.specs.Prelude.{ℕ, List}
use Rattle.rw_base.specs.declared.number.Cell.{Cell}
use Rattle.rw_firing.specs.declared.fire.FireEnd.{FireEnd}
use Rattle.rw_firing.specs.declared.fire.RulePut.{RulePut}

-- how it ends, at which cells it looked, in order, the puts that were executed, in order, and how much it counts
pub record Fire : Type 0 where
  pub end : FireEnd
  pub looked : List Cell
  pub puts : List RulePut
  pub count : ℕ
