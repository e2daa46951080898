-- What a policy promises of the basin that it is for, and when two policies do the same.
use Rattle.std.specs.Prelude.{◌≡◌, ◌≢◌, ℕ, ◌≤◌, ℤ, IsTrue, All, [], Option, Some, IsSome}
use Rattle.std.specs.Option.{ForSome}
use Rattle.rw_base.specs.declared.number.Cell.{Cell}
use Rattle.rw_model.specs.Basin.{is_settable}
use Rattle.rw_model.specs.Draft.{Draft, IsSlot}
use Rattle.rw_model.specs.Links.{IsBetween, bounds_in}
use Rattle.rw_model.specs.Objects.{slot_at}
use Rattle.rw_firing.specs.Fire.{Fire}
use Rattle.rw_firing.specs.declared.fire.FireEnd.TheVariants.{Done}
use Rattle.rw_firing.specs.declared.fire.RulePut.{RulePut}
use Rattle.rw_run.specs.Frame.{IsFramed}
use Rattle.rw_run.specs.Next.{Policy}

-- the number of a rule
pub record IsRule (policy : Policy) (rule : ℕ) : Type 0 where
  pub first : 1 ≤ rule
  pub last : rule ≤ policy.rules

-- a put to a slot that can be set, of a value that the slot can have, not too many timesteps ahead
pub record CanAsk (basin : Draft) (put : RulePut) : Type 0 where
  pub slot : IsSlot basin.objects put.slot.0
  pub settable : ForSome (slot_at basin.objects put.slot.0) (λ placed. IsTrue (is_settable placed.slot.role))
  pub within : IsBetween (bounds_in basin.objects basin.links basin.bounds put.slot.0) put.value
  pub ahead : put.ahead ≤ basin.control.ahead

-- the rule does this at a timestep, for these values of the cells
abbrev pub Fires : Policy → ℕ → ℕ → (Cell → Option ℤ) → Fire → Type 0
Fires policy rule step values fire = policy.fire rule step values ≡ Some fire

-- what a policy promises. Step, number and writer of a put are those of the firing, since the run writes them
pub record IsPolicyOf (basin : Draft) (policy : Policy) : Type 0 where
  -- no rule is ever stuck
  pub ends : (rule step : ℕ) (values : Cell → Option ℤ) → IsRule policy rule → IsSome (policy.fire rule step values)
  -- a firing depends on nothing but the cells at which it looks
  pub framed : IsFramed policy
  -- one that isn't done asks for nothing
  pub silent : (rule step : ℕ) (values : Cell → Option ℤ) (fire : Fire) → Fires policy rule step values fire
      → fire.end ≢ Done → fire.puts ≡ []
  -- each put is one that the slot can take
  pub asks : (rule step : ℕ) (values : Cell → Option ℤ) (fire : Fire) → Fires policy rule step values fire
      → All (CanAsk basin) fire.puts

-- two policies have as many rules, and each does in both the same
pub record FireAlike (one other : Policy) : Type 0 where
  pub rules : one.rules ≡ other.rules
  pub same : (rule step : ℕ) (values : Cell → Option ℤ) → IsRule one rule → one.fire rule step values ≡ other.fire rule step values
