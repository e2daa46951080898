-- How an event came to follow a log.
use Rattle.rw_laws.proofs.Common.{Bool, CanBeChosen, Draft, Event, Fire, IsFault, Log, MayFollow, None, ObjectLimit, Option, Policy, RuleLimit, Some}
use Rattle.rw_laws.proofs.Common.{Standing, [], after_objects}
use Rattle.rw_laws.proofs.Common.{cells_of, closed, dispatched, dispatches, ended, false, fault, firing_of, firings, first_due, waiting}
use Rattle.rw_laws.proofs.Common.{follows_by, if◌then◌else◌, inside, nat_le, nat_lt, next_of, none-some, opened, option_map, over, refl, rests}
use Rattle.rw_laws.proofs.Common.{same_Some, standing, sym, true, value_in, ℕ, ◌+◌, ◌≡◌}

pub record Opens (log : Log) (event : Event) : Type 0 where
  pub step : ℕ
  pub stands : standing log ≡ rests step
  pub is : event ≡ opened (step + 1)

pub record Closes (basin : Draft) (policy : Policy) (log : Log) (event : Event) : Type 0 where
  pub step : ℕ
  pub stands : standing log ≡ inside step
  pub none_waits : waiting basin log ≡ []
  pub none_due : first_due basin policy (cells_of basin log) log ≡ None
  pub is : event ≡ closed step

pub record Fires (basin : Draft) (policy : Policy) (log : Log) (event : Event) : Type 0 where
  pub step : ℕ
  pub stands : standing log ≡ inside step
  pub rule : ℕ
  pub due : first_due basin policy (cells_of basin log) log ≡ Some rule
  pub fire : Fire
  pub does : policy.fire rule step (value_in (cells_of basin log)) ≡ Some fire
  pub is : event ≡ ended basin (cells_of basin log) rule step fire fire.end

pub record Asks (basin : Draft) (log : Log) (event : Event) : Type 0 where
  pub step : ℕ
  pub stands : standing log ≡ inside step
  pub object : ℕ
  pub is : event ≡ dispatched basin (cells_of basin log) object step

pub data Came (basin : Draft) (policy : Policy) (log : Log) (event : Event) : Type 0 where
  opens : Opens log event → Came basin policy log event
  closes : Closes basin policy log event → Came basin policy log event
  fires : Fires basin policy log event → Came basin policy log event
  asks : Asks basin log event → Came basin policy log event
  ends : IsFault event → Came basin policy log event

faults : (event other : Event) → Some other ≡ Some event → IsFault other → IsFault event
faults event other is h = rw (← same_Some other event is) h

module _ (basin : Draft) (policy : Policy) (log : Log) (event : Event) where
  by_open : (step : ℕ) → standing log ≡ rests step → (more : Bool) → (if more then Some (opened (step + 1)) else None) ≡ Some event
      → Came basin policy log event
  by_open step at true is = opens (record { step = step; stands = at; is = sym (same_Some _ event is) })
  by_open step at false is = absurd (none-some event is)

  by_fire : (step rule : ℕ) → standing log ≡ inside step → first_due basin policy (cells_of basin log) log ≡ Some rule → (found : Option Fire)
      → policy.fire rule step (value_in (cells_of basin log)) ≡ found
      → option_map (λ (fire : Fire). ended basin (cells_of basin log) rule step fire fire.end) found ≡ Some event → Came basin policy log event
  by_fire step rule at due None does is = absurd (none-some event is)
  by_fire step rule at due (Some fire) does is =
      fires (record { step = step; stands = at; rule = rule; due = due; fire = fire; does = does; is = sym (same_Some _ event is) })

  by_rule_limit : (step rule : ℕ) → standing log ≡ inside step → first_due basin policy (cells_of basin log) log ≡ Some rule → (reached : Bool)
      → (if reached then Some (fault (RuleLimit (record { 0 = rule }) (record { 0 = step }) (firings log rule)))
      else firing_of basin policy (cells_of basin log) rule step) ≡ Some event → Came basin policy log event
  by_rule_limit step rule at due true is = ends (faults event _ is tt)
  by_rule_limit step rule at due false is = by_fire step rule at due (policy.fire rule step (value_in (cells_of basin log))) refl is

  by_due : (step : ℕ) → standing log ≡ inside step → waiting basin log ≡ [] → (due : Option ℕ)
      → first_due basin policy (cells_of basin log) log ≡ due
      → after_objects basin policy (cells_of basin log) log step due ≡ Some event → Came basin policy log event
  by_due step at none None due is =
      closes (record { step = step; stands = at; none_waits = none; none_due = due; is = sym (same_Some _ event is) })
  by_due step at none (Some rule) due is = by_rule_limit step rule at due (nat_le basin.control.rule_limit (firings log rule)) is

  by_object_limit : (step object : ℕ) → standing log ≡ inside step → (reached : Bool)
      → (if reached then fault (ObjectLimit (record { 0 = object }) (record { 0 = step }) (dispatches log object))
      else dispatched basin (cells_of basin log) object step) ≡ event → Came basin policy log event
  by_object_limit step object at true is = ends (rw (← is) tt)
  by_object_limit step object at false is = asks (record { step = step; stands = at; object = object; is = sym is })

  by_waiting : (step : ℕ) → standing log ≡ inside step → (object : Option ℕ) → CanBeChosen (waiting basin log) object
      → next_of basin policy (cells_of basin log) log step object ≡ Some event → Came basin policy log event
  by_waiting step at None waits is = by_due step at waits (first_due basin policy (cells_of basin log) log) refl is
  by_waiting step at (Some object) waits is =
      by_object_limit step object at (nat_le basin.control.object_limit (dispatches log object)) (same_Some _ event is)

  by_standing : (at : Standing) → standing log ≡ at → (object : Option ℕ) → CanBeChosen (waiting basin log) object
      → follows_by basin policy log object at ≡ Some event → Came basin policy log event
  by_standing (rests step) at object waits is = by_open step at (nat_lt step basin.control.stamps.count) is
  by_standing (inside step) at object waits is = by_waiting step at object waits is
  by_standing over at object waits is = absurd (none-some event is)

  pub came : MayFollow basin policy log event → Came basin policy log event
  came may = by_standing (standing log) refl may.object may.waits may.is
