-- In what a timestep's events depend on the cells: in what they look at.
use Rattle.std.specs.Prelude.{◌≡◌, ℕ, ℤ, List, [], ◌∷◌, ◌++◌, map, Option, Some}
use Rattle.rw_base.specs.declared.number.Cell.{Cell}
use Rattle.rw_model.specs.Draft.{Draft}
use Rattle.rw_firing.specs.Fire.{Fire}
use Rattle.rw_firing.specs.declared.look.Look.{Look}
use Rattle.rw_run.specs.Log.{Asked, Event, closed, fault, Log, asked_in, looks_in}
use Rattle.rw_run.specs.Next.{Policy, next}
use Rattle.rw_run.specs.Runs.{standing, inside}

-- the run ends with this event
abbrev pub IsFault : Event → Type 0
IsFault (fault why) = Unit {0}
IsFault event = ⊥

abbrev pub cells_looked : List Look → List Cell
cells_looked looks = map (λ (look : Look). look.cell) looks

abbrev pub cells_asked : List Asked → List Cell
cells_asked puts = map (λ (put : Asked). put.cell) puts

-- the cells at which an event looked, and those of the puts that it asked for
abbrev pub cells_of_event : Event → List Cell
cells_of_event event = cells_looked (looks_in event) ++ cells_asked (asked_in event)

abbrev pub looked_in : List Event → List Cell
looked_in [] = []
looked_in (event ∷ events) = cells_of_event event ++ looked_in events

-- each of these cells is alike in both
abbrev pub AreAlike : {A : Type 0} → (Cell → A) → (Cell → A) → List Cell → Type 0
AreAlike one other [] = Unit {0}
AreAlike one other (cell ∷ cells) = (one cell ≡ other cell) × AreAlike one other cells

-- these events follow in the timestep, none of them a fault
abbrev pub FollowInStep : Draft → Policy → ℕ → Log → List Event → Type 0
FollowInStep basin policy step old [] = Unit {0}
FollowInStep basin policy step old (event ∷ events) =
    (next basin policy step old ≡ Some event) × (¬ IsFault event) × FollowInStep basin policy step (event ∷ old) events

-- a firing depends on the cells alone at which it looks
abbrev pub IsFramed : Policy → Type 0
IsFramed policy = (rule step : ℕ) (one other : Cell → Option ℤ) (fire : Fire) → policy.fire rule step one ≡ Some fire
    → AreAlike one other fire.looked → policy.fire rule step other ≡ Some fire

-- events of the timestep, of which the last closes it
abbrev pub IsStepFrom : ℕ → Event → List Event → Type 0
IsStepFrom step event [] = event ≡ closed step
IsStepFrom step event (next ∷ events) = (standing (event ∷ []) ≡ inside step) × IsStepFrom step next events

-- the log after these events, the first of them first
abbrev pub log_after : List Event → Log → Log
log_after [] log = log
log_after (event ∷ events) log = log_after events (event ∷ log)
