-- Since which event an object waits, in words: the first after its last dispatch that wakes it.
use Rattle.std.specs.Prelude.{◌≡◌, ◌⊎◌, ℕ, true, false, [], ◌∷◌, ◌++◌, length}
use Rattle.rw_model.specs.Draft.{Draft}
use Rattle.rw_run.specs.Log.{Log, Event}
use Rattle.rw_run.specs.Waiting.{ends_wait, wakes}

-- none of these events ends the object's wait
abbrev pub NoneEnds : Log → ℕ → Type 0
NoneEnds [] object = Unit {0}
NoneEnds (event ∷ log) object = (ends_wait event object ≡ false) × NoneEnds log object

-- none wakes the object, back to the last that ends its wait
abbrev pub NoneWakes : Draft → Log → ℕ → Type 0
NoneWakes basin [] object = Unit {0}
NoneWakes basin (event ∷ log) object =
    (wakes basin event object ≡ false) × ((ends_wait event object ≡ true) ⊎ NoneWakes basin log object)

-- the event in this place wakes the object, none after it ends the wait, and none before it, back to the last that ends a wait, wakes
pub record WaitsSince (basin : Draft) (log : Log) (object place : ℕ) : Type 0 where
  pub newer : Log
  pub event : Event
  pub before : Log
  pub whole : log ≡ newer ++ event ∷ before
  pub at_place : length before ≡ place
  pub wakes_it : wakes basin event object ≡ true
  pub none_ends : NoneEnds newer object
  pub is_first : (ends_wait event object ≡ true) ⊎ NoneWakes basin before object
