-- Runs in which any object that waits may be the next to be dispatched.
use Rattle.std.specs.Prelude.{◌≡◌, ℕ, List, [], ◌∷◌, Contains, Option, Some, None}
use Rattle.rw_model.specs.Draft.{Draft}
use Rattle.rw_run.specs.Log.{Event, Log}
use Rattle.rw_run.specs.Next.{Policy}
use Rattle.rw_run.specs.Runs.{follows_by, standing}
use Rattle.rw_run.specs.Waiting.{waiting}

-- one of those that wait, or none where none does
abbrev pub CanBeChosen : List ℕ → Option ℕ → Type 0
CanBeChosen waits None = waits ≡ []
CanBeChosen waits (Some object) = Contains waits object

-- the event may follow the log: it does where one of those that wait is chosen
pub record MayFollow (basin : Draft) (policy : Policy) (log : Log) (event : Event) : Type 0 where
  pub object : Option ℕ
  pub waits : CanBeChosen (waiting basin log) object
  pub is : follows_by basin policy log object (standing log) ≡ Some event

-- these events may follow one after another, the first of them first, and leave this log
abbrev pub MayLead : Draft → Policy → Log → List Event → Log → Type 0
MayLead basin policy old [] new = new ≡ old
MayLead basin policy old (event ∷ events) new = MayFollow basin policy old event × MayLead basin policy (event ∷ old) events new
