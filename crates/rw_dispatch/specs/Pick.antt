-- Runs in which a rule picks, of the objects that wait, the one to be dispatched.
use Rattle.std.specs.Prelude.{◌≡◌, ℕ, ◌+◌, ◌-◌, ◌<◌, ◌≤◌, ℤ, List, [], ◌∷◌, Option, Some, None, length, slice_get}
use Rattle.rw_base.specs.declared.number.Cell.{Cell}
use Rattle.rw_model.specs.Draft.{Draft}
use Rattle.rw_run.specs.Log.{Event, Log, dispatched_in}
use Rattle.rw_run.specs.Next.{Policy}
use Rattle.rw_run.specs.Runs.{IsOver, follows_by, with_inputs, standing}
use Rattle.rw_run.specs.Waiting.{waiting}

-- 1 for a dispatch
abbrev pub turn_of : Option ℕ → ℕ
turn_of None = 0
turn_of (Some object) = 1

-- how many dispatches there were
abbrev pub turn_count : Log → ℕ
turn_count [] = 0
turn_count (event ∷ log) = turn_of (dispatched_in event) + turn_count log

-- the place of the object that is taken, by how many dispatches there were and by those that wait
abbrev pub Picking : Type 0
Picking = ℕ → List ℕ → ℕ

-- it is one of those that wait, where one does
abbrev pub PicksOne : Picking → Type 0
PicksOne rule = (turn : ℕ) (waits : List ℕ) → 1 ≤ length waits → rule turn waits < length waits

-- the one that has waited longest, and the one that has waited shortest
abbrev pub oldest : Picking
oldest turn waits = 0

abbrev pub newest : Picking
newest turn waits = length waits - 1

-- the one that is taken at a turn
abbrev pub picked_at : Picking → ℕ → List ℕ → Option ℕ
picked_at rule turn waits = slice_get waits (rule turn waits)

abbrev pub picked : Picking → Log → List ℕ → Option ℕ
picked rule log waits = picked_at rule (turn_count log) waits

-- the event that follows where the rule picks
abbrev pub follows_picked : Draft → Policy → Picking → Log → Option Event
follows_picked basin policy rule log = follows_by basin policy log (picked rule log (waiting basin log)) (standing log)

abbrev pub LeadsPicked : Draft → Policy → Picking → Log → List Event → Log → Type 0
LeadsPicked basin policy rule old [] new = new ≡ old
LeadsPicked basin policy rule old (event ∷ events) new =
    (follows_picked basin policy rule old ≡ Some event) × LeadsPicked basin policy rule (event ∷ old) events new

-- the whole log of these inputs in which the rule picks each object that is dispatched
pub record IsPickedRun (basin : Draft) (policy : Policy) (rule : Picking) (inputs : List (Cell × ℤ)) (log : Log) : Type 0 where
  pub events : List Event
  pub leads : LeadsPicked basin policy rule (with_inputs [] inputs) events log
  pub end : IsOver basin (standing log)
