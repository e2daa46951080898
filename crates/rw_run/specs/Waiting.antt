-- Which objects wait, and since which event, by looking back through the log.
use Rattle.std.specs.Prelude.{ℕ, zero, suc, ◌==◌, Bool, false, ◌&&◌, ◌||◌, not, List, [], ◌∷◌, ◌++◌, length, Option, Some, None, if◌then◌else◌}
use Rattle.std.specs.Option.{option_or}
use Rattle.std.specs.List.{list_any, filter}
use Rattle.rw_model.specs.Draft.{Draft}
use Rattle.rw_model.specs.Links.{group_of, owner_of}
use Rattle.rw_model.specs.Turn.{is_data}
use Rattle.rw_run.specs.Log.{Asked, Event, opened, solved, fired, Log, dispatched_in, is_number, is_opened}

-- the numbers from 1 on, rising
abbrev pub numbers : ℕ → List ℕ
numbers zero = []
numbers (suc count) = numbers count ++ suc count ∷ []

-- the object owns a slot that carries one value with this one
abbrev pub is_at : Draft → ℕ → ℕ → Bool
is_at basin object slot = list_any (λ other. owner_of basin.objects other == object) (group_of basin.objects basin.links slot)

-- one of these puts is at this timestep to a slot that carries one value with one of the object's
abbrev pub is_put_at : Draft → ℕ → ℕ → List Asked → Bool
is_put_at basin object step written =
    list_any (λ (put : Asked). put.cell.step.0 == step && is_at basin object put.cell.slot.0) written

-- after this event the object waits no more for anything before it
abbrev pub ends_wait : Event → ℕ → Bool
ends_wait event object = is_opened event || is_number object (dispatched_in event)

-- this event is one since which the object may wait
abbrev pub wakes : Draft → Event → ℕ → Bool
wakes basin (opened step) object = not (is_data basin object)
wakes basin (solved dispatch) object =
    not (is_data basin object) && (not (dispatch.object == object) && is_put_at basin object dispatch.step dispatch.written)
wakes basin (fired firing) object = not (is_data basin object) && is_put_at basin object firing.step firing.written
wakes basin event object = false

-- the place of the event since which the object waits: the first after its last dispatch that wakes it. An event's place is
-- the number of events before it, which doesn't move as the log grows
abbrev pub since : Draft → Log → ℕ → Option ℕ
since basin [] object = None
since basin (event ∷ log) object =
    option_or (if ends_wait event object then None else since basin log object) (if wakes basin event object then Some (length log) else None)

abbrev pub is_since : Draft → Log → ℕ → ℕ → Bool
is_since basin log place object = is_number place (since basin log object)

-- of the events in the first places, the earliest first, the objects that wait since each, in order of number
abbrev pub waiting_below : Draft → Log → ℕ → List ℕ
waiting_below basin log zero = []
waiting_below basin log (suc place) = waiting_below basin log place ++ filter (is_since basin log place) (numbers (length basin.objects))

-- the objects that wait
abbrev pub waiting : Draft → Log → List ℕ
waiting basin log = waiting_below basin log (length log)

abbrev pub first_of : {A : Type 0} → List A → Option A
first_of [] = None
first_of (first ∷ rest) = Some first

-- the object that waits since the earliest event, and of those of one event the one with the least number
abbrev pub first_waiting : Draft → Log → Option ℕ
first_waiting basin log = first_of (waiting basin log)

-- ---- the list of those that wait, event by event

-- those that wait once a timestep is opened
abbrev pub all_waiting : Draft → List ℕ
all_waiting basin = filter (λ object. not (is_data basin object)) (numbers (length basin.objects))

-- the object owns a slot that carries one value with one of these
abbrev pub is_owner : Draft → List ℕ → ℕ → Bool
is_owner basin slots object = list_any (is_at basin object) slots

abbrev pub is_but : Option ℕ → ℕ → Bool
is_but None object = false
is_but (Some but) object = but == object

-- the object is woken by puts to these slots: it owns one that they reach, doesn't wait already, and isn't left out
abbrev pub is_woken : Draft → Option ℕ → List ℕ → List ℕ → ℕ → Bool
is_woken basin but queue slots object =
    not (is_data basin object) && (not (is_but but object) && (not (list_any (λ waits. object == waits) queue) && is_owner basin slots object))

-- those that are woken, in order of number
abbrev pub woken : Draft → Option ℕ → List ℕ → List ℕ → List ℕ
woken basin but queue slots = filter (is_woken basin but queue slots) (numbers (length basin.objects))

-- the slots of the puts to cells of a timestep
abbrev pub slots_at : ℕ → List Asked → List ℕ
slots_at step [] = []
slots_at step (put ∷ puts) = if put.cell.step.0 == step then put.cell.slot.0 ∷ slots_at step puts else slots_at step puts

-- those that wait after an event, where these waited before it and the dispatched object was taken out
abbrev pub queued_after : Draft → Event → List ℕ → List ℕ
queued_after basin (opened step) queue = all_waiting basin
queued_after basin (solved dispatch) queue =
    queue ++ woken basin (Some dispatch.object) queue (slots_at dispatch.step dispatch.written)
queued_after basin (fired firing) queue = queue ++ woken basin None queue (slots_at firing.step firing.written)
queued_after basin event queue = queue
