-- What an object sees when it is dispatched, and the event that its dispatch is.
use Rattle.std.specs.Prelude.{ℕ, nat_lt, ◌-◌, ℤ, pos, ◌-ℤ◌, Bool, true, false, List, [], ◌∷◌, ◌++◌, map, Option, Some, None, option_map, option_and_then, unwrap_or, if◌then◌else◌}
use Rattle.std.specs.List.{filter, filter_map, range_with_len}
use Rattle.rw_base.specs.declared.number.Cell.{Cell}
use Rattle.rw_model.specs.declared.content.Content.{Content}
use Rattle.rw_model.specs.declared.put.PutEnd.{PutEnd}
use Rattle.rw_model.specs.declared.put.PutEnd.TheVariants.{Written, Kept, Denied}
use Rattle.rw_model.specs.declared.writer.Writer.TheVariants.{Object}
use Rattle.rw_model.specs.Before.{before_of}
use Rattle.rw_model.specs.Draft.{Draft}
use Rattle.rw_model.specs.Links.{bounds_in}
use Rattle.rw_model.specs.Objects.{object_at, slot_in_place}
use Rattle.rw_model.specs.Put.{end_of_put}
use Rattle.rw_model.specs.Slot.{Bounds}
use Rattle.rw_method.specs.declared.put.Put.{Put}
use Rattle.rw_method.specs.declared.solved.Solved.{Solved}
use Rattle.rw_method.specs.declared.solved.Solved.TheVariants.{Idle, Puts, Conflict, OutOfRange}
use Rattle.rw_method.specs.declared.view.View.{View}
use Rattle.rw_method.specs.Past.{past_in}
use Rattle.rw_method.specs.Solve.{solve_of}
use Rattle.rw_firing.specs.declared.look.Look.{Look}
use Rattle.rw_run.specs.declared.fault.RunFault.TheVariants.{Conflict as FaultConflict, ObjectOutOfRange}
use Rattle.rw_run.specs.Log.{Asked, Cells, Event, idle, solved, fault, value_in}

abbrev pub cell_at : ℕ → ℕ → Cell
cell_at slot step = record { slot = record { 0 = slot }; step = record { 0 = step } }

-- ---- what an object looks at

-- every place that a slot can have
abbrev pub places : List ℕ
places = range_with_len 0 12

-- the cell of the object's slot in a place, if it has one there
abbrev pub cell_in : Draft → ℕ → ℕ → ℕ → Option Cell
cell_in basin object step place = option_map (λ slot. cell_at slot step) (slot_in_place basin.objects object place)

-- what stands in a place
abbrev pub content_in : Draft → Cells → ℕ → ℕ → ℕ → Option Content
content_in basin cells object step place = option_and_then cells (cell_in basin object step place)

-- the least and the greatest value in a place, 0 and 0 where the object has no slot there
abbrev pub bounds_in_place : Draft → ℕ → ℕ → Bounds
bounds_in_place basin object place =
    unwrap_or (option_map (bounds_in basin.objects basin.links basin.bounds) (slot_in_place basin.objects object place)) (pos 0, pos 0)

-- a value of a slot some timesteps ago
pub record Past : Type 0 where
  pub slot : ℕ
  pub ago : ℕ

abbrev pub past_at : Draft → ℕ → ℕ × ℕ → Option Past
past_at basin object past =
    option_map (λ slot. record { slot = slot; ago = past.1 }) (slot_in_place basin.objects object past.0)

-- the earlier value that an object looks at, if it looks at one
abbrev pub past_of : Draft → ℕ → Option Past
past_of basin object =
    option_and_then (past_at basin object) (option_and_then (λ found. past_in found.kind) (object_at basin.objects object))

-- it is that of a cell where it isn't before the run
abbrev pub cell_of_past : ℕ → Past → Option Cell
cell_of_past step past = if nat_lt past.ago step then Some (cell_at past.slot (step - past.ago)) else None

-- the past cell at which a dispatch of the object at the timestep looks, if there is one
abbrev pub past_cell_of : Draft → ℕ → ℕ → Option Cell
past_cell_of basin object step = option_and_then (cell_of_past step) (past_of basin object)

-- the earlier value: what the cell holds, or a constant where it is before the run
abbrev pub value_of_past : Draft → Cells → ℕ → Past → Option ℤ
value_of_past basin cells step past =
    if nat_lt past.ago step then value_in cells (cell_at past.slot (step - past.ago))
    else before_of basin.objects past.slot (pos step -ℤ pos past.ago)

abbrev pub past_value : Draft → Cells → ℕ → ℕ → Option ℤ
past_value basin cells object step = option_and_then (value_of_past basin cells step) (past_of basin object)

-- what the object sees
abbrev pub view_of : Draft → Cells → ℕ → ℕ → View
view_of basin cells object step = record {
  own = record { 0 = object };
  now = map (content_in basin cells object step) places;
  past = past_value basin cells object step;
  bounds = map (bounds_in_place basin object) places;
}

abbrev pub if_cell : Option Cell → List Cell
if_cell None = []
if_cell (Some cell) = cell ∷ []

-- the cells at which its dispatch looks: those of its slots in order of place, and the past cell
abbrev pub looked_cells : Draft → ℕ → ℕ → List Cell
looked_cells basin object step = filter_map (cell_in basin object step) places ++ if_cell (past_cell_of basin object step)

abbrev pub looks_at : Cells → List Cell → List Look
looks_at cells at = map (λ cell. record { cell = cell; seen = value_in cells cell }) at

-- what it looks at
abbrev pub looks_of : Draft → Cells → ℕ → ℕ → List Look
looks_of basin cells object step = looks_at cells (looked_cells basin object step)

-- ---- what its method answers

abbrev pub solved_by : Draft → Cells → ℕ → ℕ → Solved
solved_by basin cells object step =
    unwrap_or (option_map (λ found. solve_of found.kind (view_of basin cells object step)) (object_at basin.objects object)) Idle

-- the slot in a place, 0 where the object has none there
abbrev pub slot_or_none : Draft → ℕ → ℕ → ℕ
slot_or_none basin object place = unwrap_or (slot_in_place basin.objects object place) 0

-- a put of a method, as the content that is asked for in a cell
abbrev pub asked_by : Draft → ℕ → ℕ → Put → Asked
asked_by basin object step put = record {
  cell = cell_at (slot_or_none basin object put.place) step;
  content = record { value = put.value; number = put.number; writer = Object (record { 0 = object }) };
}

-- all that is asked for in cells
abbrev pub asked_for : Draft → ℕ → ℕ → List Put → List Asked
asked_for basin object step puts = map (asked_by basin object step) puts

-- what becomes of a put, by what the cells hold
abbrev pub end_in : Cells → Asked → PutEnd
end_in cells put = end_of_put (cells put.cell) put.content

abbrev pub is_written : PutEnd → Bool
is_written Written = true
is_written Kept = false
is_written (Denied held) = false

-- those of the puts that are written, all judged by what the cells hold before
abbrev pub puts_written : Cells → List Asked → List Asked
puts_written cells puts = filter (λ (put : Asked). is_written (end_in cells put)) puts

-- the values that differ, where a put is denied
abbrev pub denied_by : PutEnd → Asked → Option (ℤ × ℤ)
denied_by Written put = None
denied_by Kept put = None
denied_by (Denied held) put = Some (held.value, put.content.value)

abbrev pub or_fault : Option (ℤ × ℤ) → ℕ → Asked → Event → Event
or_fault None object put rest = rest
or_fault (Some values) object put rest =
    fault (FaultConflict (record { 0 = object }) put.cell.slot put.cell.step values.0 values.1)

-- the first put that is denied is a conflict, or else this follows
abbrev pub judged : Cells → ℕ → List Asked → Event → Event
judged cells object [] rest = rest
judged cells object (put ∷ puts) rest =
    or_fault (denied_by (end_in cells put) put) object put (judged cells object puts rest)

-- the event of puts of which none is denied
abbrev pub dispatch_of : Cells → List Look → ℕ → ℕ → List Asked → Event
dispatch_of cells looked object step asked =
    solved (record { object = object; step = step; looked = looked; asked = asked; written = puts_written cells asked })

-- the event of a method's puts
abbrev pub put_by : Draft → Cells → List Look → ℕ → ℕ → List Put → Event
put_by basin cells looked object step puts =
    judged cells object (asked_for basin object step puts)
    (dispatch_of cells looked object step (asked_for basin object step puts))

-- the event of what a method answers
abbrev pub answered : Draft → Cells → List Look → ℕ → ℕ → Solved → Event
answered basin cells looked object step Idle = idle object step looked
answered basin cells looked object step (Puts puts) = put_by basin cells looked object step puts
answered basin cells looked object step (Conflict place held solves) =
    fault (FaultConflict (record { 0 = object }) (record { 0 = slot_or_none basin object place }) (record { 0 = step }) held solves)
answered basin cells looked object step (OutOfRange place value) =
    fault (ObjectOutOfRange (record { 0 = object }) (record { 0 = slot_or_none basin object place }) (record { 0 = step }) value)

-- the event that a dispatch of the object is, where the cells hold this
abbrev pub dispatched : Draft → Cells → ℕ → ℕ → Event
dispatched basin cells object step =
    answered basin cells (looks_of basin cells object step) object step (solved_by basin cells object step)
