-- A timestep within a log: its events, and what stood before its opening and its closing.
use Rattle.std.specs.Prelude.{ℕ, ◌==◌, ◌&&◌, Bool, false, List, [], ◌∷◌, ◌++◌, map, length, Option, Some, None, if◌then◌else◌}
use Rattle.std.specs.List.{filter, flat_map, list_any}
use Rattle.rw_base.specs.declared.number.Cell.{Cell}
use Rattle.rw_model.specs.Draft.{Draft}
use Rattle.rw_model.specs.Links.{group_of}
use Rattle.rw_run.specs.declared.fault.RunFault.{RunFault}
use Rattle.rw_run.specs.declared.fault.RunFault.TheVariants.{Conflict, ZeroDivisor, ObjectOutOfRange, RuleOutOfRange, ObjectLimit, RuleLimit}
use Rattle.rw_run.specs.Dispatch.{cell_at}
use Rattle.rw_run.specs.Frame.{cells_asked, cells_looked}
use Rattle.rw_run.specs.Log.{Asked, Event, placed, opened, closed, idle, solved, fired, fault, Log, asked_in, looks_in}
use Rattle.rw_run.specs.RunOf.{lines}

-- ---- its events

abbrev pub step_of_fault : RunFault → ℕ
step_of_fault (Conflict object slot step held solves) = step.0
step_of_fault (ZeroDivisor rule step) = step.0
step_of_fault (ObjectOutOfRange object slot step value) = step.0
step_of_fault (RuleOutOfRange rule step value) = step.0
step_of_fault (ObjectLimit object step count) = step.0
step_of_fault (RuleLimit rule step count) = step.0

-- the event is of this timestep; an input is of none
abbrev pub is_of_step : ℕ → Event → Bool
is_of_step step (placed cell value) = false
is_of_step step (opened other) = other == step
is_of_step step (closed other) = other == step
is_of_step step (idle object other looked) = other == step
is_of_step step (solved dispatch) = dispatch.step == step
is_of_step step (fired firing) = firing.step == step
is_of_step step (fault why) = step_of_fault why == step

-- the events of a timestep, from its opening to its closing or its fault, the newest first
abbrev pub events_of : ℕ → Log → Log
events_of step log = filter (is_of_step step) log

abbrev pub is_opening : ℕ → Event → Bool
is_opening step (opened other) = other == step
is_opening step event = false

abbrev pub is_closing : ℕ → Event → Bool
is_closing step (closed other) = other == step
is_closing step event = false

-- what stood before the newest event that passes the test, if one does
abbrev pub before_newest : (Event → Bool) → Log → Option Log
before_newest test [] = None
before_newest test (event ∷ log) = if test event then Some log else before_newest test log

-- the log just before the timestep was opened, if it was, and just before it was closed
abbrev pub before_opening : ℕ → Log → Option Log
before_opening step = before_newest (is_opening step)

abbrev pub before_closing : ℕ → Log → Option Log
before_closing step = before_newest (is_closing step)

-- ---- at which cells it looked, and how many lines it has in a trace

-- the cell, and those that share their value with it
abbrev pub cells_with : Draft → Cell → List Cell
cells_with basin cell = cell ∷ map (λ slot. cell_at slot cell.step.0) (group_of basin.objects basin.links cell.slot.0)

-- the cells of puts, and all that share their values with them
abbrev pub cells_reached : Draft → List Asked → List Cell
cells_reached basin puts = flat_map (cells_with basin) (cells_asked puts)

-- the cells at which an event looked, and those that the puts reach which it asked for, written or not
abbrev pub reached_by : Draft → Event → List Cell
reached_by basin event = cells_looked (looks_in event) ++ cells_reached basin (asked_in event)

-- those of all events of a timestep
abbrev pub looked_at : Draft → ℕ → Log → List Cell
looked_at basin step log = flat_map (reached_by basin) (events_of step log)

abbrev pub is_same_cell : Cell → Cell → Bool
is_same_cell cell other = other.slot.0 == cell.slot.0 && other.step.0 == cell.step.0

-- each cell once, however often it stands there
abbrev pub distinct : List Cell → List Cell
distinct [] = []
distinct (cell ∷ cells) = if list_any (is_same_cell cell) cells then distinct cells else cell ∷ distinct cells

-- how many cells these are
abbrev pub cell_count : List Cell → ℕ
cell_count cells = length (distinct cells)

-- how many lines the timestep has in a trace
abbrev pub line_count : ℕ → Log → ℕ
line_count step log = length (flat_map lines (events_of step log))
