-- A log of events, the newest first, and what a cell holds by looking back through it.
use Rattle.std.specs.Prelude.{ℕ, ◌==◌, ℤ, Bool, true, false, List, [], ◌∷◌, Option, Some, None, option_map, if◌then◌else◌}
use Rattle.std.specs.Option.{option_or}
use Rattle.rw_base.specs.declared.number.Cell.{Cell}
use Rattle.rw_model.specs.declared.content.Content.{Content}
use Rattle.rw_model.specs.declared.writer.Writer.TheVariants.{Input}
use Rattle.rw_model.specs.Draft.{Draft}
use Rattle.rw_series.specs.Series.{is_shared}
use Rattle.rw_firing.specs.declared.look.Look.{Look}
use Rattle.rw_run.specs.declared.fault.RunFault.{RunFault}
use Rattle.rw_run.specs.declared.write.Write.{Write}

-- a content that is asked for in a cell
abbrev pub Asked : Type 0
Asked = Write

-- an object was dispatched, and its method answered puts
pub record Dispatch : Type 0 where
  pub object : ℕ
  pub step : ℕ
  pub looked : List Look
  pub asked : List Asked
  pub written : List Asked

-- a rule fired to its end, or up to an unknown value
pub record Firing : Type 0 where
  pub rule : ℕ
  pub step : ℕ
  pub is_done : Bool
  pub looked : List Look
  pub asked : List Asked
  pub written : List Asked
  pub count : ℕ

-- what happens in a run. One event is the atomic step
pub data Event : Type 0 where
  placed : Cell → ℤ → Event
  opened : (step : ℕ) → Event
  closed : (step : ℕ) → Event
  idle : (object : ℕ) → (step : ℕ) → List Look → Event
  solved : Dispatch → Event
  fired : Firing → Event
  fault : RunFault → Event

-- the newest event stands first
abbrev pub Log : Type 0
Log = List Event

-- what is held, as a function of the cell
abbrev pub Cells : Type 0
Cells = Cell → Option Content

-- what these puts leave in a cell: the content of the last of them to a cell that shares its value with it
abbrev pub last_put : Draft → List Asked → Cell → Option Content
last_put basin [] cell = None
last_put basin (put ∷ puts) cell =
    option_or (last_put basin puts cell) (if is_shared basin put.cell cell then Some put.content else None)

abbrev pub input_content : ℤ → Content
input_content value = record { value = value; number = 0; writer = Input }

-- ---- what is told of an event

-- this is the number
abbrev pub is_number : ℕ → Option ℕ → Bool
is_number number None = false
is_number number (Some other) = other == number

-- a timestep is opened
abbrev pub is_opened : Event → Bool
is_opened (opened step) = true
is_opened event = false

-- the object that was dispatched
abbrev pub dispatched_in : Event → Option ℕ
dispatched_in (idle object step looked) = Some object
dispatched_in (solved dispatch) = Some dispatch.object
dispatched_in event = None

-- how a rule fired
abbrev pub firing_in : Event → Option Firing
firing_in (fired firing) = Some firing
firing_in event = None

-- what was looked at
abbrev pub looks_in : Event → List Look
looks_in (idle object step looked) = looked
looks_in (solved dispatch) = dispatch.looked
looks_in (fired firing) = firing.looked
looks_in event = []

-- the puts that were asked for
abbrev pub asked_in : Event → List Asked
asked_in (solved dispatch) = dispatch.asked
asked_in (fired firing) = firing.asked
asked_in event = []

-- the puts that an event wrote
abbrev pub written_by : Event → List Asked
written_by (placed cell value) = record { cell = cell; content = input_content value } ∷ []
written_by (solved dispatch) = dispatch.written
written_by (fired firing) = firing.written
written_by event = []

-- ---- what cells hold

-- what the cells hold after an event that found this in them
abbrev pub held_after : Draft → Event → Cells → Cells
held_after basin event cells cell = option_or (last_put basin (written_by event) cell) (cells cell)

-- what the cells hold after a log: in each the content that was last put to it
abbrev pub cells_of : Draft → Log → Cells
cells_of basin [] cell = None
cells_of basin (event ∷ log) cell = held_after basin event (cells_of basin log) cell

-- the value of a cell
abbrev pub value_in : Cells → Cell → Option ℤ
value_in cells cell = option_map (λ (content : Content). content.value) (cells cell)
