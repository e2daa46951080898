-- What a firing sees of the basin: slots, the values of cells and those before the run, dates, tables, and the slots that it sets.
use Rattle.std.specs.Prelude.{ℕ, ℤ, pos, int_le, unsigned_abs, Bool, true, false, ◌&&◌, List, [], ◌∷◌, Option, Some, None, is_some, option_and_then, if◌then◌else◌}
use Rattle.rw_base.specs.Range.{is_from_to}
use Rattle.rw_base.specs.declared.number.Cell.{Cell}
use Rattle.rw_calendar.specs.declared.moment.Moment.{Moment}
use Rattle.rw_calendar.specs.Stamps.{begin_of}
use Rattle.rw_table.specs.Table.{Row}
use Rattle.rw_table.specs.Curve.{vol_of, elev_of}
use Rattle.rw_model.specs.declared.kind.Kind.{Kind}
use Rattle.rw_model.specs.declared.kind.Kind.TheVariants.{Reservoir}
use Rattle.rw_model.specs.Slot.{Bounds}
use Rattle.rw_model.specs.Objects.{Object, Placed, object_named, object_at, slot_named, slot_at}
use Rattle.rw_model.specs.Draft.{Draft}
use Rattle.rw_model.specs.Links.{bounds_in}
use Rattle.rw_model.specs.Before.{before_of}
use Rattle.rw_model.specs.Basin.{is_settable}
use Rattle.rw_firing.specs.declared.fire.FireEnd.TheVariants.{Unknown, OutOfRange}
use Rattle.rw_firing.specs.declared.fire.RulePut.{RulePut}
use Rattle.rpl_tree.specs.declared.words.ConvertWord.{ConvertWord}
use Rattle.rpl_tree.specs.declared.words.ConvertWord.TheVariants.{StorageToElevation, ElevationToStorage}
use Rattle.rpl_tree.specs.Value.{Value, a_number, a_truth, a_date, a_slot}
use Rattle.rpl_tree.specs.Outcome.{Answer, Outcome, ended, ends, gives, is_stuck, looking, value}

-- the basin, the values of its cells, and the timestep in which the rule fires
pub record World : Type 0 where
  pub basin : Draft
  pub values : Cell → Option ℤ
  pub step : ℕ

abbrev pub cell_of : ℕ → ℕ → Cell
cell_of slot step = record { slot = record { 0 = slot }; step = record { 0 = step } }

-- a timestep of the run
abbrev pub is_step : Draft → ℤ → Bool
is_step basin date = int_le (pos 1) date && int_le date (pos basin.control.stamps.count)

-- ---- slots at dates

-- the cells at which a look at the slot and date looks: none outside the run
abbrev pub cells_at : Draft → ℕ → ℤ → List Cell
cells_at basin slot date = if is_step basin date then cell_of slot (unsigned_abs date) ∷ [] else []

-- the value that is found there: in the run that of the cell, before it the one that the basin was given, if there is one
abbrev pub value_found : World → ℕ → ℤ → Option ℤ
value_found world slot date =
    if is_step world.basin date then world.values (cell_of slot (unsigned_abs date)) else before_of world.basin.objects slot date

-- a value, or the end where it is unknown
abbrev pub known_or_end : Option ℤ → Answer Value
known_or_end None = ended Unknown
known_or_end (Some z) = value (a_number z)

abbrev pub read_of : World → Value → Value → Outcome Value
read_of world (a_slot s) (a_date d) =
    record { answer = known_or_end (value_found world s d); trail = looking (cells_at world.basin s d) }
read_of world _ _ = is_stuck

-- whether there is a value
abbrev pub known_of : World → Value → Value → Outcome Value
known_of world (a_slot s) (a_date d) =
    record { answer = value (a_truth (is_some (value_found world s d))); trail = looking (cells_at world.basin s d) }
known_of world _ _ = is_stuck

-- the slot that is called so
abbrev pub slot_or_stuck : Option ℕ → Outcome Value
slot_or_stuck None = is_stuck
slot_or_stuck (Some s) = gives (a_slot s) 1

abbrev pub slot_value : Draft → List ℕ → List ℕ → Outcome Value
slot_value basin object slot = slot_or_stuck (slot_named basin.objects object slot)

-- ---- dates

-- a part of the moment at which a timestep of the run begins. Of other dates it is unknown
abbrev pub date_part : Draft → (Moment → ℕ) → Value → Outcome Value
date_part basin part (a_date d) =
    if is_step basin d then gives (a_number (pos (part (begin_of basin.control.stamps (unsigned_abs d))))) 1 else ends Unknown 1
date_part basin part _ = is_stuck

-- ---- tables

abbrev pub table_in : Kind → Option (List Row)
table_in (Reservoir initial_storage table local_inflow diversion return_flow evaporation max_release) = table
table_in _ = None

-- the table of the reservoir that is called so
abbrev pub table_named : Draft → List ℕ → Option (List Row)
table_named basin name = option_and_then (λ (object : Object). table_in object.kind)
    (option_and_then (λ number. object_at basin.objects number) (object_named basin.objects name))

-- what is read off a table
abbrev pub converted : ConvertWord → List Row → ℤ → Option ℤ
converted StorageToElevation rows z = elev_of rows z
converted ElevationToStorage rows z = vol_of rows z

-- what the table says, or the end where it says nothing
abbrev pub said_or_end : ℤ → Option ℤ → Outcome Value
said_or_end z None = ends (OutOfRange z) 1
said_or_end z (Some found) = gives (a_number found) 1

abbrev pub convert_of : ConvertWord → Option (List Row) → Value → Outcome Value
convert_of word (Some rows) (a_number z) = said_or_end z (converted word rows z)
convert_of word _ _ = is_stuck

-- ---- puts

abbrev pub is_settable_slot : Option Placed → Bool
is_settable_slot None = false
is_settable_slot (Some placed) = is_settable placed.slot.role

-- inputs and rules can set the slot
abbrev pub can_set : Draft → ℕ → Bool
can_set basin slot = is_settable_slot (slot_at basin.objects slot)

-- a value that the slot can have
abbrev pub is_within : Bounds → ℤ → Bool
is_within bounds z = int_le bounds.0 z && int_le z bounds.1

abbrev pub bounds_at : Draft → ℕ → Bounds
bounds_at basin slot = bounds_in basin.objects basin.links basin.bounds slot

-- rules can put so many timesteps ahead
abbrev pub can_put_ahead : Draft → ℤ → Bool
can_put_ahead basin ahead = is_from_to (pos 0) (pos basin.control.ahead) ahead

-- a put so many timesteps ahead
abbrev pub put_ahead : ℕ → ℕ → ℤ → RulePut
put_ahead slot ahead z = record { value = z; slot = record { 0 = slot }; ahead = ahead }

-- a put at the timestep itself
abbrev pub put_to : ℕ → ℤ → RulePut
put_to slot z = put_ahead slot 0 z

-- a put of a value that the slot can have is executed; any other ends the firing
abbrev pub within_or_end : Bool → ℕ → ℕ → ℤ → Outcome (Unit {0})
within_or_end true slot ahead z =
    record { answer = value tt; trail = record { looked = []; puts = put_ahead slot ahead z ∷ []; count = 1 } }
within_or_end false slot ahead z = ends (OutOfRange z) 1

-- a put of a number to a slot that can be set, not too many timesteps ahead
abbrev pub put_of : Draft → Option ℕ → ℤ → Value → Outcome (Unit {0})
put_of basin (Some s) ahead (a_number z) =
    if can_set basin s && can_put_ahead basin ahead then within_or_end (is_within (bounds_at basin s) z) s (unsigned_abs ahead) z
    else is_stuck
put_of basin _ ahead _ = is_stuck
