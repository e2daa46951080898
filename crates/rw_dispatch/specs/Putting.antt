-- The puts of a dispatch.
use Rattle.std.specs.Prelude.{◌≡◌, ◌≤◌, ◌<◌, ℕ, ℤ, Bool, List, Option, IsSome, None, length, All}
use Rattle.std.specs.List.{filter}
use Rattle.rw_base.specs.declared.number.SlotNo.{SlotNo}
use Rattle.rw_model.specs.declared.content.Content.{Content}
use Rattle.rw_model.specs.Draft.{Draft}
use Rattle.rw_model.specs.Objects.{slot_in_place}
use Rattle.rw_model.specs.Links.{IsBetween}
use Rattle.rw_model.specs.Put.{end_of_put}
use Rattle.rw_method.specs.declared.put.Put.{Put}
use Rattle.rw_run.specs.declared.fault.RunFault.TheVariants.{Conflict}
use Rattle.rw_run.specs.Log.{Asked, Cells, Event, fault}
use Rattle.rw_run.specs.Dispatch.{asked_by, asked_for, bounds_in_place, denied_by, end_in, is_written, judged, puts_written}

-- a put to a slot of the object, of a value that the slot can have
pub record CanPut (basin : Draft) (object : ℕ) (put : Put) : Type 0 where
  pub few : put.place < 12
  pub slot : IsSome (slot_in_place basin.objects object put.place)
  pub between : IsBetween (bounds_in_place basin object put.place) put.value

-- what an object may put in one dispatch
pub record ArePuts (basin : Draft) (object : ℕ) (puts : List Put) : Type 0 where
  pub few : length puts ≤ 8
  pub can : All (λ (put : Put). CanPut basin object put) puts

-- an object's conflict
abbrev pub conflict : ℕ → ℕ → SlotNo → ℤ → ℤ → Event
conflict object step slot held solved =
    fault (Conflict (record { 0 = object }) slot (record { 0 = step }) held solved)

-- the put isn't denied where its cell holds this, and this says whether it is written
pub record IsPassed (held : Option Content) (put : Asked) (written : Bool) : Type 0 where
  pub passes : denied_by (end_of_put held put.content) put ≡ None
  pub writes : is_written (end_of_put held put.content) ≡ written

-- those of the puts that are written, all judged by what the cells hold before
abbrev pub puts_made : Draft → Cells → ℕ → ℕ → List Put → List Put
puts_made basin cells object step puts = filter (λ (put : Put). is_written (end_in cells (asked_by basin object step put))) puts

-- none of the puts is denied, and those of them that are written write this
pub record ArePassed (basin : Draft) (cells : Cells) (object step : ℕ) (asked : List Put) (written : List Asked) : Type 0 where
  pub passes : (rest : Event) → judged cells object (asked_for basin object step asked) rest ≡ rest
  pub writes : written ≡ puts_written cells (asked_for basin object step asked)
