-- The text of a section: how the run of a batch ended, the names of the columns, and a line for each closed timestep.
use Rattle.std.specs.Prelude.{ℕ, zero, suc, ℤ, nat_le, ◌&&◌, if◌then◌else◌, List, [], ◌++◌, length, Option, None, Some, codes}
use Rattle.std.specs.Fmt.{decimal, signed_decimal}
use Rattle.rw_calendar.specs.Stamps.{end_of_step, stamp_text}
use Rattle.rw_model.specs.Objects.{Object, Placed, object_at, all_slots, slot_at}
use Rattle.rw_model.specs.Draft.{Draft}
use Rattle.rw_run.specs.declared.fault.RunFault.{RunFault}
use Rattle.rw_run.specs.declared.fault.RunFault.TheVariants.{Conflict, ZeroDivisor, ObjectOutOfRange, RuleOutOfRange, ObjectLimit, RuleLimit}
use Rattle.rw_run.specs.declared.run.RunEnd.{RunEnd}
use Rattle.rw_run.specs.declared.run.RunEnd.TheVariants.{Settled, Fault}
use Rattle.rw_run.specs.Dispatch.{cell_at}
use Rattle.rw_run.specs.Log.{Cells, value_in}

-- ---- names

abbrev pub object_name : Option Object → List ℕ
object_name None = []
object_name (Some object) = object.name

-- the name of the object of this number, and nothing where there is none
abbrev pub object_words : Draft → ℕ → List ℕ
object_words basin object =
    if nat_le 1 object && nat_le object (length basin.objects) then object_name (object_at basin.objects object) else []

abbrev pub placed_words : Draft → Option Placed → List ℕ
placed_words basin None = []
placed_words basin (Some placed) = object_words basin placed.owner ++ (codes "." ++ placed.slot.name)

-- the name of the slot of this number behind that of its object, and nothing where there is no such slot
abbrev pub slot_words : Draft → ℕ → List ℕ
slot_words basin slot =
    if nat_le 1 slot && nat_le slot (length (all_slots basin.objects)) then placed_words basin (slot_at basin.objects slot) else []

-- ---- the first line

-- what an object met, and where
abbrev pub place_words : Draft → (what : List ℕ) → (object slot step : ℕ) → List ℕ
place_words basin what object slot step =
    what ++ (codes " object " ++ (object_words basin object ++ (codes " slot " ++ (slot_words basin slot ++ (codes " step " ++ decimal step)))))

-- what happened
abbrev pub fault_words : Draft → RunFault → List ℕ
fault_words basin (Conflict object slot step held solved) =
    place_words basin (codes "conflict") object.0 slot.0 step.0
    ++ (codes " held " ++ (signed_decimal held ++ (codes " solved " ++ signed_decimal solved)))
fault_words basin (ZeroDivisor rule step) =
    codes "division by zero rule " ++ (decimal rule.0 ++ (codes " step " ++ decimal step.0))
fault_words basin (ObjectOutOfRange object slot step value) =
    place_words basin (codes "out of range") object.0 slot.0 step.0 ++ (codes " value " ++ signed_decimal value)
fault_words basin (RuleOutOfRange rule step value) =
    codes "out of range rule " ++ (decimal rule.0 ++ (codes " step " ++ (decimal step.0 ++ (codes " value " ++ signed_decimal value))))
fault_words basin (ObjectLimit object step count) =
    codes "limit object " ++ (object_words basin object.0 ++ (codes " step " ++ (decimal step.0 ++ (codes " after " ++ decimal count))))
fault_words basin (RuleLimit rule step count) =
    codes "limit rule " ++ (decimal rule.0 ++ (codes " step " ++ (decimal step.0 ++ (codes " after " ++ decimal count))))

abbrev pub end_words : Draft → RunEnd → List ℕ
end_words basin Settled = codes "settled"
end_words basin (Fault fault) = codes "fault " ++ fault_words basin fault

-- how the run ended
abbrev pub heading : Draft → ℕ → RunEnd → List ℕ
heading basin batch end = codes "# batch " ++ (decimal batch ++ (codes " " ++ (end_words basin end ++ codes "\n")))

-- the same of the run of a trace
abbrev pub trace_heading : Draft → ℕ → RunEnd → List ℕ
trace_heading basin trace end = codes "# trace " ++ (decimal trace ++ (codes " " ++ (end_words basin end ++ codes "\n")))

-- ---- the table

-- what is written of the numbers 1, 2, .. up to this one, one after another
abbrev pub for_each : (ℕ → List ℕ) → ℕ → List ℕ
for_each words zero = []
for_each words (suc before) = for_each words before ++ words (suc before)

-- what is written of each slot, in the order of their numbers
abbrev pub for_slots : Draft → (ℕ → List ℕ) → List ℕ
for_slots basin words = for_each words (length (all_slots basin.objects))

-- the line of names
abbrev pub columns : Draft → List ℕ
columns basin = codes "step,stamp" ++ (for_slots basin (λ slot. codes "," ++ slot_words basin slot) ++ codes "\n")

-- an unknown value is nothing
abbrev pub value_words : Option ℤ → List ℕ
value_words None = []
value_words (Some value) = signed_decimal value

-- how the line of a timestep begins: its number, and the moment at which it ends
abbrev pub row_front : Draft → ℕ → List ℕ
row_front basin step = decimal step ++ (codes "," ++ stamp_text (end_of_step basin.control.stamps step))

-- the line of a timestep, by the values by slot number and timestep
abbrev pub row : Draft → (ℕ → ℕ → Option ℤ) → ℕ → List ℕ
row basin values step =
    row_front basin step ++ (for_slots basin (λ slot. codes "," ++ value_words (values slot step)) ++ codes "\n")

-- the lines of the first timesteps, so many of them
abbrev pub rows : Draft → (ℕ → ℕ → Option ℤ) → ℕ → List ℕ
rows basin values closed = for_each (row basin values) closed

-- ---- all of it

-- the values of cells, by slot number and timestep
abbrev pub values_in : Cells → ℕ → ℕ → Option ℤ
values_in cells slot step = value_in cells (cell_at slot step)

abbrev pub section_of : Draft → (batch : ℕ) → RunEnd → (closed : ℕ) → (values : ℕ → ℕ → Option ℤ) → List ℕ
section_of basin batch end closed values = heading basin batch end ++ (columns basin ++ rows basin values closed)
