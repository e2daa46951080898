-- Each put that an event asked for, with what became of it, and the lines of a trace that tell it.
use Rattle.std.specs.Prelude.{◌≡◌, ◌≢◌, ℕ, ◌<◌, nat_le, IsTrue, Bool, List, [], ◌∷◌, ◌++◌, map, All, Option, Some, None, IfSome, if◌then◌else◌}
use Rattle.std.specs.List.{filter, filter_map}
use Rattle.std.specs.Ordering.{int_eq}
use Rattle.rw_base.specs.declared.number.Cell.{Cell}
use Rattle.rw_model.specs.declared.content.Content.{Content}
use Rattle.rw_model.specs.declared.put.PutEnd.{PutEnd}
use Rattle.rw_model.specs.declared.put.PutEnd.TheVariants as End
use Rattle.rw_model.specs.Draft.{Draft, IsSlot}
use Rattle.rw_model.specs.Put.{end_of_put}
use Rattle.rw_firing.specs.Fire.{Fire}
use Rattle.rw_run.specs.declared.trace.TraceEvent.{TraceEvent}
use Rattle.rw_run.specs.declared.trace.TraceEvent.TheVariants.{Solve, Fire as FireLine, Written as WrittenLine}
use Rattle.rw_run.specs.Dispatch.{end_in}
use Rattle.rw_run.specs.Log.{Asked, Cells, Dispatch, Event, Firing, solved, fired, Log, cells_of, value_in}
use Rattle.rw_run.specs.Next.{Policy, asked_by_rule, is_put_again}
use Rattle.rw_run.specs.RunOf.{line_of, lines}
use Rattle.rw_asked.specs.declared.fate.Fate.{Fate}
use Rattle.rw_asked.specs.declared.fate.Fate.TheVariants.{Written, Over, Kept, Denied, Again, Late}

-- ---- what became of a put

-- what is written over another value takes its place
abbrev pub by_end : Content → Content → PutEnd → Fate
by_end held new End.Written = if int_eq held.value new.value then Written else Over held
by_end held new End.Kept = Kept held
by_end held new (End.Denied shown) = Denied shown

abbrev pub by_found : Option Content → Content → PutEnd → Fate
by_found None new end = Written
by_found (Some held) new end = by_end held new end

-- by what the cell holds
abbrev pub fate_over : Option Content → Content → Fate
fate_over found new = by_found found new (end_of_put found new)

-- the cell of the put is of a timestep of the run
abbrev pub is_in_run : Draft → Asked → Bool
is_in_run basin put = nat_le put.cell.step.0 basin.control.stamps.count

-- in a firing also by the puts that follow it there
abbrev pub fate_of : Draft → Cells → Asked → List Asked → Fate
fate_of basin cells put later =
    if is_in_run basin put
    then (if is_put_again basin put later then Again else fate_over (cells put.cell) put.content)
    else Late

-- a put that was asked for, and what became of it
pub record Ask : Type 0 where
  pub put : Asked
  pub fate : Fate

-- the puts are to slots of the basin
abbrev pub AreToSlots : Draft → List Asked → Type 0
AreToSlots basin puts = All (λ (put : Asked). IsSlot basin.objects put.cell.slot.0) puts

-- those of a firing
abbrev pub fates_of : Draft → Cells → List Asked → List Ask
fates_of basin cells [] = []
fates_of basin cells (put ∷ later) =
    record { put = put; fate = fate_of basin cells put later } ∷ fates_of basin cells later

-- those of a dispatch, in which no put is made again and none is after the last timestep
abbrev pub fates_alone : Cells → List Asked → List Ask
fates_alone cells puts = map (λ (put : Asked). record { put = put; fate = fate_over (cells put.cell) put.content }) puts

-- ---- what an event asked for

-- all puts of a firing, those after the last timestep too
abbrev pub wanted_of : ℕ → ℕ → Option Fire → List Asked
wanted_of rule step None = []
wanted_of rule step (Some fire) = map (asked_by_rule rule step) fire.puts

abbrev pub wanted_by : Policy → Cells → Firing → List Asked
wanted_by policy cells firing =
    if firing.is_done then wanted_of firing.rule firing.step (policy.fire firing.rule firing.step (value_in cells)) else []

-- all puts that an event asked for
abbrev pub wanted_in : Policy → Cells → Event → List Asked
wanted_in policy cells (solved dispatch) = dispatch.asked
wanted_in policy cells (fired firing) = wanted_by policy cells firing
wanted_in policy cells event = []

-- with what became of them, where the cells held this before the event
abbrev pub asks_of : Draft → Policy → Cells → Event → List Ask
asks_of basin policy cells (solved dispatch) = fates_alone cells dispatch.asked
asks_of basin policy cells (fired firing) = fates_of basin cells (wanted_by policy cells firing)
asks_of basin policy cells event = []

-- ---- lines

-- one line of a trace that tells each put: a line of the trace, a put that wasn't written, or what was in a cell when it was
pub data AskedLine : Type 0 where
  plain_line : TraceEvent → AskedLine
  left_line : Asked → Fate → AskedLine
  over_line : Cell → Content → AskedLine

-- what is written has its line of the trace, and below it what it took the place of
abbrev pub put_lines : Asked → Fate → List AskedLine
put_lines put Written = plain_line (line_of put) ∷ []
put_lines put (Over held) = plain_line (line_of put) ∷ over_line put.cell held ∷ []
put_lines put fate = left_line put fate ∷ []

abbrev pub lines_of_asks : List Ask → List AskedLine
lines_of_asks [] = []
lines_of_asks (ask ∷ asks) = put_lines ask.put ask.fate ++ lines_of_asks asks

-- the line of the event itself
abbrev pub line_of_event : Event → List TraceEvent
line_of_event (solved dispatch) = Solve (record { 0 = dispatch.object }) ∷ []
line_of_event (fired firing) = FireLine (record { 0 = firing.rule }) firing.is_done firing.count ∷ []
line_of_event event = lines event

-- its line, and below it those of the puts that it asked for, in their order
abbrev pub asked_lines : Draft → Policy → Cells → Event → List AskedLine
asked_lines basin policy cells event =
    map plain_line (line_of_event event) ++ lines_of_asks (asks_of basin policy cells event)

-- the trace with them
abbrev pub asked_trace : Draft → Policy → Log → List AskedLine
asked_trace basin policy [] = []
asked_trace basin policy (event ∷ log) =
    asked_trace basin policy log ++ asked_lines basin policy (cells_of basin log) event

-- the lines of these events, the first of them first, behind a log
abbrev pub asked_after : Draft → Policy → Log → List Event → List AskedLine
asked_after basin policy log [] = []
asked_after basin policy log (event ∷ events) =
    asked_lines basin policy (cells_of basin log) event ++ asked_after basin policy (event ∷ log) events

-- ---- what is read off the lines

-- the line of the trace that it is, if it is one
abbrev pub plain_of : AskedLine → Option TraceEvent
plain_of (plain_line line) = Some line
plain_of (left_line put became) = None
plain_of (over_line cell held) = None

-- without the lines that it hasn't
abbrev pub trace_in : List AskedLine → List TraceEvent
trace_in told = filter_map plain_of told

abbrev pub put_in_line : TraceEvent → Option Asked
put_in_line (WrittenLine slot step content) = Some (record { cell = record { slot = slot; step = step }; content = content })
put_in_line line = None

-- the put that a line tells, written or not, if it tells one
abbrev pub put_told_by : AskedLine → Option Asked
put_told_by (plain_line line) = put_in_line line
put_told_by (left_line put became) = Some put
put_told_by (over_line cell held) = None

-- ---- what a fate says

-- of a put with these puts after it in its firing
abbrev pub IsFateOf : Draft → Cells → Asked → List Asked → Fate → Type 0
IsFateOf basin cells put later Written =
    IfSome (cells put.cell) (λ held. held.value ≡ put.content.value) × (end_in cells put ≡ End.Written)
IsFateOf basin cells put later (Over held) =
    (cells put.cell ≡ Some held) × (held.value ≢ put.content.value) × (end_in cells put ≡ End.Written)
IsFateOf basin cells put later (Kept held) = (cells put.cell ≡ Some held) × (end_in cells put ≡ End.Kept)
IsFateOf basin cells put later (Denied held) = (cells put.cell ≡ Some held) × (end_in cells put ≡ End.Denied held)
IsFateOf basin cells put later Again = IsTrue (is_put_again basin put later)
IsFateOf basin cells put later Late = basin.control.stamps.count < put.cell.step.0

-- it is written or kept
abbrev pub IsGranted : Fate → Type 0
IsGranted Written = Unit {0}
IsGranted (Over held) = Unit {0}
IsGranted (Kept held) = Unit {0}
IsGranted became = ⊥

abbrev pub AllGranted : List Ask → Type 0
AllGranted [] = Unit {0}
AllGranted (ask ∷ asks) = IsGranted ask.fate × AllGranted asks
