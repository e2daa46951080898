-- The first timesteps of a run, and how they go where other inputs were placed before them.
use Rattle.std.specs.Prelude.{◌≡◌, ℕ, ◌+◌, ◌<◌, pos, length, Option, List, [], ◌∷◌, Contains, IsFalse, Some, None}
use Rattle.std.specs.List.{flat_map}
use Rattle.rw_base.specs.declared.number.Cell.{Cell}
use Rattle.rw_model.specs.Draft.{Draft}
use Rattle.rw_run.specs.Frame.{log_after}
use Rattle.rw_run.specs.Log.{Event, Log, cells_of, closed, opened, written_by}
use Rattle.rw_run.specs.Next.{Policy}
use Rattle.rw_inputs.specs.Placings.{placings}
use Rattle.rw_inputs.specs.Inputs.{Inputs}
use Rattle.rw_run.specs.Reuse.{AreRerun}
use Rattle.rw_run.specs.Runs.{Leads, with_inputs, rests, standing}
use Rattle.rw_run.specs.Step.{cells_reached, events_of, reached_by}
use Rattle.rw_run.specs.Timestep.{IsTimestep}
use Rattle.rw_run.specs.declared.held.Held.{Held}
use Rattle.rw_record.specs.Noted.{is_noted}
use Rattle.rw_record.specs.Record.{StepRecord}
use Rattle.rw_engine.specs.Shows.{CanShow}
use Rattle.rw_rerun.specs.Kept.{AreKept, AreStepLinks}
use Rattle.rw_run.specs.Worked.{did, saw, stopped, x_to}

-- a closed timestep as it went: its first event, and those behind it
pub record Went : Type 0 where
  pub first : Event
  pub events : List Event

abbrev pub events_in : Went → List Event
events_in one = one.first ∷ one.events

-- the log behind these timesteps, of which the first one has this number
abbrev pub log_behind : ℕ → List Went → Log → Log
log_behind step [] log = log
log_behind step (one ∷ rest) log = log_behind (step + 1) rest (log_after (events_in one) (opened step ∷ log))

-- each of them goes so behind those before it
abbrev pub TimestepsGo : Draft → Policy → ℕ → List Went → Log → Type 0
TimestepsGo basin policy step [] log = Unit {0}
TimestepsGo basin policy step (one ∷ rest) log =
    IsTimestep basin policy step log one.first one.events
    × TimestepsGo basin policy (step + 1) rest (log_after (events_in one) (opened step ∷ log))

-- the cells at which they looked, and those that their puts reached
abbrev pub cells_touched : Draft → List Went → List Cell
cells_touched basin steps = flat_map (λ one. flat_map (reached_by basin) (events_in one)) steps

-- the cells to which they put, with those that share their values
abbrev pub cells_put : Draft → List Went → List Cell
cells_put basin steps = flat_map (λ one. flat_map (λ event. cells_reached basin (written_by event)) (events_in one)) steps

-- each of these cells is held alike behind both logs
abbrev pub HoldAlike : Draft → Log → Log → List Cell → Type 0
HoldAlike basin one other cells = (cell : Cell) → Contains cells cell → cells_of basin one cell ≡ cells_of basin other cell

-- ---- timesteps that are taken over

-- in this log a run has come behind this timestep, and has taken over each one from an earlier run, of which this is kept
pub record HasTakenOver (basin : Draft) (policy : Policy) (inputs : Inputs) (earlier : Log) (all_kept : List (Option StepRecord)) (log : Log) (step : ℕ) : Type 0 where
  pub many : length all_kept ≡ step
  pub events : List Event
  pub leads : Leads basin policy (with_inputs [] (placings basin inputs)) events log
  pub stands : standing log ≡ rests step
  pub shown : CanShow basin (step + 1) log
  pub later : (other : ℕ) → step < other → events_of other log ≡ []
  pub rerun : AreRerun basin earlier log []
  pub kept : AreKept basin policy log 1 all_kept
  pub linked : AreStepLinks basin policy 1 (with_inputs [] (placings basin inputs)) all_kept log

-- each cell of these records is held alike behind both logs
abbrev pub AreAlikeIn : Draft → Log → Log → List StepRecord → Type 0
AreAlikeIn basin one other [] = Unit {0}
AreAlikeIn basin one other (kept ∷ rest) =
    ((one_of : Held) → Contains kept.looked one_of → cells_of basin one one_of.cell ≡ cells_of basin other one_of.cell)
    × AreAlikeIn basin one other rest

-- none of these records holds the cell
abbrev pub AreWithout : Cell → List StepRecord → Type 0
AreWithout cell [] = Unit {0}
AreWithout cell (kept ∷ rest) = IsFalse (is_noted kept.looked cell) × AreWithout cell rest

-- the timesteps of these records, too, are taken over, up to a log that holds alike what was alike before them
pub record TakesOver (basin : Draft) (policy : Policy) (inputs : Inputs) (earlier : Log) (all_kept : List (Option StepRecord)) (one other end : Log) (step : ℕ) : Type 0 where
  pub log : Log
  pub taken : HasTakenOver basin policy inputs earlier all_kept log step
  pub alike : (cell : Cell) → cells_of basin one cell ≡ cells_of basin other cell → cells_of basin end cell ≡ cells_of basin log cell

-- ---- worked out

-- a day on which rule 1 of `raised` looks at X three times, and rule 2 sets it
abbrev pub raised_day : ℕ → Went
raised_day step = record {
  first = stopped 1 step (saw 1 step None);
  events = did 2 step [] (x_to (pos 0)) (x_to (pos 0)) 2 ∷
      did 1 step (saw 1 step (Some (pos 0))) (x_to (pos 10)) (x_to (pos 10)) 6 ∷
      did 1 step (saw 1 step (Some (pos 10))) (x_to (pos 10)) [] 6 ∷
      closed step ∷ [];
}

abbrev pub raised_days : List Went
raised_days = raised_day 1 ∷ raised_day 2 ∷ []
