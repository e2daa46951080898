-- Small runs and logs, worked out by hand, on which the laws are read.
use Rattle.std.specs.Prelude.{ℕ, ℤ, pos, codes, true, false, List, [], ◌∷◌, Option, Some, None, if◌then◌else◌, ◌==◌}
use Rattle.std.specs.Int.{int_min}
use Rattle.rw_base.specs.declared.number.Cell.{Cell}
use Rattle.rw_calendar.specs.Moment.{moment_on}
use Rattle.rw_calendar.specs.declared.step_length.StepLength.TheVariants.{Hours}
use Rattle.rw_model.specs.Draft.{Draft}
use Rattle.rw_model.specs.declared.control.AgendaOrder.TheVariants.{LowFirst}
use Rattle.rw_model.specs.declared.kind.Kind.{Kind}
use Rattle.rw_model.specs.declared.kind.Kind.TheVariants.{Gage, Reservoir}
use Rattle.rw_model.specs.declared.writer.Writer.{Writer}
use Rattle.rw_model.specs.declared.writer.Writer.TheVariants.{Object as ByObject, Rule}
use Rattle.rw_firing.specs.Fire.{Fire}
use Rattle.rw_firing.specs.declared.fire.FireEnd.TheVariants.{Done, Unknown}
use Rattle.rw_firing.specs.declared.look.Look.{Look}
use Rattle.rw_run.specs.Dispatch.{cell_at}
use Rattle.rw_run.specs.Frame.{log_after}
use Rattle.rw_run.specs.Log.{Asked, Cells, Event, Firing, Log, closed, fired, placed, idle, opened, solved}
use Rattle.rw_run.specs.Next.{Policy}
use Rattle.rw_run.specs.Runs.{with_inputs}

-- one object over one day, from the last rule on
abbrev pub one_object : List ℕ → Kind → Draft
one_object name kind = record {
  control = record {
    stamps = record { start = moment_on 2020 1 1 0; step_length = Hours 24; count = 1 };
    agenda = LowFirst;
    object_limit = 50;
    rule_limit = 20;
    ahead = 0;
  };
  objects = record { name = name; kind = kind } ∷ [];
  links = [];
  bounds = [];
}

abbrev pub plain_dam : Kind
plain_dam = Reservoir (pos 1000) None false false false false None

-- a dam that held 1000: slots 1, 2, 3 are its inflow, outflow and storage
abbrev pub dam_alone : Draft
dam_alone = one_object (codes "Dam") plain_dam

abbrev pub put_at : ℕ → ℤ → ℕ → Writer → Asked
put_at slot value number writer = record { cell = cell_at slot 1; content = record { value = value; number = number; writer = writer } }

abbrev pub saw_first_day : ℕ → Option ℤ → Look
saw_first_day slot value = record { cell = cell_at slot 1; seen = value }

abbrev pub saw_dam : Option ℤ → Option ℤ → List Look
saw_dam outflow storage = saw_first_day 1 (Some (pos 100)) ∷ saw_first_day 2 outflow ∷ saw_first_day 3 storage ∷ []

abbrev pub let_out : Option Fire
let_out = Some (record { end = Done; looked = []; puts = record { slot = record { 0 = 2 }; ahead = 0; value = pos 50 } ∷ []; count = 2 })

abbrev pub capped_storage : Option ℤ → Option Fire
capped_storage None = Some (record { end = Unknown; looked = cell_at 3 1 ∷ []; puts = []; count = 3 })
capped_storage (Some storage) =
    Some (record { end = Done; looked = cell_at 3 1 ∷ []; puts = record { slot = record { 0 = 3 }; ahead = 0; value = int_min storage (pos 1020) } ∷ []; count = 6 })

-- rule 1 holds the storage at 1020, and rule 2 lets 50 out
abbrev pub held_low : Policy
held_low = record { rules = 2; fire = λ rule step values. if rule == 1 then capped_storage (values (cell_at 3 1)) else let_out }

abbrev pub inflow : List (Cell × ℤ)
inflow = (cell_at 1 1, pos 100) ∷ []

abbrev pub object_solves : List Look → ℕ → ℤ → ℕ → Event
object_solves looked slot value number = solved (record {
  object = 1;
  step = 1;
  looked = looked;
  asked = put_at slot value number (ByObject (record { 0 = 1 })) ∷ [];
  written = put_at slot value number (ByObject (record { 0 = 1 })) ∷ [];
})

abbrev pub fires : ℕ → List Look → List Asked → List Asked → ℕ → Event
fires rule looked asked written count = fired (record { rule = rule; step = 1; is_done = true; looked = looked; asked = asked; written = written; count = count })

abbrev pub by_rule : ℕ → ℕ → ℤ → Asked
by_rule rule slot value = put_at slot value rule (Rule (record { 0 = rule }))

-- its events up to the closing
abbrev pub dam_events : List Event
dam_events =
    opened 1 ∷
    idle 1 1 (saw_dam None None) ∷
    fires 2 [] (by_rule 2 2 (pos 50) ∷ []) (by_rule 2 2 (pos 50) ∷ []) 2 ∷
    object_solves (saw_dam (Some (pos 50)) None) 3 (pos 1050) 2 ∷
    fires 1 (saw_first_day 3 (Some (pos 1050)) ∷ []) (by_rule 1 3 (pos 1020) ∷ []) (by_rule 1 3 (pos 1020) ∷ []) 6 ∷
    object_solves (saw_dam (Some (pos 50)) (Some (pos 1020))) 2 (pos 80) 1 ∷
    fires 1 (saw_first_day 3 (Some (pos 1020)) ∷ []) (by_rule 1 3 (pos 1020) ∷ []) [] 6 ∷ []

abbrev pub dam_log : Log
dam_log = log_after dam_events (with_inputs [] inflow)

-- a log that is none of a run: 1 flows into a gage and 2 flow out
abbrev pub gage : Draft
gage = one_object (codes "G") Gage

abbrev pub torn : Log
torn = placed (cell_at 2 1) (pos 2) ∷ placed (cell_at 1 1) (pos 1) ∷ []

-- another: a rule of number 2 writes over what one of number 1 wrote
abbrev pub weakened : Log
weakened = fires 2 [] [] (by_rule 2 1 (pos 6) ∷ []) 0 ∷ fires 1 [] [] (by_rule 1 1 (pos 5) ∷ []) 0 ∷ []

-- another: the gage writes over what was given
abbrev pub given_over : Log
given_over = object_solves [] 1 (pos 7) 0 ∷ placed (cell_at 1 1) (pos 5) ∷ []

-- another: no rule fired
abbrev pub started : Log
started = opened 1 ∷ []

-- another: 3 flow out of the gage after the timestep was closed
abbrev pub changed_after : Log
changed_after = object_solves [] 2 (pos 3) 0 ∷ closed 1 ∷ torn

-- cells that no log of a basin leaves whose slots 1 and 2 are linked
abbrev pub apart : Cells
apart cell = if cell.slot.0 == 1 then Some (by_rule 1 1 (pos 5)).content else None

-- what rule 2 does on the dam's day
abbrev pub fifty_out : Firing
fifty_out = record {
  rule = 2;
  step = 1;
  is_done = true;
  looked = [];
  asked = by_rule 2 2 (pos 50) ∷ [];
  written = by_rule 2 2 (pos 50) ∷ [];
  count = 2;
}

-- the day's log with that firing alone
abbrev pub day_of_firing : Firing → Log
day_of_firing firing = fired firing ∷ opened 1 ∷ []
