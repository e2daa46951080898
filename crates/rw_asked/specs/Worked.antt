-- Traces that tell each put, worked out by hand.
use Rattle.std.specs.Prelude.{ℕ, ◌+◌, ℤ, pos, codes, false, true, List, [], ◌∷◌, ◌++◌, map, Option, Some, None, if◌then◌else◌, ◌==◌}
use Rattle.std.specs.Int.{int_min, int_max}
use Rattle.rw_base.specs.declared.number.Cell.{Cell}
use Rattle.rw_calendar.specs.Moment.{moment_on}
use Rattle.rw_calendar.specs.declared.step_length.StepLength.TheVariants.{Hours}
use Rattle.rw_model.specs.Draft.{Draft}
use Rattle.rw_model.specs.declared.content.Content.{Content}
use Rattle.rw_model.specs.declared.control.AgendaOrder.TheVariants.{LowFirst}
use Rattle.rw_model.specs.declared.kind.Kind.{Kind}
use Rattle.rw_model.specs.declared.kind.Kind.TheVariants.{Reservoir}
use Rattle.rw_model.specs.declared.writer.Writer.{Writer}
use Rattle.rw_model.specs.declared.writer.Writer.TheVariants.{Input, Object as ByObject, Rule}
use Rattle.rw_firing.specs.Fire.{Fire}
use Rattle.rw_firing.specs.declared.fire.FireEnd.TheVariants.{Done, Unknown}
use Rattle.rw_firing.specs.declared.fire.RulePut.{RulePut}
use Rattle.rw_firing.specs.declared.look.Look.{Look}
use Rattle.rw_run.specs.declared.trace.TraceEvent.{TraceEvent}
use Rattle.rw_run.specs.declared.trace.TraceEvent.TheVariants.{Opened, Idle, Solve, Fire as FireLine, Written as WrittenLine, Closed}
use Rattle.rw_run.specs.Dispatch.{cell_at}
use Rattle.rw_run.specs.Frame.{log_after}
use Rattle.rw_run.specs.Log.{Asked, Cells, Event, Log, closed, fired, idle, opened, solved}
use Rattle.rw_run.specs.Next.{Policy}
use Rattle.rw_run.specs.Runs.{with_inputs}
use Rattle.rw_asked.specs.declared.fate.Fate.{Fate}
use Rattle.rw_asked.specs.declared.fate.Fate.TheVariants.{Denied, Kept}
use Rattle.rw_asked.specs.Asked.{AskedLine, plain_line, left_line, over_line, asked_trace}

abbrev pub by_rule_of : ℕ → ℤ → Content
by_rule_of rule value = record { value = value; number = rule; writer = Rule (record { 0 = rule }) }

abbrev pub given_value : ℤ → Content
given_value value = record { value = value; number = 0; writer = Input }

abbrev pub opens_at : ℕ → AskedLine
opens_at step = plain_line (Opened (record { 0 = step }))

abbrev pub closes_at : ℕ → AskedLine
closes_at step = plain_line (Closed (record { 0 = step }))

abbrev pub fires_so : ℕ → ℕ → AskedLine
fires_so rule count = plain_line (FireLine (record { 0 = rule }) true count)

abbrev pub wrote : ℕ → ℕ → Content → AskedLine
wrote slot step content = plain_line (WrittenLine (record { 0 = slot }) (record { 0 = step }) content)

abbrev pub left_line_at : ℕ → ℕ → Content → Fate → AskedLine
left_line_at slot step content fate = left_line (record { cell = cell_at slot step; content = content }) fate

abbrev pub over_line_at : ℕ → ℕ → Content → AskedLine
over_line_at slot step held = over_line (cell_at slot step) held

abbrev pub stops_so : ℕ → ℕ → AskedLine
stops_so rule count = plain_line (FireLine (record { 0 = rule }) false count)

-- the trace of these events behind the inputs
abbrev pub asked_of_run : Draft → Policy → List (Cell × ℤ) → List Event → List AskedLine
asked_of_run basin policy inputs events = asked_trace basin policy (log_after events (with_inputs [] inputs))

-- ---- a rule that confirms takes hold: two dams, of which the upper lets out into the lower; slots 1 to 3 and 4 to 6

abbrev pub plain_dam_of : Kind
plain_dam_of = Reservoir (pos 1000) None false false false false None

abbrev pub two_dams : Draft
two_dams = record {
  control = record {
    stamps = record { start = moment_on 2021 1 1 0; step_length = Hours 24; count = 1 };
    agenda = LowFirst;
    object_limit = 50;
    rule_limit = 20;
    ahead = 0;
  };
  objects = record { name = codes "Upper"; kind = plain_dam_of } ∷ record { name = codes "Lower"; kind = plain_dam_of } ∷ [];
  links = (2 ∷ 4 ∷ []) ∷ [];
  bounds = [];
}

abbrev pub sets_from : ℕ → ℕ → (ℤ → ℤ) → ℕ → Option ℤ → Option Fire
sets_from from to make count None = Some (record { end = Unknown; looked = cell_at from 1 ∷ []; puts = []; count = 3 })
sets_from from to make count (Some value) = Some (record {
  end = Done;
  looked = cell_at from 1 ∷ [];
  puts = record { slot = record { 0 = to }; ahead = 0; value = make value } ∷ [];
  count = count;
})

abbrev pub usual_release : Option Fire
usual_release = Some (record { end = Done; looked = []; puts = record { slot = record { 0 = 2 }; ahead = 0; value = pos 50 } ∷ []; count = 2 })

-- rule 1 holds the upper storage at 1020, rule 2 raises the lower outflow to 40, rule 3 passes on, rule 4 lets out 50
abbrev pub confirms : Policy
confirms = record {
  rules = 4;
  fire = λ rule step values.
      if rule == 1 then sets_from 3 3 (λ v. int_min v (pos 1020)) 6 (values (cell_at 3 1))
      else (if rule == 2 then sets_from 5 5 (λ v. int_max v (pos 40)) 6 (values (cell_at 5 1))
      else (if rule == 3 then sets_from 4 5 (λ v. v) 4 (values (cell_at 4 1)) else usual_release));
}

abbrev pub upper_inflow : List (Cell × ℤ)
upper_inflow = (cell_at 1 1, pos 100) ∷ []

abbrev pub sees : ℕ → Option ℤ → Look
sees slot value = record { cell = cell_at slot 1; seen = value }

abbrev pub sees_three : ℕ → Option ℤ → Option ℤ → Option ℤ → List Look
sees_three first inflow outflow storage = sees first inflow ∷ sees (first + 1) outflow ∷ sees (first + 2) storage ∷ []

abbrev pub by_object_of : ℕ → ℕ → ℤ → Content
by_object_of object number value = record { value = value; number = number; writer = ByObject (record { 0 = object }) }

abbrev pub puts_to : ℕ → Content → List Asked
puts_to slot content = record { cell = cell_at slot 1; content = content } ∷ []

abbrev pub dam_solved : ℕ → List Look → List Asked → List Asked → Event
dam_solved object looked asked written = solved (record { object = object; step = 1; looked = looked; asked = asked; written = written })

abbrev pub rule_fires : ℕ → List Look → List Asked → List Asked → ℕ → Event
rule_fires rule looked asked written count =
    fired (record { rule = rule; step = 1; is_done = true; looked = looked; asked = asked; written = written; count = count })

abbrev pub confirmed_run : List Event
confirmed_run =
    opened 1 ∷
    idle 1 1 (sees_three 1 (Some (pos 100)) None None) ∷
    idle 2 1 (sees_three 4 None None None) ∷
    rule_fires 4 [] (puts_to 2 (by_rule_of 4 (pos 50))) (puts_to 2 (by_rule_of 4 (pos 50))) 2 ∷
    dam_solved 1 (sees_three 1 (Some (pos 100)) (Some (pos 50)) None) (puts_to 3 (by_object_of 1 4 (pos 1050))) (puts_to 3 (by_object_of 1 4 (pos 1050))) ∷
    idle 2 1 (sees_three 4 (Some (pos 50)) None None) ∷
    rule_fires 3 (sees 4 (Some (pos 50)) ∷ []) (puts_to 5 (by_rule_of 3 (pos 50))) (puts_to 5 (by_rule_of 3 (pos 50))) 4 ∷
    dam_solved 2 (sees_three 4 (Some (pos 50)) (Some (pos 50)) None) (puts_to 6 (by_object_of 2 4 (pos 1000))) (puts_to 6 (by_object_of 2 4 (pos 1000))) ∷
    rule_fires 2 (sees 5 (Some (pos 50)) ∷ []) (puts_to 5 (by_rule_of 2 (pos 50))) (puts_to 5 (by_rule_of 2 (pos 50))) 6 ∷
    dam_solved 2 (sees_three 4 (Some (pos 50)) (Some (pos 50)) (Some (pos 1000))) (puts_to 6 (by_object_of 2 4 (pos 1000))) [] ∷
    rule_fires 1 (sees 3 (Some (pos 1050)) ∷ []) (puts_to 3 (by_rule_of 1 (pos 1020))) (puts_to 3 (by_rule_of 1 (pos 1020))) 6 ∷
    dam_solved 1 (sees_three 1 (Some (pos 100)) (Some (pos 50)) (Some (pos 1020))) (puts_to 2 (by_object_of 1 1 (pos 80))) (puts_to 2 (by_object_of 1 1 (pos 80))) ∷
    dam_solved 2 (sees_three 4 (Some (pos 80)) (Some (pos 50)) (Some (pos 1000))) (puts_to 6 (by_object_of 2 2 (pos 1030))) (puts_to 6 (by_object_of 2 2 (pos 1030))) ∷
    rule_fires 3 (sees 4 (Some (pos 80)) ∷ []) (puts_to 5 (by_rule_of 3 (pos 80))) [] 4 ∷
    rule_fires 1 (sees 3 (Some (pos 1020)) ∷ []) (puts_to 3 (by_rule_of 1 (pos 1020))) [] 6 ∷
    closed 1 ∷ []

abbrev pub solves_dam : ℕ → AskedLine
solves_dam object = plain_line (Solve (record { 0 = object }))

-- what the last events of it tell: the lower dam keeps its outflow of 50
abbrev pub confirmed_end : List AskedLine
confirmed_end =
    solves_dam 2 ∷ wrote 6 1 (by_object_of 2 2 (pos 1030)) ∷ over_line_at 6 1 (by_object_of 2 4 (pos 1000)) ∷
    fires_so 3 4 ∷ left_line_at 5 1 (by_rule_of 3 (pos 80)) (Denied (by_rule_of 2 (pos 50))) ∷
    fires_so 1 6 ∷ left_line_at 3 1 (by_rule_of 1 (pos 1020)) (Kept (by_rule_of 1 (pos 1020))) ∷
    closes_at 1 ∷ []

-- ---- single puts

-- of rule 1 to the first slot at a timestep
abbrev pub put_alone : ℕ → ℤ → Asked
put_alone step value = record { cell = cell_at 1 step; content = by_rule_of 1 value }

abbrev pub holds_nothing : Cells
holds_nothing cell = None

-- each cell holds this, by rule 1
abbrev pub holds_all : ℤ → Cells
holds_all value cell = Some (by_rule_of 1 value)
