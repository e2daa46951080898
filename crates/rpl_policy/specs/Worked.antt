-- Runs of code and of rulesets, worked out by hand: a dam that two rules hold below a mark, and a data object with numbers X and Y.
use Rattle.std.specs.Prelude.{ℕ, ℤ, pos, true, false, List, [], ◌∷◌, Option, Some, None}
use Rattle.rw_base.specs.declared.number.Cell.{Cell}
use Rattle.rw_model.specs.Draft.{Draft}
use Rattle.rw_model.specs.declared.control.AgendaOrder.TheVariants.{LowFirst}
use Rattle.rw_model.specs.declared.writer.Writer.{Writer}
use Rattle.rw_model.specs.declared.writer.Writer.TheVariants.{Object, Rule}
use Rattle.rw_firing.specs.declared.look.Look.{Look}
use Rattle.rw_run.specs.Dispatch.{cell_at}
use Rattle.rw_run.specs.Log.{Asked, Event, closed, fault, fired, idle, opened, solved}
use Rattle.rw_run.specs.declared.fault.RunFault.TheVariants.{ZeroDivisor}
use Rattle.rw_run.specs.declared.trace.TraceEvent.{TraceEvent}
use Rattle.rw_run.specs.declared.trace.TraceEvent.TheVariants.{Closed, Fire, Idle, Opened, Solve, Written}
use Rattle.rpl_tree.specs.Worked.{basin_over_days, dam, numbers_object}

-- ---- events

-- what is asked for in a slot on a day
abbrev pub asked_at : ℕ → ℕ → ℤ → ℕ → Writer → Asked
asked_at slot day value number writer =
    record { cell = cell_at slot day; content = record { value = value; number = number; writer = writer } }

abbrev pub put_asked_by_rule : ℕ → ℕ → ℤ → ℕ → Asked
put_asked_by_rule slot day value rule = asked_at slot day value rule (Rule (record { 0 = rule }))

abbrev pub saw_on_day : ℕ → ℕ → Option ℤ → Look
saw_on_day slot day value = record { cell = cell_at slot day; seen = value }

-- a rule came to its end
abbrev pub rule_did : ℕ → ℕ → List Look → List Asked → List Asked → ℕ → Event
rule_did rule day looked asked written count =
    fired (record { rule = rule; step = day; is_done = true; looked = looked; asked = asked; written = written; count = count })

-- a rule came to an unknown value
abbrev pub rule_stopped : ℕ → ℕ → List Look → ℕ → Event
rule_stopped rule day looked count =
    fired (record { rule = rule; step = day; is_done = false; looked = looked; asked = []; written = []; count = count })

-- ---- a dam

-- one day, from rule 2 on
abbrev pub dam_basin : Draft
dam_basin =
    let basin : Draft = basin_over_days 1 (dam ∷ []) in
    record basin { control = record (basin.control) { agenda = LowFirst } }

-- 100 flow in
abbrev pub dam_inflow : List (Cell × ℤ)
dam_inflow = (cell_at 1 1, pos 100) ∷ []

-- what a dispatch sees of inflow, outflow and storage
abbrev pub saw_whole_dam : Option ℤ → Option ℤ → List Look
saw_whole_dam outflow storage = saw_on_day 1 1 (Some (pos 100)) ∷ saw_on_day 2 1 outflow ∷ saw_on_day 3 1 storage ∷ []

-- the dam solves for a slot
abbrev pub dam_solves : List Look → ℕ → ℤ → ℕ → Event
dam_solves looked slot value number =
    let asked : List Asked = asked_at slot 1 value number (Object (record { 0 = 1 })) ∷ [] in
    solved (record { object = 1; step = 1; looked = looked; asked = asked; written = asked })

-- rule 2 lets 50 out, rule 1 holds the storage at 1020, and the dam solves for what follows of each
abbrev pub dam_run : List Event
dam_run =
    opened 1 ∷
    idle 1 1 (saw_whole_dam None None) ∷
    rule_did 2 1 [] (put_asked_by_rule 2 1 (pos 50) 2 ∷ []) (put_asked_by_rule 2 1 (pos 50) 2 ∷ []) 2 ∷
    dam_solves (saw_whole_dam (Some (pos 50)) None) 3 (pos 1050) 2 ∷
    rule_did 1 1 (saw_on_day 3 1 (Some (pos 1050)) ∷ []) (put_asked_by_rule 3 1 (pos 1020) 1 ∷ []) (put_asked_by_rule 3 1 (pos 1020) 1 ∷ []) 6 ∷
    dam_solves (saw_whole_dam (Some (pos 50)) (Some (pos 1020))) 2 (pos 80) 1 ∷
    rule_did 1 1 (saw_on_day 3 1 (Some (pos 1020)) ∷ []) (put_asked_by_rule 3 1 (pos 1020) 1 ∷ []) [] 6 ∷
    closed 1 ∷ []

abbrev pub told_line : ℕ → ℤ → ℕ → Writer → TraceEvent
told_line slot value number writer =
    Written (record { 0 = slot }) (record { 0 = 1 }) (record { value = value; number = number; writer = writer })

-- its trace
abbrev pub dam_trace : List TraceEvent
dam_trace =
    Opened (record { 0 = 1 }) ∷
    Idle (record { 0 = 1 }) ∷
    Fire (record { 0 = 2 }) true 2 ∷ told_line 2 (pos 50) 2 (Rule (record { 0 = 2 })) ∷
    Solve (record { 0 = 1 }) ∷ told_line 3 (pos 1050) 2 (Object (record { 0 = 1 })) ∷
    Fire (record { 0 = 1 }) true 6 ∷ told_line 3 (pos 1020) 1 (Rule (record { 0 = 1 })) ∷
    Solve (record { 0 = 1 }) ∷ told_line 2 (pos 80) 1 (Object (record { 0 = 1 })) ∷
    Fire (record { 0 = 1 }) true 6 ∷
    Closed (record { 0 = 1 }) ∷ []

-- ---- numbers

abbrev pub basin_of_numbers : ℕ → Draft
basin_of_numbers days = basin_over_days days (numbers_object ∷ [])

-- rule 1 raises X to 10 and rule 2 sets it to 0
abbrev pub raised_policy_run : List Event
raised_policy_run =
    opened 1 ∷
    rule_stopped 1 1 (saw_on_day 1 1 None ∷ []) 3 ∷
    rule_did 2 1 [] (put_asked_by_rule 1 1 (pos 0) 2 ∷ []) (put_asked_by_rule 1 1 (pos 0) 2 ∷ []) 2 ∷
    rule_did 1 1 (saw_on_day 1 1 (Some (pos 0)) ∷ []) (put_asked_by_rule 1 1 (pos 10) 1 ∷ []) (put_asked_by_rule 1 1 (pos 10) 1 ∷ []) 6 ∷
    rule_did 1 1 (saw_on_day 1 1 (Some (pos 10)) ∷ []) (put_asked_by_rule 1 1 (pos 10) 1 ∷ []) [] 6 ∷
    closed 1 ∷ []

-- Y is 3 on the first day, and unknown on the second
abbrev pub three_given : List (Cell × ℤ)
three_given = (cell_at 2 1, pos 3) ∷ []

-- X is a hundredth of it
abbrev pub thirds_run : List Event
thirds_run =
    opened 1 ∷ rule_did 1 1 (saw_on_day 2 1 (Some (pos 3)) ∷ []) (put_asked_by_rule 1 1 (pos 33) 1 ∷ []) (put_asked_by_rule 1 1 (pos 33) 1 ∷ []) 6 ∷ closed 1 ∷
    opened 2 ∷ rule_stopped 1 2 (saw_on_day 2 2 None ∷ []) 4 ∷ closed 2 ∷ []

-- Y is 5 and then 0
abbrev pub five_and_none : List (Cell × ℤ)
five_and_none = (cell_at 2 1, pos 5) ∷ (cell_at 2 2, pos 0) ∷ []

abbrev pub divided_policy_run : List Event
divided_policy_run =
    opened 1 ∷ rule_did 1 1 (saw_on_day 2 1 (Some (pos 5)) ∷ []) (put_asked_by_rule 1 1 (pos 20) 1 ∷ []) (put_asked_by_rule 1 1 (pos 20) 1 ∷ []) 6 ∷ closed 1 ∷
    opened 2 ∷ fault (ZeroDivisor (record { 0 = 1 }) (record { 0 = 2 })) ∷ []
