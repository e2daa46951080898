-- The lines of a trace, as text.
use Rattle.std.specs.Prelude.{ℕ, Bool, if◌then◌else◌, List, [], ◌∷◌, ◌++◌, codes}
use Rattle.std.specs.Fmt.{decimal}
use Rattle.rw_model.specs.declared.content.Content.{Content}
use Rattle.rw_model.specs.Draft.{Draft}
use Rattle.rw_run.specs.declared.trace.TraceEvent.{TraceEvent}
use Rattle.rw_run.specs.declared.trace.TraceEvent.TheVariants.{Opened, Idle, Solve, Fire, Written, Closed, Fault}
use Rattle.rw_report.specs.Section.{fault_words, object_words, slot_words}
use Rattle.rw_report.specs.Flags.{content_words}

abbrev pub ending_words : Bool → List ℕ
ending_words done = if done then codes " done " else codes " unknown "

-- a put stands below the dispatch or the firing that wrote it
abbrev pub written_words : Draft → (slot step : ℕ) → Content → List ℕ
written_words basin slot step content =
    (codes "  " ++ (slot_words basin slot ++ (codes " " ++ decimal step))) ++ (codes " " ++ content_words content)

abbrev pub line_words : Draft → TraceEvent → List ℕ
line_words basin (Opened step) = codes "open " ++ decimal step.0
line_words basin (Idle object) = codes "idle " ++ object_words basin object.0
line_words basin (Solve object) = codes "solve " ++ object_words basin object.0
line_words basin (Fire rule done count) = (codes "fire " ++ decimal rule.0) ++ (ending_words done ++ decimal count)
line_words basin (Written slot step content) = written_words basin slot.0 step.0 content
line_words basin (Closed step) = codes "close " ++ decimal step.0
line_words basin (Fault fault) = codes "fault " ++ fault_words basin fault

-- each in a line of its own
abbrev pub lines_words : Draft → List TraceEvent → List ℕ
lines_words basin [] = []
lines_words basin (line ∷ lines) = (line_words basin line ++ codes "\n") ++ lines_words basin lines

abbrev pub trace_words : Draft → List TraceEvent → List ℕ
trace_words basin lines = codes "# trace\n" ++ lines_words basin lines
