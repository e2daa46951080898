-- The text of a section with all that it is asked for: which timesteps were run again, the flags, the trace.
use Rattle.std.specs.Prelude.{ℕ, Bool, if◌then◌else◌, List, [], ◌∷◌, ◌++◌, Option, None, Some, codes}
use Rattle.std.specs.Fmt.{decimal}
use Rattle.rw_base.specs.declared.number.StepNo.{StepNo}
use Rattle.rw_model.specs.Draft.{Draft}
use Rattle.rw_report.specs.Section.{columns, heading, rows, trace_heading, values_in}
use Rattle.rw_report.specs.Flags.{flag_table}
use Rattle.rw_report.specs.Lines.{trace_words}
use Rattle.rw_report.specs.Outcome.{RunOutcome}

-- a space and a number for each timestep
abbrev pub steps_words : List StepNo → List ℕ
steps_words [] = []
steps_words (step ∷ steps) = (codes " " ++ decimal step.0) ++ steps_words steps

abbrev pub some_words : List StepNo → List ℕ
some_words [] = codes " none"
some_words (step ∷ steps) = steps_words (step ∷ steps)

-- which timesteps were run again, where that is told
abbrev pub reran_words : Option (List StepNo) → List ℕ
reran_words None = []
reran_words (Some steps) = codes "# reran" ++ (some_words steps ++ codes "\n")

-- a text that is there only where it is asked for
abbrev pub if_asked : Bool → List ℕ → List ℕ
if_asked asked text = if asked then text else []

-- the first line, and which timesteps were run again
abbrev pub section_top : Draft → (batch : ℕ) → RunOutcome → Option (List StepNo) → List ℕ
section_top basin batch run reran = heading basin batch run.end ++ reran_words reran

abbrev pub run_table : Draft → RunOutcome → List ℕ
run_table basin run = columns basin ++ rows basin (values_in run.cells) run.closed

-- who wrote each value, and what happened, where that is asked for
abbrev pub section_tail : Draft → RunOutcome → (flags trace : Bool) → List ℕ
section_tail basin run flags trace =
    if_asked flags (flag_table basin run.cells run.closed) ++ if_asked trace (trace_words basin run.lines)

abbrev pub whole_of : Draft → (batch : ℕ) → RunOutcome → Option (List StepNo) → (flags trace : Bool) → List ℕ
whole_of basin batch run reran flags trace =
    section_top basin batch run reran ++ (run_table basin run ++ section_tail basin run flags trace)

-- the section of a trace: how its run ended, and the table
abbrev pub trace_of_run : Draft → (trace : ℕ) → RunOutcome → List ℕ
trace_of_run basin trace run = trace_heading basin trace run.end ++ run_table basin run
