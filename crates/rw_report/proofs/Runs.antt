-- The texts of a run by its events.
use Rattle.rw_base.proofs.Common.{◌≡◌, ◌++◌, Bool, IfSome, IsSome, IsTrue, List, None, Option, Some, ap, ap₂, append-nil, arith, false, refl, true, ℕ}
use Rattle.rw_base.specs.declared.number.Cell.{Cell}
use Rattle.rw_base.specs.declared.number.StepNo.{StepNo}
use Rattle.rw_model.specs.Draft.{Draft}
use Rattle.rw_inputs.specs.Inputs.{Inputs}
use Rattle.rw_run.specs.declared.run.Run.{Run}
use Rattle.rw_run.specs.declared.trace.TraceEvent.{TraceEvent}
use Rattle.rw_run.specs.Log.{Log, cells_of}
use Rattle.rw_run.specs.RunOf.{IsRunOf, end_of, last_closed, trace_of}
use Rattle.rw_run.specs.Trace.{lines_in}
use Rattle.rw_report.specs.Section.{heading, section_of, values_in}
use Rattle.rw_report.specs.Outcome.{RunOutcome, outcome_by, outcome_of}
use Rattle.rw_report.specs.Whole.{run_table, whole_of}
use Rattle.rw_report.specs.Why.{why_of}

-- the lines of a trace that is kept
kept_lines : (trace : Option (List TraceEvent)) (lines : List TraceEvent) → IsSome trace → IfSome trace (λ told. told ≡ lines)
    → lines_in trace ≡ lines
kept_lines None lines some is = grind arith
kept_lines (Some told) lines some is = is

-- what is told of a run whose trace has these lines
known : (basin : Draft) (log : Log) (run : Run) (lines : List TraceEvent) → IsRunOf basin log run → lines_in run.trace ≡ lines
    → outcome_of run ≡ record { end = end_of log; closed = last_closed log; cells = cells_of basin log; lines = lines }
known basin log run lines is told = λ i. record {
  end = is.end i;
  closed = is.closed_steps i;
  cells = λ cell. is.cells cell i;
  lines = told i;
}

pub same_outcome : (basin : Draft) (log : Log) (run : Run) → IsRunOf basin log run → IsSome run.trace
    → outcome_of run ≡ outcome_by basin log
same_outcome basin log run is kept =
    known basin log run (trace_of log) is (kept_lines run.trace (trace_of log) kept is.trace)

pub same_reason : (basin : Draft) (inputs : Inputs) (log : Log) (run : Run) (cell : Cell) → IsRunOf basin log run → IsSome run.trace
    → why_of basin inputs (outcome_of run) cell ≡ why_of basin inputs (outcome_by basin log) cell
same_reason basin inputs log run cell is kept =
    ap (λ (told : RunOutcome). why_of basin inputs told cell) (same_outcome basin log run is kept)

pub same_section : (basin : Draft) (batch : ℕ) (log : Log) (run : Run) (reran : Option (List StepNo)) (flags trace : Bool)
    → IsRunOf basin log run → (IsTrue trace → IsSome run.trace)
    → whole_of basin batch (outcome_of run) reran flags trace ≡ whole_of basin batch (outcome_by basin log) reran flags trace
same_section basin batch log run reran flags true is kept =
    ap (λ (told : RunOutcome). whole_of basin batch told reran flags true) (same_outcome basin log run is (kept refl))
same_section basin batch log run reran flags false is kept =
    ap (λ (told : RunOutcome). whole_of basin batch told reran flags false) (known basin log run (lines_in run.trace) is refl)

pub plain_section : (basin : Draft) (batch : ℕ) (run : RunOutcome)
    → whole_of basin batch run None false false ≡ section_of basin batch run.end run.closed (values_in run.cells)
plain_section basin batch run =
    ap₂ (λ top table. top ++ table) (append-nil (heading basin batch run.end)) (append-nil (run_table basin run))
