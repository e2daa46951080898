use Rattle.std.proofs.Common.{◌≡◌, ◌++◌, drop, string_bytes}
use Rattle.rw_run.specs.Trace.{lines_in}
use Rattle.rw_report.specs.Why.{puts_told}
use Rattle.rw_report.proofs.cell.push_puts.Given as goal

-- what is there and what is left of the trace tells are the whole
abbrev pub invariant-loop-place : goal.invariant-loop-place
invariant-loop-place l =
    string_bytes l.text ++ puts_told l.basin l.c l.step.0 (drop l.place (lines_in l.trace))
    ≡ string_bytes l.fn.text ++ puts_told l.basin l.c 0 (lines_in l.trace)
