use Rattle.std.proofs.Common.{◌≡◌, ◌++◌, drop, string_bytes}
use Rattle.rw_run.specs.Trace.{lines_in}
use Rattle.rw_report.specs.Lines.{lines_words}
use Rattle.rw_report.proofs.lines.push_lines.Given as goal

-- what is there and the lines that are left are the whole
abbrev pub invariant-loop-place : goal.invariant-loop-place
invariant-loop-place l =
    string_bytes l.text ++ lines_words l.basin (drop l.place (lines_in l.trace))
    ≡ string_bytes l.fn.text ++ lines_words l.basin (lines_in l.trace)
