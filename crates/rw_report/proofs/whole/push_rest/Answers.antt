use Rattle.std.proofs.Common.{ap, string_bytes, ◌++◌, ◌∙◌}
use Rattle.rw_run.specs.Trace.{lines_in}
use Rattle.rw_series.specs.Series.{held}
use Rattle.rw_report.specs.Flags.{flag_table}
use Rattle.rw_report.specs.Lines.{trace_words}
use Rattle.rw_report.specs.Section.{rows, values_in}
use Rattle.rw_report.specs.Whole.{if_asked}
use Rattle.rw_report.proofs.Growing.{behind, both}
use Rattle.rw_report.proofs.whole.push_rest.Goals as goal

pub returns : goal.returns
returns c = λ front back is.
    let basin = c.args.basin.now in
    let run' = c.args.run.now in
    let lines = back ++ rows basin (values_in (held run'.series)) run'.closed in
    let flags = if_asked c.args.telling.now.flags (flag_table basin (held run'.series) run'.closed) in
    let trace = if_asked c.args.telling.now.trace (trace_words basin (lines_in run'.trace)) in
    let one = string_bytes c.push_rows.new.text in
    let two = string_bytes c.push_flags_if.new.text in
    let three = string_bytes c.push_trace_if.new.text in
    both lines (front ++ two) (front ++ three) flags trace
    (behind front one two flags c.in_ok-push_flags_if.ensures ∙ ap (λ t. t ++ flags) (c.in_ok-push_rows.ensures front back is))
    (behind front two three trace c.in_ok-push_trace_if.ensures)
