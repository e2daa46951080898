use Rattle.std.proofs.Common.{[], append-nil, append_assoc, string_bytes, sym, ◌++◌, ◌∙◌}
use Rattle.rw_series.specs.Series.{held}
use Rattle.rw_report.specs.Section.{columns, rows, values_in}
use Rattle.rw_report.proofs.whole.push_table.Goals as goal

pub returns : goal.returns
returns c =
    let basin = c.args.basin.now in
    let old = string_bytes c.args.text.now in
    let run' = c.args.run.now in
    c.in_ok-push_rows.ensures [] (old ++ columns basin) (c.in_ok-push_columns.ensures ∙ sym (append-nil (old ++ columns basin)))
    ∙ append_assoc old (columns basin) (rows basin (values_in (held run'.series)) run'.closed)
