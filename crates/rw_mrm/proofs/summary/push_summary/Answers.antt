use Rattle.rw_base.proofs.Common.{◌++◌, ◌∙◌, ap₂, string_bytes}
use Rattle.rw_mrm.specs.Summary.{cell_lines, summary_columns, summary_heading, values_in_tally}
use Rattle.rw_mrm.proofs.Parts.{three_parts}
use Rattle.rw_mrm.proofs.summary.push_summary.Goals as goal

pub returns : goal.returns
returns c =
    let front = string_bytes c.args.text.now in
    let tally = c.args.tally.now in
    three_parts c.push_slots.result front (string_bytes c.push_heading.new.text) (string_bytes c.push_columns.new.text)
    (string_bytes c.push_slots.new.text)
    (summary_heading tally.settled tally.runs) summary_columns (cell_lines c.args.basin.now tally.slots tally.steps (values_in_tally tally))
    (c.in_ok-push_heading.ensures ∙ ap₂ (λ settled runs. front ++ summary_heading settled runs) c.settled.ensures c.runs.ensures)
    c.in_ok-push_columns.ensures c.push_slots.ensures
