use Rattle.std.proofs.Common.{Bor, List, [], ap, ap₂, append_assoc, append-nil, option_map, string_bytes, sym, ◌++◌, ◌∙◌}
use Rattle.rw_base.specs.declared.number.StepNo.{StepNo}
use Rattle.rw_series.specs.Series.{held}
use Rattle.rw_report.specs.Outcome.{outcome_of}
use Rattle.rw_report.specs.Section.{columns, rows, values_in}
use Rattle.rw_report.specs.Whole.{section_tail, section_top}
use Rattle.rw_report.proofs.Growing.{afresh}
use Rattle.rw_report.proofs.Handing.{together}
use Rattle.rw_report.proofs.Keeping.{texts_are_rows}
use Rattle.rw_report.proofs.sheet.push_pieces.Goals as goal

pub returns-clause-rows : goal.returns-clause-rows
returns-clause-rows c =
    let lines = c.in_ok-push_kept.ensures.lines in
    c.in_ok-push_kept.ensures.rows
    ∙ sym (texts_are_rows c.args.basin.now (held c.args.run.now.series) c.args.extent.kept c.push_kept.new.lines.items lines.told lines.there lines.same)

pub returns-clause-section : goal.returns-clause-section
returns-clause-section c =
    let basin = c.args.basin.now in
    let telling = c.args.telling.now in
    let run' = c.args.run.now in
    let top = section_top basin telling.batch (outcome_of run') (option_map (λ (steps : Bor (List StepNo)). steps.now) telling.reran) in
    let names = columns basin in
    let kept = c.push_kept.new.text.items in
    let lines = rows basin (values_in (held run'.series)) run'.closed in
    let tail = section_tail basin (outcome_of run') telling.flags telling.trace in
    ap₂ (λ t u. t ++ u)
    (afresh (string_bytes c.args.head.now) (string_bytes c.push_head.new.text) (top ++ names) c.requires.head c.in_ok-push_head.ensures)
    (c.in_ok-push_rest.ensures kept [] (ap (λ t. kept ++ t) c.requires.rest ∙ append-nil kept ∙ c.in_ok-push_kept.ensures.rows))
    ∙ sym (append_assoc (top ++ names) lines tail)
    ∙ together top names lines tail
