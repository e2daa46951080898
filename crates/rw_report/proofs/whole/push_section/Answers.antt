use Rattle.std.proofs.Common.{Bor, List, [], ap, append-nil, append_assoc, option_map, string_bytes, sym, ◌++◌, ◌∙◌}
use Rattle.rw_base.specs.declared.number.StepNo.{StepNo}
use Rattle.rw_series.specs.Series.{held}
use Rattle.rw_report.specs.Outcome.{outcome_of}
use Rattle.rw_report.specs.Section.{columns, rows, values_in}
use Rattle.rw_report.specs.Whole.{section_tail, section_top}
use Rattle.rw_report.proofs.Handing.{together}
use Rattle.rw_report.proofs.whole.push_section.Goals as goal

pub returns : goal.returns
returns c =
    let basin = c.args.basin.now in
    let telling = c.args.telling.now in
    let run' = c.args.run.now in
    let old = string_bytes c.args.text.now in
    let top = section_top basin telling.batch (outcome_of run') (option_map (λ (steps : Bor (List StepNo)). steps.now) telling.reran) in
    let names = columns basin in
    let lines = rows basin (values_in (held run'.series)) run'.closed in
    let tail = section_tail basin (outcome_of run') telling.flags telling.trace in
    c.in_ok-push_rest.ensures [] (old ++ (top ++ names)) (c.in_ok-push_head.ensures ∙ sym (append-nil (old ++ (top ++ names))))
    ∙ ap (λ t. (t ++ lines) ++ tail) (sym (append_assoc old top names))
    ∙ together (old ++ top) names lines tail
    ∙ append_assoc old top ((names ++ lines) ++ tail)
