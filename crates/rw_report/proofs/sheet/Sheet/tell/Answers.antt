use Rattle.std.proofs.Common.{Bor, List, ap, arith, map, option_map, subst, sym, take, ◌∙◌}
use Rattle.rw_base.specs.declared.number.StepNo.{StepNo}
use Rattle.rw_series.specs.Series.{held}
use Rattle.rw_report.specs.Kept.{TellFirst}
use Rattle.rw_report.specs.Outcome.{outcome_of}
use Rattle.rw_report.specs.Sheet.{AreToldBefore, AreToldOf, Sheet}
use Rattle.rw_report.specs.Whole.{whole_of}
use Rattle.rw_report.specs.declared.kept.KeptLine.{KeptLine}
use Rattle.rw_report.proofs.Keeping.{tells_before, told_by}
use Rattle.rw_report.proofs.sheet.Sheet.tell.Goals as goal

pub count_current-first-requires-clause-same : goal.count_current-first-requires-clause-same
count_current-first-requires-clause-same c =
    let basin = c.self.inside.basin.now in
    let cells = held c.args.run.now.series in
    let less = c.lesser-most.ensures.0 in
    let few = c.count_before-before.ensures.told in
    subst (TellFirst basin cells c.count_before-before.result) (sym c.as_slice-lines.ensures.value)
    (tells_before basin cells c.args.same c.self.inside.told c.count_before-before.result c.self.inside.lines.items c.self.invariant.1.0.1
    (omega (arith, few, less)) c.count_before-before.ensures.same
    (subst (λ (sheet : Sheet). AreToldBefore sheet.basin cells c.args.same sheet.values) (sym c.self.view_is) c.requires.same))

pub returns-in-Ok-clause-text : goal.returns-in-Ok-clause-text
returns-in-Ok-clause-text c =
    c.in-Ok.ensures.section
    ∙ ap (λ (sheet : Sheet). whole_of sheet.basin c.args.telling.now.batch (outcome_of c.args.run.now)
    (option_map (λ (steps : Bor (List StepNo)). steps.now) c.args.telling.now.reran) c.args.telling.now.flags c.args.telling.now.trace) c.self.view_is

pub returns-in-Ok-clause-values : goal.returns-in-Ok-clause-values
returns-in-Ok-clause-values c =
    let cells = held c.args.run.now.series in
    let lines = c.push_pieces.new.lines.items in
    let kept = c.count_kept-kept.result in
    subst (λ (sheet : Sheet). AreToldOf sheet.basin cells (map (λ (line : KeptLine). line.values.items) (take kept lines)))
    c.self.view_is (told_by c.self.inside.basin.now cells lines kept c.in-Ok.ensures.lines.same)
