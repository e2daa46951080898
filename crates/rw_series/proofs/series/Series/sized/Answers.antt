use Rattle.std.proofs.Common.{◌∙◌, sym, ap, subst}
use Rattle.rw_series.specs.Columns.{column_of, AreColumns}
use Rattle.rw_model.specs.declared.control.RunControl.{RunControl}
use Rattle.rw_series.specs.Kept.{content_of}
use Rattle.rw_series.proofs.Blank.{all-unknown}
use Rattle.rw_series.proofs.series.Series.sized.Goals as goal

pub returns-clause-unknown : goal.returns-clause-unknown
returns-clause-unknown c cell =
    all-unknown content_of c.unknown.result c.unknown.ensures c.in_ok-made.made.width c.count-steps.result _ _ c.new-cells.result.items
    c.resize.new.self.items
    c.new-cells.ensures.items c.in_ok-resize.ensures.items (column_of c.in_ok-made.made.columns.items cell.slot.0) cell.step.0

pub returns-clause-made : goal.returns-clause-made
returns-clause-made c = record {
  slots = c.slot_count-slots.ensures.count;
  steps = c.count-steps.ensures.value ∙ ap (λ (control : RunControl). control.stamps.count) c.control.ensures;
  columns =
      subst (λ n. AreColumns c.args.basin.now n c.in_ok-made.made.width c.in_ok-made.made.columns.items) (sym c.slot_count-slots.ensures.count)
      c.in_ok-made.ensures;
  shared = λ one other known shared. returns-clause-unknown c one ∙ sym (returns-clause-unknown c other);
}
