use Rattle.rw_base.proofs.Common.{ap, false, list_any, rules, sym, ◌∙◌, ◌≡◌}
use Rattle.rw_base.specs.declared.number.SlotNo.{SlotNo}
use Rattle.rw_run.specs.Dispatch.{cell_at}
use Rattle.rw_record.specs.Noted.{is_noted}
use Rattle.rw_rerun.proofs.Order.{any_numbers, none_spanned}
use Rattle.rw_rerun.proofs.touched.is_reached.Goals as goal

pub returns-then-not-spans : goal.returns-then-not-spans
returns-then-not-spans c =
    let apart : c.spans.result ≡ false = search rules in
    sym (none_spanned c.args.basin.now c.args.kept.now.looked c.args.cell (sym c.spans.ensures ∙ apart))

pub returns : goal.returns
returns c =
    c.is_one_among.ensures
    ∙ ap (λ these. list_any (λ (slot : SlotNo). is_noted these (cell_at slot.0 c.args.cell.step.0)) c.group.result.now) c.looked.ensures
    ∙ any_numbers (λ slot. is_noted c.args.kept.now.looked (cell_at slot c.args.cell.step.0)) c.group.result.now
    ∙ ap (list_any (λ slot. is_noted c.args.kept.now.looked (cell_at slot c.args.cell.step.0))) c.group.ensures.group
