use Rattle.rw_base.proofs.Common.{◌++◌, string_bytes, ap, ◌∙◌, codes, decimal}
use Rattle.rw_calendar.specs.Stamps.{end_of_step, stamp_text}
use Rattle.rw_model.specs.declared.control.RunControl.{RunControl}
use Rattle.rw_report.proofs.table.push_stamp.Goals as goal

pub returns : goal.returns
returns c =
    c.in_ok-push_stamped.ensures
    ∙ ap (λ stamp. string_bytes c.args.text.now ++ (decimal c.args.step ++ (codes "," ++ stamp)))
    (c.as_str.ensures.value ∙ c.in_ok-stamp.ensures
    ∙ ap (λ (control : RunControl). stamp_text (end_of_step control.stamps c.args.step)) c.control.ensures)
