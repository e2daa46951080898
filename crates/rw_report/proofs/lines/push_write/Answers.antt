use Rattle.rw_base.proofs.Common.{codes, decimal, string_bytes}
use Rattle.rw_report.specs.Flags.{content_words}
use Rattle.rw_report.specs.Section.{slot_words}
use Rattle.rw_report.proofs.Adding.{put_line}
use Rattle.rw_report.proofs.lines.push_write.Goals as goal

pub returns : goal.returns
returns c =
    let write = c.args.write in
    put_line (string_bytes c.args.text.now) (string_bytes c.push_front.new.text) (codes "  ") (slot_words c.args.basin.now write.cell.slot.0)
    (codes " ")
    (decimal write.cell.step.0) (content_words write.content) (codes "\n") (string_bytes c.push_put.new.text) c.in_ok-push_front.ensures
    c.in_ok-push_put.ensures
