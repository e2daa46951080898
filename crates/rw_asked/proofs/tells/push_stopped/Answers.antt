use Rattle.rw_base.proofs.Common.{codes, decimal, string_bytes}
use Rattle.rw_report.specs.Flags.{content_words}
use Rattle.rw_report.specs.Section.{slot_words}
use Rattle.rw_asked.proofs.Telling.{held_told}
use Rattle.rw_asked.proofs.tells.push_stopped.Goals as goal

pub returns : goal.returns
returns c =
    let put = c.args.put.now in
    held_told (string_bytes c.args.text.now) (string_bytes c.push_front.new.text) (string_bytes c.push_asked.new.text) (codes "  ")
    c.args.word.now (codes " ") (slot_words c.args.teller.now put.cell.slot.0) (decimal put.cell.step.0) (content_words put.content)
    (codes " held ") (content_words c.args.held) (codes "\n") (string_bytes c.push_held.new.text) c.in_ok-push_front.ensures
    c.in_ok-push_asked.ensures c.in_ok-push_held.ensures
