use Rattle.rw_base.proofs.Common.{codes, decimal, string_bytes}
use Rattle.rw_report.specs.Flags.{content_words}
use Rattle.rw_report.specs.Section.{slot_words}
use Rattle.rw_asked.proofs.Telling.{word_told}
use Rattle.rw_asked.proofs.tells.push_word_line.Goals as goal

pub returns : goal.returns
returns c =
    word_told (string_bytes c.args.text.now) (string_bytes c.push_front.new.text) (codes "  ") c.args.word.now (codes " ")
    (slot_words c.args.teller.now c.args.cell.slot.0) (decimal c.args.cell.step.0) (content_words c.args.content) (codes "\n")
    (string_bytes c.push_put.new.text) c.in_ok-push_front.ensures c.in_ok-push_put.ensures
