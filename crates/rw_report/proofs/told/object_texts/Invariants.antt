use Rattle.std.proofs.Common.{◌≡◌, length}
use Rattle.rw_report.specs.Pieces.{AreTexts, object_line}
use Rattle.rw_report.proofs.told.object_texts.Given as goal

-- the texts so far
abbrev pub invariant-loop-before : goal.invariant-loop-before
invariant-loop-before l = (length l.texts.items ≡ l.before) × AreTexts (object_line l.basin l.word) l.texts.items
