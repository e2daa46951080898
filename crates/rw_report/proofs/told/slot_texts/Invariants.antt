use Rattle.std.proofs.Common.{◌≡◌, length}
use Rattle.rw_report.specs.Pieces.{AreTexts, slot_behind}
use Rattle.rw_report.proofs.told.slot_texts.Given as goal

-- the texts so far
abbrev pub invariant-loop-before : goal.invariant-loop-before
invariant-loop-before l = (length l.texts.items ≡ l.before) × AreTexts (slot_behind l.basin l.front) l.texts.items
