use Rattle.std.proofs.Common.{◌≡◌, length}
use Rattle.rw_report.specs.Pieces.{AreTexts}
use Rattle.rw_report.specs.Section.{row_front}
use Rattle.rw_report.proofs.handed.fronts_of.Given as goal

-- the texts so far
abbrev pub invariant-loop-before : goal.invariant-loop-before
invariant-loop-before l = (length l.texts.items ≡ l.before) × AreTexts (row_front l.basin) l.texts.items
