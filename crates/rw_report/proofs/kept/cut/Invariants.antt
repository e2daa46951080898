use Rattle.std.proofs.Common.{◌≡◌, ◌≤◌}
use Rattle.rw_report.specs.Kept.{first_texts}
use Rattle.rw_report.proofs.kept.cut.Given as goal

-- the texts of the lines that are left
abbrev pub invariant-loop-left : goal.invariant-loop-left
invariant-loop-left l = ((l.first ≤ l.left) × (l.left ≤ l.told)) × (l.text.items ≡ first_texts l.left l.lines)

abbrev pub decreases-loop-left : goal.decreases-loop-left
decreases-loop-left l = l.left
