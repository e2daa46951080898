use Rattle.std.proofs.Common.{◌≡◌, ◌≤◌, ◌+◌, length}
use Rattle.rpl_code.specs.Parting.{parted}
use Rattle.rpl_code.specs.Reading.{read}
use Rattle.rpl_code.specs.Progress.{reading_with}
use Rattle.rpl_code.proofs.reading.read_code.Given as goal

abbrev pub invariant-loop-line : goal.invariant-loop-line
invariant-loop-line l = record {
  -- what is left is read as the whole text is
  left : reading_with l.code.items l.progress l.number (parted 10 l.left) ≡ read l.fn.text;
  lines : l.number + length l.left ≤ length l.fn.text + 1;
}

abbrev pub decreases-loop-line : goal.decreases-loop-line
decreases-loop-line l = length l.left
