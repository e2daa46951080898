use Rattle.std.proofs.Common.{◌≡◌, length}
use Rattle.rpl_code.specs.Parting.{parted}
use Rattle.rpl_code.specs.Words.{each_kind}
use Rattle.rpl_code.proofs.WordsTried.{kinds_with}
use Rattle.rpl_code.proofs.kind_words.each_kind.Given as goal

-- the kinds that were read and those of what is left are all
abbrev pub invariant-loop-word : goal.invariant-loop-word
invariant-loop-word l = kinds_with l.kinds.items (parted 44 l.left) ≡ each_kind (parted 44 l.fn.words)

abbrev pub decreases-loop-word : goal.decreases-loop-word
decreases-loop-word l = length l.left
