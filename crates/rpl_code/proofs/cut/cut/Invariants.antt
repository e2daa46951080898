use Rattle.std.proofs.Common.{take}
use Rattle.rpl_code.proofs.Parted.{Lacks}
use Rattle.rpl_code.proofs.cut.cut.Given as goal

-- the byte isn't among those that were passed
abbrev pub invariant-loop-place : goal.invariant-loop-place
invariant-loop-place l = Lacks l.byte (take l.place l.text)
