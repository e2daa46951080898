use Rattle.std.proofs.Common.{◌≡◌, length, take}
use Rattle.rpl_code.proofs.operand_kinds.are_same.Given as goal

-- they are equally long, and the same up to here
abbrev pub invariant-loop-place : goal.invariant-loop-place
invariant-loop-place l = (length l.a ≡ length l.b) × (take l.place l.a ≡ take l.place l.b)
