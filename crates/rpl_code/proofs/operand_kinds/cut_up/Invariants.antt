use Rattle.std.proofs.Common.{◌≡◌, ◌++◌, flat_map, length}
use Rattle.rpl_code.proofs.operand_kinds.cut_up.Given as goal

-- the pieces that were made and the kinds that are left are all kinds
abbrev pub invariant-loop-left : goal.invariant-loop-left
invariant-loop-left l = flat_map (λ piece. piece) l.pieces.items ++ l.left ≡ l.fn.kinds

abbrev pub decreases-loop-left : goal.decreases-loop-left
decreases-loop-left l = length l.left
