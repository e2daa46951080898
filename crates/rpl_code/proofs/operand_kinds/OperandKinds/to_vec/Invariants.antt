use Rattle.std.proofs.Common.{◌≡◌, flat_map, take}
use Rattle.rpl_code.proofs.operand_kinds.OperandKinds.to_vec.Given as goal

-- the kinds of the pieces up to here
abbrev pub invariant-loop-piece : goal.invariant-loop-piece
invariant-loop-piece l = l.kinds.items ≡ flat_map (λ piece. piece) (take l.piece-index l.piece-items)
