use Rattle.std.proofs.Common.{◌≡◌, ◌++◌, flat_map, take}
use Rattle.rpl_code.proofs.operand_kinds.are_pieces_of.Given as goal

-- the pieces up to here and the kinds that are left are all kinds
abbrev pub invariant-loop-piece : goal.invariant-loop-piece
invariant-loop-piece l = flat_map (λ piece. piece) (take l.piece-index l.pieces) ++ l.left ≡ l.fn.kinds
