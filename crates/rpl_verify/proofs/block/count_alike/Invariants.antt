use Rattle.std.proofs.Common.{◌≡◌, ◌+◌, ◌≤◌, drop}
use Rattle.rpl_verify.specs.Fits.{count_alike}
use Rattle.rpl_verify.proofs.block.count_alike.Given as goal

abbrev pub invariant-loop-block : goal.invariant-loop-block
invariant-loop-block l =
    (l.count + count_alike l.head (drop l.block-index l.blocks) ≡ count_alike l.head l.blocks) × (l.count ≤ l.block-index)
