use Rattle.std.proofs.Common.{◌≡◌, ◌+◌, ◌++◌, map, take, drop}
use Rattle.std.specs.List.{AllByRecursion}
use Rattle.rpl_verify.specs.Fits.{each_block}
use Rattle.rpl_verify.specs.Budget.{block_ruling, ruling}
use Rattle.rpl_verify.specs.Joined.{AreJoined, first_joined}
use Rattle.rpl_verify.specs.Notes.{numbers_seen}
use Rattle.rpl_verify.specs.Resolved.{resolved_code, resolved_from}
use Rattle.rpl_verify.proofs.verifier.budgets.Given as goal

-- what is left of the ruling is the whole ruling, and what is resolved and what is left are all blocks
abbrev pub invariant-loop-place : goal.invariant-loop-place
invariant-loop-place l =
    (ruling l.basin l.blocks ≡ each_block (block_ruling l.basin l.blocks) (take l.place l.blocks) (map numbers_seen l.budgets.items)
    (drop l.place l.blocks))
    × (map (λ block. map first_joined block.items) l.joined.items ++ resolved_from l.basin l.blocks (l.place + 1) (drop l.place l.blocks)
    ≡ resolved_code l.basin l.blocks)
    × AllByRecursion (λ block. AreJoined block.items) l.joined.items
