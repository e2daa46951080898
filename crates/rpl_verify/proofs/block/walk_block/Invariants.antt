use Rattle.std.proofs.Common.{map, drop}
use Rattle.rpl_verify.specs.Places.{spots}
use Rattle.rpl_verify.specs.Notes.{numbers_seen}
use Rattle.rpl_verify.specs.Steps.{scope_in}
use Rattle.rpl_verify.proofs.BlockFacts.{IsLeft, noting}
use Rattle.rpl_verify.proofs.block.walk_block.Given as goal

abbrev pub invariant-loop-place : goal.invariant-loop-place
invariant-loop-place l =
    let scope = scope_in l.basin l.blocks l.number l.head l.locals (spots l.lines) in
    IsLeft scope (noting scope (map numbers_seen l.budgets)) l.lines l.place l.walk l.notes.items (drop l.place l.lines)
