use Rattle.std.proofs.Common.{◌≡◌, ◌++◌, drop, map}
use Rattle.rpl_verify.specs.Names.{slot_seen}
use Rattle.rpl_verify.proofs.names.slots_seen.Given as goal

abbrev pub invariant-loop-place : goal.invariant-loop-place
invariant-loop-place l =
    l.slots.items ++ map (slot_seen l.basin) (drop l.place l.lines) ≡ map (slot_seen l.basin) l.lines
