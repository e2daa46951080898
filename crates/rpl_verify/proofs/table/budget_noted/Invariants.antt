use Rattle.std.proofs.Common.{◌≡◌, ◌≤◌, drop, reverse, length}
use Rattle.rpl_verify.specs.declared.notes.Part.TheVariants.{Count, Looks, Puts, Words}
use Rattle.rpl_verify.specs.Places.{loop_ends}
use Rattle.rpl_verify.proofs.Caps.{IsFilled}
use Rattle.rpl_verify.proofs.table.budget_noted.Given as goal

-- the tables behind the place stand, and so do the places behind the loops that are open there
abbrev pub invariant-loop-place : goal.invariant-loop-place
invariant-loop-place l =
    (l.place ≤ length l.lines) × IsFilled Count l.place l.notes l.lines l.counts.items × IsFilled Looks l.place l.notes l.lines l.looks.items
    × IsFilled Puts l.place l.notes l.lines l.puts.items × IsFilled Words l.place l.notes l.lines l.words.items
    × (reverse l.ends.items ≡ loop_ends l.place (drop l.place l.lines))

abbrev pub decreases-loop-place : goal.decreases-loop-place
decreases-loop-place l = l.place
