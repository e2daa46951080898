use Rattle.rw_base.proofs.Common.{◌≡◌, ◌+◌, ◌≤◌, drop}
use Rattle.rw_model.specs.Slots.{slots_of}
use Rattle.rw_model.specs.Objects.{placed_from, first_from, is_named}
use Rattle.rw_model.proofs.place.number_of_name.Given as goal

-- what is found in what is left is what is to be found
abbrev pub invariant-loop-at : goal.invariant-loop-at
invariant-loop-at l =
    (first_from l.number (is_named l.owner l.name) (placed_from l.owner l.at (drop l.at (slots_of l.kind)))
    ≡ first_from l.first (is_named l.owner l.name) (placed_from l.owner 0 (slots_of l.kind)))
    × (l.number ≤ l.first + l.at)
