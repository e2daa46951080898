use Rattle.rw_base.proofs.Common.{◌≡◌, ◌+◌, ◌≤◌, length, drop}
use Rattle.rw_model.specs.Slots.{slots_of}
use Rattle.rw_model.specs.Objects.{placed_from}
use Rattle.rw_model.proofs.place.count_places.Given as goal

abbrev pub invariant-loop-at : goal.invariant-loop-at
invariant-loop-at l =
    (l.count + length (placed_from l.owner l.at (drop l.at (slots_of l.kind))) ≡ length (placed_from l.owner 0 (slots_of l.kind)))
    × (l.count ≤ l.at)
