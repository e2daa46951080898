use Rattle.rw_base.proofs.Common.{◌≡◌, ◌+◌, ◌-◌, ◌≤◌, ◌++◌, map, drop, vec_len, vec_capacity}
use Rattle.rw_model.specs.Slots.{slots_of}
use Rattle.rw_model.specs.Objects.{placed_from}
use Rattle.rw_model.specs.Kept.{place_of}
use Rattle.rw_model.proofs.place.push_places.Given as goal

-- what is there and what is left make up what there will be
abbrev pub invariant-loop-place : goal.invariant-loop-place
invariant-loop-place l =
    (l.places.items ++ map place_of (placed_from l.owner l.place (drop l.place (slots_of l.kind)))
    ≡ l.fn.places.items ++ map place_of (placed_from l.owner 0 (slots_of l.kind)))
    × (vec_len l.places + (11 - l.place) ≤ vec_capacity l.places)
