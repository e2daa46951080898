use Rattle.rw_base.proofs.Common.{◌≡◌, ◌+◌, ℕ, vec_len, slice_index_or, if◌then◌else◌, Some, None, take}
use Rattle.rw_model.specs.Links.{is_among}
use Rattle.rw_model.specs.Kept.{numbers_of}
use Rattle.rw_model.proofs.links.mark.Given as goal

-- what is said of the slots so far
abbrev pub invariant-loop-slot : goal.invariant-loop-slot
invariant-loop-slot l =
    ((k : ℕ) → slice_index_or l.places.items k None
    ≡ (if is_among (k + 1) (numbers_of (take l.slot-index l.slots)) then Some l.link else slice_index_or l.fn.places.items k None))
    × (vec_len l.places ≡ vec_len l.fn.places)
