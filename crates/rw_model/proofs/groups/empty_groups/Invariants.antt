use Rattle.std.proofs.Common.{◌≡◌, ℕ, [], length, slice_index_or}
use Rattle.rw_model.specs.Kept.{links_of}
use Rattle.rw_model.proofs.groups.empty_groups.Given as goal

-- as many groups as turns, and no slot in any
abbrev pub invariant-loop : goal.invariant-loop
invariant-loop l =
    (length (links_of l.groups.items) ≡ l.counter) × ((place : ℕ) → slice_index_or (links_of l.groups.items) place [] ≡ [])
