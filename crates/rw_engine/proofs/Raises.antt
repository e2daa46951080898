-- Counts of numbered things.
use Rattle.rw_engine.proofs.Common.{HasCount, List, [], arith, count_of_number, get_or, if◌then◌else◌, length, nat_tests, raised, refl, room, set}
use Rattle.rw_engine.proofs.Common.{suc, zero, ℕ, ◌+◌, ◌-◌, ◌<◌, ◌==◌, ◌∷◌, ◌≡◌, ◌≤◌}
use Rattle.rw_run.specs.Next.{count_if}

set_at : (xs : List ℕ) (k j v : ℕ) → k < length xs → get_or (set xs k v) j 0 ≡ (if k == j then v else get_or xs j 0)
set_at [] k j v near = absurd (omega arith)
set_at (x ∷ xs) zero zero v near = refl
set_at (x ∷ xs) zero (suc j) v near = grind (arith, nat_tests)
set_at (x ∷ xs) (suc k) zero v near = grind (arith, nat_tests)
set_at (x ∷ xs) (suc k) (suc j) v near = let h = set_at xs k j v (omega arith) in grind (arith, nat_tests)

-- the number is counted once more, and no other
pub raised_at : (counts : List ℕ) (number other : ℕ) → HasCount counts number → 1 ≤ other
    → count_of_number (raised counts number) other ≡ count_if (number == other) (count_of_number counts other)
raised_at counts number other known first =
    let own = known.first in
    let last = known.last in
    let h = set_at counts (number - 1) (other - 1) (count_of_number counts number + 1) (omega arith) in grind (arith, nat_tests)

falls_at : (limit : ℕ) (counts : List ℕ) (k : ℕ) → k < length counts → get_or counts k 0 < limit
    → room limit (set counts k (get_or counts k 0 + 1)) < room limit counts
falls_at limit [] k near below = absurd (omega arith)
falls_at limit (count ∷ counts) zero near below = omega arith
falls_at limit (count ∷ counts) (suc k) near below = let h = falls_at limit counts k (omega arith) below in omega arith

-- and less is left
pub room_falls : (limit : ℕ) (counts : List ℕ) (number : ℕ) → HasCount counts number → count_of_number counts number < limit
    → room limit (raised counts number) < room limit counts
room_falls limit counts number known below =
    let own = known.first in let last = known.last in falls_at limit counts (number - 1) (omega arith) below
