-- How far ahead rules put.
use Rattle.rw_base.proofs.Common.{◌≡◌, ◌≤◌, ℕ, ℤ, pos, negsuc, true, ◌≤ℤ◌, unsigned_abs, ⊎_elim, refl, arith, ints}
use Rattle.rw_base.proofs.Tests.{Decides-from_to}
use Rattle.rw_model.specs.Basin.{IsBasin}
use Rattle.rw_model.specs.Draft.{Draft}
use Rattle.rpl_tree.specs.World.{can_put_ahead}

-- the steps ahead are in range
reached : (basin : Draft) (ahead : ℤ) → can_put_ahead basin ahead ≡ true → (pos 0 ≤ℤ ahead) × (ahead ≤ℤ pos basin.control.ahead)
reached basin ahead can = (Decides-from_to (pos 0) (pos basin.control.ahead) ahead).0 can

pub near_enough : (basin : Draft) (ahead : ℕ) → ahead ≤ basin.control.ahead → can_put_ahead basin (pos ahead) ≡ true
near_enough basin ahead near =
    (Decides-from_to (pos 0) (pos basin.control.ahead) (pos ahead)).1 (omega (arith, ints), omega (arith, ints, near))

-- none is behind
pub never_behind : (basin : Draft) (ahead : ℤ) → can_put_ahead basin ahead ≡ true → pos (unsigned_abs ahead) ≡ ahead
never_behind basin (pos n) can = refl
never_behind basin (negsuc n) can = let in_reach = reached basin (negsuc n) can in absurd (omega (arith, ints, in_reach.0))

pub is_near : (basin : Draft) (ahead : ℤ) → can_put_ahead basin ahead ≡ true → unsigned_abs ahead ≤ basin.control.ahead
is_near basin (pos n) can = let in_reach = reached basin (pos n) can in omega (arith, ints, in_reach.1)
is_near basin (negsuc n) can = let in_reach = reached basin (negsuc n) can in absurd (omega (arith, ints, in_reach.0))

pub at_most_30 : (basin : Draft) (ahead : ℤ) → IsBasin basin → can_put_ahead basin ahead ≡ true → unsigned_abs ahead ≤ 30
at_most_30 basin ahead valid can =
    let near = is_near basin ahead can in
    ⊎_elim (λ none. omega (arith, near, none)) (λ most. omega (arith, near, most)) valid.whole.control.ahead
