use Rattle.rw_base.proofs.Common.{arith, ints, pos, refl, true, ℤ, ◌≡◌}
use Rattle.rw_books.specs.Worked.{holding_dam, holding_reach}
use Rattle.rw_promise.proofs.law.unclosed.Goals as goal

pub returns-clause-reach : goal.returns-clause-reach
returns-clause-reach c = λ closes.
    let is : pos 507 ≡ pos 508 = closes 1 holding_reach (pos 1000) (record { inflow = pos 200; outflow = pos 693; held = pos 508 }) refl refl refl in
    omega (arith, ints, is)

pub returns-clause-dam : goal.returns-clause-dam
returns-clause-dam c = λ closes.
    let is : pos 1104 ≡ pos 1105 = closes 1 (holding_dam true) (pos 1000) (record { inflow = pos 130; outflow = pos 26; held = pos 1105 }) refl refl refl in
    omega (arith, ints, is)
