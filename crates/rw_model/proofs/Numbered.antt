-- What stands at a number, by its place in the list.
use Rattle.rw_base.proofs.Common.{◌≡◌, ◌≤◌, ◌-◌, ℕ, Bool, true, false, List, Option, Some, None, nat_le, ap, arith, if◌then◌else◌, slice_get}
use Rattle.rw_base.proofs.Common.{nat_tests, none-some}
use Rattle.rw_model.specs.Objects.{numbered}

pub numbered-known : {A : Type 0} (things : List A) (number : ℕ) → 1 ≤ number → numbered things number ≡ slice_get things (number - 1)
numbered-known things number known =
    let there : nat_le 1 number ≡ true = grind (arith, nat_tests, known) in ap (λ test. if test then slice_get things (number - 1) else None) there

found_there : {A : Type 0} (found : Option A) (thing : A) (test : Bool) → (if test then found else None) ≡ Some thing → found ≡ Some thing
found_there found thing true is = is
found_there found thing false is = absurd (none-some _ is)

pub numbered-found : {A : Type 0} (things : List A) (number : ℕ) (thing : A) → numbered things number ≡ Some thing
    → slice_get things (number - 1) ≡ Some thing
numbered-found things number thing is = found_there (slice_get things (number - 1)) thing (nat_le 1 number) is
