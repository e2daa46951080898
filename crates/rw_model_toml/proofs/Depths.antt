-- What a test of how deep arrays and tables nest says.
use Rattle.std.proofs.Common.{◌≡◌, ℕ, ◌≤◌, Bool, true, nat_le, arith}
use Rattle.std.proofs.lemmas.Bool.Decides.{nat_tests}

-- what a test that passed says
pub is_within : (a most : ℕ) (passes : Bool) → passes ≡ nat_le a most → passes ≡ true → a ≤ most
is_within a most passes is passed = grind (arith, nat_tests)
