use Rattle.std.specs.Prelude.{ℕ, zero, suc, List, [], ◌∷◌, Contains}
use Rattle.std.proofs.Common.{◌≡◌, arith, refl}
use Rattle.rw_run.proofs.law.worked_openings.Goals as goal

lacks_two : Contains {X = ℕ} (1 ∷ []) 2 → ⊥
lacks_two (zero, near, is) = omega (arith, is)
lacks_two (suc k, near, is) = omega (arith, near)

pub returns-clause-first_alone : goal.returns-clause-first_alone
returns-clause-first_alone c = λ are. lacks_two ((are.those 2).1 refl)
