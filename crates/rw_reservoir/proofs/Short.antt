-- Where two terms aren't given, the balance isn't solved, whatever else is brought.
use Rattle.std.specs.Prelude.{◌≡◌, ℤ, List, ◌∷◌, Option, None, Some, nat_le, true, refl}
use Rattle.rw_method.specs.declared.balanced.Balanced.TheVariants.{Idle}
use Rattle.rw_method.specs.declared.term.Term.{Term}
use Rattle.rw_method.specs.Solving.{missing, solved_balance}

pub idle_beside : (steady : Option ℤ) (first : Term) (rest : List Term) → nat_le 2 (missing (first ∷ rest)) ≡ true
    → solved_balance steady (first ∷ rest) ≡ Idle
idle_beside None first rest few = refl
idle_beside (Some steady) first rest few = rw few refl
