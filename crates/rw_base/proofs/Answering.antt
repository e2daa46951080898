-- What a call that judges finds.
use Rattle.rw_base.proofs.Common.{◌≡◌, false, Option, None, Some, refl, sym, both_ways}
use Rattle.rw_base.specs.Answers.{Finds}

-- what is wrong, where a fault was found
pub found : {F R : Type 0} (refusal_of : F → Option R) (fault : F) (refusal : Option R) → Finds refusal_of (Some fault) refusal
    → (r : R) × (refusal_of fault ≡ Some r) × (refusal ≡ Some r)
found refusal_of fault None e = absurd (both_ways false refl e.1)
found refusal_of fault (Some r) e = (r, sym e.0, refl)
