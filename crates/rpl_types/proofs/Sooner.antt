-- Of several refusals that may be due, the first in the order is given, however they are taken together.
use Rattle.rw_base.proofs.Common.{◌≡◌, nat_lt, arith, refl, Bool, true, false, List, [], ◌∷◌, Option, None, Some, ◌∙◌, sym, nat_tests}
use Rattle.rpl_types.specs.declared.type_kind.TypeKind.{TypeKind}
use Rattle.rpl_tree.specs.declared.rpl_type.RplType.{RplType}
use Rattle.rpl_types.specs.Fits.{misfit, misfit_among, misfit_in_places, refusal_order, sooner}

pub sooner_none : (first : Option TypeKind) → sooner first None ≡ first
sooner_none None = refl
sooner_none (Some first) = refl

by_order : (first_second second_third first_third : Bool) (first second third : TypeKind)
    → nat_lt (refusal_order second) (refusal_order first) ≡ first_second → nat_lt (refusal_order third) (refusal_order second) ≡ second_third
    → nat_lt (refusal_order third) (refusal_order first) ≡ first_third
    → sooner (sooner (Some first) (Some second)) (Some third) ≡ sooner (Some first) (sooner (Some second) (Some third))
by_order true true true first second third first_second_is second_third_is first_third_is = rw (first_second_is, second_third_is, first_third_is) refl
by_order true true false first second third first_second_is second_third_is first_third_is = grind (arith, nat_tests)
by_order true false first_third first second third first_second_is second_third_is first_third_is =
    rw (first_second_is, second_third_is, first_second_is) refl
by_order false true first_third first second third first_second_is second_third_is first_third_is =
    rw (first_second_is, second_third_is, first_third_is) refl
by_order false false true first second third first_second_is second_third_is first_third_is = grind (arith, nat_tests)
by_order false false false first second third first_second_is second_third_is first_third_is =
    rw (first_second_is, second_third_is, first_third_is, first_second_is) refl

pub sooner_by_threes : (first second third : Option TypeKind) → sooner (sooner first second) third ≡ sooner first (sooner second third)
sooner_by_threes None second third = refl
sooner_by_threes (Some first) None third = refl
sooner_by_threes (Some first) (Some second) None = sooner_none (sooner (Some first) (Some second))
sooner_by_threes (Some first) (Some second) (Some third) = by_order _ _ _ first second third refl refl refl

-- ---- what is found in a list so far, and what is left of it

pub among_next : (whole found : Option TypeKind) (asked its_type : RplType) (types types_left : List RplType) → types_left ≡ its_type ∷ types
    → sooner found (misfit_among types_left asked) ≡ whole → sooner (sooner found (misfit its_type asked)) (misfit_among types asked) ≡ whole
among_next whole found asked its_type types types_left types_are so_far = sooner_by_threes found (misfit its_type asked) (misfit_among types asked)
    ∙ (rw types_are at so_far)

pub among_all : (whole found : Option TypeKind) (asked : RplType) (types_left : List RplType) → types_left ≡ []
    → sooner found (misfit_among types_left asked) ≡ whole → found ≡ whole
among_all whole found asked types_left types_are so_far = sym (sooner_none found) ∙ (rw types_are at so_far)

pub places_next : (whole found : Option TypeKind) (its_type place_type : RplType) (types places types_left places_left : List RplType)
    → types_left ≡ its_type ∷ types → places_left ≡ place_type ∷ places
    → sooner found (misfit_in_places types_left places_left) ≡ whole
    → sooner (sooner found (misfit its_type place_type)) (misfit_in_places types places) ≡ whole
places_next whole found its_type place_type types places types_left places_left types_are places_are so_far =
    sooner_by_threes found (misfit its_type place_type) (misfit_in_places types places) ∙ (rw (types_are, places_are) at so_far)
