-- The locals of a block: those from a place on, those of the names that can be used, and the parameters.
use Rattle.rpl_compile.proofs.Common.{Bool, BoundName, HasName, IsTrue, Kind, List, Names, Parameter, Some, ValueKind, [], ap, arith, bytes_eq}
use Rattle.rpl_compile.proofs.Common.{code_kind, code_kinds, false, if◌then◌else◌, kind_named, kind_of_type, length, list_any, local_named, name}
use Rattle.rpl_compile.proofs.Common.{names_in, param_kinds, param_names, parameters_from, refl, slice_get, subst, suc, true, zero, ℕ, ◌++◌, ◌+◌}
use Rattle.rpl_compile.proofs.Common.{◌||◌, ◌∷◌, ◌≡◌}
use Rattle.rpl_compile.proofs.Placing.{HasAt}

-- ---- locals of these kinds, from one on

pub kinds_front : (locals : List ValueKind) (place : ℕ) (kinds other_kinds : List Kind) → HasAt locals place (code_kinds (kinds ++ other_kinds))
    → HasAt locals place (code_kinds kinds)
kinds_front locals place [] other_kinds placed = tt
kinds_front locals place (kind ∷ kinds) other_kinds placed = (placed.0, kinds_front locals (suc place) kinds other_kinds placed.1)

pub kinds_back : (locals : List ValueKind) (place many : ℕ) (kinds other_kinds : List Kind) → length kinds ≡ many
    → HasAt locals place (code_kinds (kinds ++ other_kinds))
    → HasAt locals (place + many) (code_kinds other_kinds)
kinds_back locals place many [] other_kinds kinds_counted placed = let n_is : place ≡ place + many = omega (arith, kinds_counted) in
    subst (λ k. HasAt locals k (code_kinds other_kinds)) n_is placed
kinds_back locals place zero (kind ∷ kinds) other_kinds kinds_counted placed = absurd (cc kinds_counted)
kinds_back locals place (suc many) (kind ∷ kinds) other_kinds kinds_counted placed =
    let same_place : suc place + many ≡ place + suc many = omega arith in
    let few : length kinds ≡ many = omega (arith, kinds_counted) in
    subst (λ k. HasAt locals k (code_kinds other_kinds)) same_place (kinds_back locals (suc place) many kinds other_kinds few placed.1)

-- ---- the locals of names

abbrev pub Placed : List ValueKind → List BoundName → Type 0
Placed locals [] = Unit {0}
Placed locals (bound_name ∷ scope) = (slice_get locals bound_name.local ≡ Some (code_kind bound_name.kind)) × Placed locals scope

pub placed_name : (locals : List ValueKind) (scope : List BoundName) (sought : List ℕ) → Placed locals scope → HasName (names_in scope) sought
    → slice_get locals (local_named scope sought) ≡ Some (code_kind (kind_named (names_in scope) sought))
placed_name locals [] sought placed has_name = absurd (cc has_name)
placed_name locals (bound_name ∷ scope) sought placed has_name =
    by (bytes_eq bound_name.name sought) has_name (λ g. placed_name locals scope sought placed.1 g)
  where
    by : (test : Bool) → IsTrue (test || list_any (λ (entry : List ℕ × Kind). bytes_eq entry.0 sought) (names_in scope))
        → (HasName (names_in scope) sought → slice_get locals (local_named scope sought) ≡ Some (code_kind (kind_named (names_in scope) sought)))
        → slice_get locals (if test then bound_name.local else local_named scope sought)
        ≡ Some (code_kind (if test then bound_name.kind else kind_named (names_in scope) sought))
    by true is_true later = placed.0
    by false is_true later = later is_true

-- ---- parameters

pub parameter_names : (number : ℕ) (parameters : List Parameter) → names_in (parameters_from number parameters) ≡ param_names parameters
parameter_names number [] = refl
parameter_names number (parameter ∷ parameters) =
    ap (λ (names : Names). (parameter.name, kind_of_type parameter.of_type) ∷ names) (parameter_names (number + 1) parameters)

pub many_params : (parameters : List Parameter) → length (param_kinds parameters) ≡ length parameters
many_params [] = refl
many_params (parameter ∷ parameters) = ap suc (many_params parameters)
