-- A basin is in the first form in one way.
use Rattle.std.proofs.Common.{◌≡◌, ℕ, List, [], ◌∷◌, Option, Some, None, ap, sym, ◌∙◌, ℤ}
use Rattle.rw_plain_reservoir.proofs.Common.{FirstModel, IsFirstForm, Kind, Reservoir, plain_reservoir}
use Rattle.rw_model.proofs.Common.{Object, Draft}

abbrev name_in : List Object → List ℕ
name_in [] = []
name_in (object ∷ objects) = object.name

abbrev initial_of : Kind → Option ℤ
initial_of (Reservoir initial_storage table local_inflow diversion return_flow evaporation max_release) = Some initial_storage
initial_of kind = None

abbrev storage_in : List Object → Option ℤ
storage_in [] = None
storage_in (object ∷ objects) = initial_of object.kind

pub one_model : (basin : Draft) (model other : FirstModel) → IsFirstForm basin model → IsFirstForm basin other → model ≡ other
one_model basin model other h k =
    let same : plain_reservoir model.name model.initial ∷ [] ≡ plain_reservoir other.name other.initial ∷ [] = sym h.alone ∙ k.alone in
    let name : model.name ≡ other.name = ap name_in same in
    let some : Some model.initial ≡ Some other.initial = ap storage_in same in
    let initial : model.initial ≡ other.initial = cc in
    let run : model.run ≡ other.run = sym h.run ∙ k.run in
    ap (λ n. record { name = n; initial = model.initial; run = model.run }) name
    ∙ ap (λ i. record { name = other.name; initial = i; run = model.run }) initial
    ∙ ap (λ r. record { name = other.name; initial = other.initial; run = r }) run
