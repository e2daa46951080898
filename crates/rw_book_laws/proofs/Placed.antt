-- What an object's slot held before the run.
use Rattle.rw_base.proofs.Common.{None, Option, Some, ap, option_and_then, option_map, ℕ, ℤ, List, ◌∙◌, ◌≡◌}
use Rattle.rw_model.proofs.Common.{Object, Placed, object_at, slot_in_place}
use Rattle.rw_model.specs.Before.{before_of, initial_of_kind}
use Rattle.rw_model.specs.declared.kind.Kind.{Kind}
use Rattle.rw_model.proofs.Owned.{placed_in}

-- what is so of an object's kind
pub of_kind : {A : Type 0} (f : Kind → Option A) (found : Option Object) (kind : Kind)
    → option_map (λ (object : Object). object.kind) found ≡ Some kind
    → option_and_then (λ (object : Object). f object.kind) found ≡ f kind
of_kind f None kind is = absurd (cc)
of_kind f (Some object) kind is = let same : object.kind ≡ kind = cc in ap f same

-- the value of an object's slot before the run
pub before_is : (objects : List Object) (owner place number : ℕ) (kind : Kind) (step : ℤ)
    → option_map (λ (object : Object). object.kind) (object_at objects owner) ≡ Some kind
    → slot_in_place objects owner place ≡ Some number → before_of objects number step ≡ initial_of_kind kind place step
before_is objects owner place number kind step own found =
    let is = placed_in objects owner place number found in
    ap (λ slot. option_and_then
    (λ (placed : Placed). option_and_then (λ (object : Object). initial_of_kind object.kind placed.place step)
    (object_at objects placed.owner)) slot) is.at
    ∙ ap (λ o. option_and_then (λ (object : Object). initial_of_kind object.kind is.placed.place step) (object_at objects o)) is.owns
    ∙ ap (λ p. option_and_then (λ (object : Object). initial_of_kind object.kind p step) (object_at objects owner)) is.there
    ∙ of_kind (λ k. initial_of_kind k place step) (object_at objects owner) kind own
