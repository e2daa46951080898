-- The search for an object by its name, where some objects were looked at.
use Rattle.rw_base.proofs.Common.{◌≡◌, ◌+◌, ◌-◌, ℕ, suc, Bool, true, false, List, [], ◌∷◌, drop, Option, Some, None, refl, sym, ap, ◌∙◌, arith}
use Rattle.rw_base.proofs.Common.{bytes_eq, slice_get, option_map, unwrap_or, is_some, if◌then◌else◌, false≢true, get_or_from_slice_get}
use Rattle.rw_base.proofs.Common.{slice_get_within}
use Rattle.std.proofs.Math.Seq.{drop-cons}
use Rattle.rw_model.proofs.Common.{Object, object_at, object_from, numbered-known}

front : (objects : List Object) (place : ℕ) (object : Object) → slice_get objects place ≡ Some object
    → drop place objects ≡ object ∷ drop (place + 1) objects
front objects place object stands =
    let next : suc place ≡ place + 1 = omega arith in
    drop-cons objects place object (slice_get_within objects place object stands)
    ∙ ap (λ (x : Object). x ∷ drop (suc place) objects) (get_or_from_slice_get objects place object object stands)
    ∙ ap (λ (number : ℕ). object ∷ drop number objects) next

looked : (test : Bool) (found_object : Option Object) (objects : List Object) (place : ℕ) (name found : List ℕ)
    → slice_get objects place ≡ found_object
    → option_map (λ (object : Object). object.name) found_object ≡ Some found → bytes_eq name found ≡ test
    → object_from (place + 1) (drop place objects) name
    ≡ (if test then Some (place + 1) else object_from (place + 1 + 1) (drop (place + 1) objects) name)
looked test (Some o) objects place name found stands named same =
    let name_is : o.name ≡ found = ap (λ (x : Option (List ℕ)). unwrap_or x found) named in
    rw (front objects place o stands, name_is, same) refl
looked test None objects place name found stands named same = absurd (false≢true (ap is_some named))

look : (test : Bool) (objects : List Object) (place : ℕ) (name found : List ℕ)
    → option_map (λ (object : Object). object.name) (object_at objects (place + 1)) ≡ Some found → bytes_eq name found ≡ test
    → object_from (place + 1) (drop place objects) name
    ≡ (if test then Some (place + 1) else object_from (place + 1 + 1) (drop (place + 1) objects) name)
look test objects place name found named same =
    let before : place + 1 - 1 ≡ place = omega arith in
    let stands : slice_get objects place ≡ object_at objects (place + 1) =
    sym (numbered-known objects (place + 1) (omega arith) ∙ ap (λ (number : ℕ). slice_get objects number) before) in
    looked test (object_at objects (place + 1)) objects place name found stands named same

pub found_here : (objects : List Object) (place : ℕ) (name found : List ℕ)
    → option_map (λ (object : Object). object.name) (object_at objects (place + 1)) ≡ Some found → bytes_eq name found ≡ true
    → object_from (place + 1) (drop place objects) name ≡ Some (place + 1)
found_here = look true

pub found_later : (objects : List Object) (place : ℕ) (name found : List ℕ)
    → option_map (λ (object : Object). object.name) (object_at objects (place + 1)) ≡ Some found → bytes_eq name found ≡ false
    → object_from (place + 1) (drop place objects) name ≡ object_from (place + 1 + 1) (drop (place + 1) objects) name
found_later = look false

pub found_nowhere : (objects : List Object) (number : ℕ) (name : List ℕ) → objects ≡ [] → object_from number objects name ≡ None
found_nowhere objects number name objects_is = rw objects_is refl
