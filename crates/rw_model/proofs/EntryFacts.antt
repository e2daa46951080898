-- The objects of a map's entries.
use Rattle.rw_base.proofs.Common.{nat_eq, ◌≡◌, ℕ, ◌+◌, List, [], ◌∷◌, ◌++◌, Bool, true, false, Option, Some, None, cond, refl, ap, ◌∙◌, String}
use Rattle.rw_base.proofs.Common.{string_bytes, bytes_eq, option_map, if◌then◌else◌, position, position_from, position_from-zero, keys_of, lookup}
use Rattle.rw_base.proofs.Common.{map-append}
use Rattle.indexmap.specs.IndexMap.{insert_entry}
use Rattle.rw_model.specs.declared.kind.Kind.{Kind}
use Rattle.rw_model.specs.Objects.{Object, object_from, object_named}
use Rattle.rw_model.specs.Slot.{Bounds}
use Rattle.rw_model.specs.Draft.{Bound, bound_of}
use Rattle.rw_model.specs.Kept.{objects_kept, bounds_of}

either_way : (test : Bool) (i : ℕ) (place number : Option ℕ) → option_map (λ n. n + 1) place ≡ number
    → option_map (λ n. n + 1) (cond test (Some i) place) ≡ (if test then Some (i + 1) else number)
either_way true i place number rest = refl
either_way false i place number rest = rest

-- an object's number is one more than the place of its name
object_from-entries : {A : Type 0} (i : ℕ) (name : List ℕ) (entries : List (String A × Kind))
    → option_map (λ n. n + 1) (position_from (λ k. bytes_eq name (string_bytes k)) i (keys_of entries))
    ≡ object_from (i + 1) (objects_kept entries) name
object_from-entries i name [] = refl
object_from-entries i name (e ∷ entries) = either_way (bytes_eq name (string_bytes e.0)) i _ _ (object_from-entries (i + 1) name entries)

pub object_named-entries : {A : Type 0} (name : List ℕ) (entries : List (String A × Kind))
    → option_map (λ n. n + 1) (position (λ k. bytes_eq name (string_bytes k)) (keys_of entries)) ≡ object_named (objects_kept entries) name
object_named-entries {A} name entries =
    ap (option_map (λ n. n + 1)) (position_from-zero {B = String A} (λ k. bytes_eq name (string_bytes k)) (keys_of entries))
    ∙ object_from-entries 0 name entries

passed_over : {X : Type 0} (test : Bool) (x : X) (rest : Option X) → (if test then Some x else rest) ≡ None → (test ≡ false) × (rest ≡ None)
passed_over true x rest e = absurd (cc)
passed_over false x rest e = (refl, e)

-- an object with a new name goes last
pub insert_entry-fresh : {A : Type 0} (number : ℕ) (key : String A) (kind : Kind) (entries : List (String A × Kind))
    → object_from number (objects_kept entries) (string_bytes key) ≡ None
    → insert_entry (λ j k. bytes_eq (string_bytes j) (string_bytes k)) entries key kind ≡ entries ++ (key, kind) ∷ []
insert_entry-fresh number key kind [] fresh = refl
insert_entry-fresh {A} number key kind (e ∷ entries) fresh =
    let none =
    passed_over (bytes_eq (string_bytes key) (string_bytes e.0)) number
    (object_from (number + 1) (objects_kept entries) (string_bytes key)) fresh in
    rw none.0 (ap (λ rest. e ∷ rest) (insert_entry-fresh (number + 1) key kind entries none.1))

-- so the objects are those that there were, and then the new one
pub objects_of-insert : {A : Type 0} (objects : List Object) (name : List ℕ) (key : String A) (kind : Kind) (entries more : List (String A × Kind))
    → objects_kept entries ≡ objects → object_from 1 objects name ≡ None → string_bytes key ≡ name
    → more ≡ insert_entry (λ j k. bytes_eq (string_bytes j) (string_bytes k)) entries key kind
    → objects_kept more ≡ objects ++ record { name = name; kind = kind } ∷ []
objects_of-insert {A} objects name key kind entries more seen fresh called inserted =
    let free : object_from 1 (objects_kept entries) (string_bytes key) ≡ None =
    ap (λ n. object_from 1 (objects_kept entries) n) called ∙ ap (λ os. object_from 1 os name) seen ∙ fresh in
    let last : (List Object → List ℕ → List Object) = λ os n. os ++ record { name = n; kind = kind } ∷ [] in
    ap (objects_kept {A = A}) (inserted ∙ insert_entry-fresh 1 key kind entries free)
    ∙ map-append _ entries ((key, kind) ∷ [])
    ∙ ap (λ os. last os (string_bytes key)) seen
    ∙ ap (λ n. last objects n) called

-- a slot's bounds are what the map has for it
pub bound_of-entries : (slot : ℕ) (entries : List (ℕ × Bounds)) → lookup (λ k. nat_eq slot k) entries ≡ bound_of (bounds_of entries) slot
bound_of-entries slot [] = refl
bound_of-entries slot (e ∷ entries) = ap (λ rest. cond (nat_eq slot e.0) (Some e.1) rest) (bound_of-entries slot entries)

-- the bounds of a slot that had none go last
insert_entry-unbound : (slot : ℕ) (bounds : Bounds) (entries : List (ℕ × Bounds)) → bound_of (bounds_of entries) slot ≡ None
    → insert_entry nat_eq entries slot bounds ≡ entries ++ (slot, bounds) ∷ []
insert_entry-unbound slot bounds [] free = refl
insert_entry-unbound slot bounds (e ∷ entries) free =
    let none = passed_over (nat_eq slot e.0) e.1 (bound_of (bounds_of entries) slot) free in
    rw none.0 (ap (λ rest. e ∷ rest) (insert_entry-unbound slot bounds entries none.1))

pub bounds_of-insert : (own : List Bound) (slot : ℕ) (bounds : Bounds) (entries more : List (ℕ × Bounds))
    → bounds_of entries ≡ own → bound_of own slot ≡ None → more ≡ insert_entry nat_eq entries slot bounds
    → bounds_of more ≡ own ++ record { slot = slot; bounds = bounds } ∷ []
bounds_of-insert own slot bounds entries more seen free inserted =
    let unbound : bound_of (bounds_of entries) slot ≡ None = ap (λ os. bound_of os slot) seen ∙ free in
    ap bounds_of (inserted ∙ insert_entry-unbound slot bounds entries unbound)
    ∙ map-append _ entries ((slot, bounds) ∷ [])
    ∙ ap (λ os. os ++ record { slot = slot; bounds = bounds } ∷ []) seen
