-- How the slots of a basin follow from its objects.
use Rattle.rw_base.proofs.Common.{◌≡◌, ℕ, ◌+◌, ◌<◌, ◌≤◌, List, [], ◌∷◌, ◌++◌, length, sym, ap, ◌∙◌, arith, append_assoc, append-nil, map, map-append}
use Rattle.rw_base.proofs.Common.{All-push}
use Rattle.std.proofs.lemmas.List.{length-append}
use Rattle.rw_model.specs.Slots.{slots_of}
use Rattle.rw_model.specs.Objects.{Object, placed_from, slots_from, all_slots}
use Rattle.rw_model.specs.declared.place.Place.{Place}
use Rattle.rw_model.specs.Kept.{place_of, firsts_from, KeepsSlots}

-- an object more has its slots after those of the others
pub slots_from-push : (number : ℕ) (objects : List Object) (object : Object)
    → slots_from number (objects ++ object ∷ []) ≡ slots_from number objects ++ placed_from (number + length objects) 0 (slots_of object.kind)
slots_from-push number [] object =
    let same : number ≡ number + 0 = omega arith in
    append-nil _ ∙ ap (λ n. placed_from n 0 (slots_of object.kind)) same
slots_from-push number (o ∷ objects) object =
    let same : (number + 1) + length objects ≡ number + length (o ∷ objects) = omega arith in
    ap (λ rest. placed_from number 0 (slots_of o.kind) ++ rest)
    (slots_from-push (number + 1) objects object ∙ ap (λ n. slots_from (number + 1) objects ++ placed_from n 0 (slots_of object.kind)) same)
    ∙ sym (append_assoc (placed_from number 0 (slots_of o.kind)) (slots_from (number + 1) objects) _)

-- and before its own stand all others
pub firsts_from-push : (number before : ℕ) (objects : List Object) (object : Object)
    → firsts_from number before (objects ++ object ∷ []) ≡ firsts_from number before objects ++ (before + length (slots_from number objects)) ∷ []
firsts_from-push number before [] object =
    let same : before ≡ before + 0 = omega arith in
    ap (λ n. n ∷ []) same
firsts_from-push number before (o ∷ objects) object =
    let own = placed_from number 0 (slots_of o.kind) in
    let same : (before + length own) + length (slots_from (number + 1) objects) ≡ before + length (own ++ slots_from (number + 1) objects) =
    omega (arith, length-append own (slots_from (number + 1) objects)) in
    ap (λ rest. before ∷ rest)
    (firsts_from-push (number + 1) (before + length own) objects object
    ∙ ap (λ n. firsts_from (number + 1) (before + length own) objects ++ n ∷ []) same)

-- what is kept stays in step with the objects
pub KeepsSlots-push : (objects : List Object) (object : Object) (places more_places : List Place) (firsts more_firsts : List ℕ)
    → KeepsSlots objects places firsts → length objects < 500 → length (slots_of object.kind) ≤ 11
    → length (all_slots (objects ++ object ∷ [])) ≤ 4000
    → more_places ≡ places ++ map place_of (placed_from (length objects + 1) 0 (slots_of object.kind))
    → more_firsts ≡ firsts ++ length (all_slots objects) ∷ []
    → KeepsSlots (objects ++ object ∷ []) more_places more_firsts
KeepsSlots-push objects object places more_places firsts more_firsts kept few small few_slots pushed begun =
    let same : length objects + 1 ≡ 1 + length objects = omega arith in
    let begins : length (all_slots objects) ≡ 0 + length (all_slots objects) = omega arith in
    record {
      stand = pushed
          ∙ ap (λ ps. ps ++ map place_of (placed_from (length objects + 1) 0 (slots_of object.kind))) kept.stand
          ∙ sym (map-append place_of (all_slots objects) (placed_from (length objects + 1) 0 (slots_of object.kind)))
          ∙ ap (λ n. map place_of (all_slots objects ++ placed_from n 0 (slots_of object.kind))) same
          ∙ ap (map place_of) (sym (slots_from-push 1 objects object));
      begin = begun ∙ ap (λ ns. ns ++ length (all_slots objects) ∷ []) kept.begin
          ∙ ap (λ n. firsts_from 1 0 objects ++ n ∷ []) begins ∙ sym (firsts_from-push 1 0 objects object);
      few_places = All-push (λ (o : Object). length (slots_of o.kind) ≤ 11) objects object kept.few_places small;
      few_objects = omega (arith, length-append objects (object ∷ []));
      few_slots = few_slots;
    }

-- an object more brings its own slots
pub length-all_slots-push : (objects : List Object) (object : Object) (owner : ℕ) → owner ≡ length objects + 1
    → length (all_slots (objects ++ object ∷ [])) ≡ length (all_slots objects) + length (placed_from owner 0 (slots_of object.kind))
length-all_slots-push objects object owner own =
    let same : owner ≡ 1 + length objects = omega (arith, own) in
    ap length (slots_from-push 1 objects object)
    ∙ length-append (all_slots objects) (placed_from (1 + length objects) 0 (slots_of object.kind))
    ∙ ap (λ n. length (all_slots objects) + length (placed_from n 0 (slots_of object.kind))) (sym same)
