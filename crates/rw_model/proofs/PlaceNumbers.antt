-- The numbers of slots by object and place.
use Rattle.rw_base.proofs.Common.{◌≡◌, ℕ, zero, suc, ◌+◌, ◌-◌, ◌*◌, ◌<◌, ◌≤◌, ◌++◌, ◌∷◌, [], List, Option, ap, ap₂, refl, sym, ◌∙◌, arith, length}
use Rattle.rw_base.proofs.Common.{map, take, range_with_len, div-mul-add, mod-mul-add, map-range_with_len_more}
use Rattle.std.specs.Prelude.{drop}
use Rattle.std.proofs.lemmas.List.FromFn.{length-map-range_with_len, take-map-range_with_len}
use Rattle.rw_model.specs.Draft.{IsObject}
use Rattle.rw_model.specs.Objects.{Object, slot_in_place}
use Rattle.rw_model.specs.Kept.{number_at, numbers_up_to}

pub number_at-place : (objects : List Object) (before place : ℕ) → place < 12
    → number_at objects (before * 12 + place) ≡ slot_in_place objects (before + 1) place
number_at-place objects before place inside =
    ap₂ (λ o p. slot_in_place objects (o + 1) p) (div-mul-add before 12 place inside) (mod-mul-add before 12 place inside)

pub numbers-more : (objects : List Object) (before place : ℕ) (old new : List (Option ℕ)) (number : Option ℕ) → place < 12
    → old ≡ numbers_up_to objects (before * 12 + place) → number ≡ slot_in_place objects (before + 1) place → new ≡ old ++ number ∷ []
    → new ≡ numbers_up_to objects (before * 12 + (place + 1))
numbers-more objects before place old new number inside kept is pushed =
    let far = before * 12 + place in
    let next : 0 + far ≡ far = omega arith in
    let all : far + 1 ≡ before * 12 + (place + 1) = omega arith in
    pushed
    ∙ ap (λ ns. ns ++ number ∷ []) kept
    ∙ ap (λ n. numbers_up_to objects far ++ n ∷ []) (is ∙ sym (number_at-place objects before place inside))
    ∙ sym (map-range_with_len_more (number_at objects) 0 far far next)
    ∙ ap (numbers_up_to objects) all

-- ---- the numbers of one object

drop-map-range : {X : Type 0} (f : ℕ → X) (from far count all : ℕ) → all ≡ far + count
    → drop far (map f (range_with_len from all)) ≡ map f (range_with_len (from + far) count)
drop-map-range f from zero count all is =
    let start : from ≡ from + 0 = omega arith in let same : all ≡ count = omega (arith, is) in ap₂ (λ s n. map f (range_with_len s n)) start same
drop-map-range f from (suc far) count zero is = absurd (omega (arith, is))
drop-map-range f from (suc far) count (suc all) is =
    let start : (from + 1) + far ≡ from + suc far = omega arith in
    drop-map-range f (from + 1) far count all (omega (arith, is)) ∙ ap (λ s. map f (range_with_len s count)) start

-- an object's places stand one behind another
row-places : (objects : List Object) (before start count : ℕ) → start + count ≤ 12
    → map (number_at objects) (range_with_len (before * 12 + start) count) ≡ map (slot_in_place objects (before + 1)) (range_with_len start count)
row-places objects before start zero near = refl
row-places objects before start (suc count) near =
    let next : (before * 12 + start) + 1 ≡ before * 12 + (start + 1) = omega arith in
    ap₂ (λ x xs. x ∷ xs) (number_at-place objects before start (omega (arith, near)))
    (ap (λ s. map (number_at objects) (range_with_len s count)) next ∙ row-places objects before (start + 1) count (omega (arith, near)))

pub row-of : (objects : List Object) (object : ℕ) (numbers : List (Option ℕ)) → IsObject objects object
    → numbers ≡ numbers_up_to objects (length objects * 12)
    → take 12 (drop ((object - 1) * 12) numbers) ≡ map (slot_in_place objects object) (range_with_len 0 12)
row-of objects object numbers known are =
    let far = (object - 1) * 12 in
    let rest = length objects * 12 - far in
    let all : length objects * 12 ≡ far + rest = omega (arith, known.first, known.last) in
    let near : 12 ≤ rest = omega (arith, known.first, known.last) in
    let start : 0 + far ≡ far + 0 = omega arith in
    let own : (object - 1) + 1 ≡ object = omega (arith, known.first) in
    ap (λ ns. take 12 (drop far ns)) are
    ∙ ap (take 12) (drop-map-range (number_at objects) 0 far rest (length objects * 12) all)
    ∙ take-map-range_with_len (number_at objects) (0 + far) rest 12 near
    ∙ ap (λ s. map (number_at objects) (range_with_len s 12)) start
    ∙ row-places objects (object - 1) 0 12 (omega arith)
    ∙ ap (λ o. map (slot_in_place objects o) (range_with_len 0 12)) own

-- they are among them
pub row-fits : (objects : List Object) (object : ℕ) (numbers : List (Option ℕ)) → IsObject objects object
    → numbers ≡ numbers_up_to objects (length objects * 12) → (object - 1) * 12 + 12 ≤ length numbers
row-fits objects object numbers known are =
    let many : length numbers ≡ length objects * 12 = ap length are ∙ length-map-range_with_len (number_at objects) 0 (length objects * 12) in
    omega (arith, known.first, known.last, many)
