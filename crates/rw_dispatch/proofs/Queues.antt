-- A queue with one object more or less.
use Rattle.rw_dispatch.proofs.Common.{Bool, KeepsQueue, List, Option, [], add-one, ap, append-nil, append_assoc, ap₂, arith, cond, false, filter}
use Rattle.rw_dispatch.proofs.Common.{filter-append, get_or, is_object_marked, length, list_any, nat_eq, nat_lt, nat_tests, not, refl, set, subst}
use Rattle.rw_dispatch.proofs.Common.{suc, sym, true, unmarked, zero, ℕ, ◌&&◌, ◌++◌, ◌+◌, ◌-◌, ◌<◌, ◌==◌, ◌∙◌, ◌∷◌, ◌≡◌, ◌≤◌, ObjectNo, drop}
use Rattle.rw_dispatch.proofs.Common.{slice_index_or, take}
use Rattle.std.proofs.Math.ListN.{length-replicate, replicate, length-append, length-set}
use Rattle.std.proofs.Math.Seq.{drop-cons}
use Rattle.std.proofs.lemmas.List.{length-map, length-take-le, map-append, take-append-drop}
use Rattle.rw_model.specs.Draft.{Draft}
use Rattle.rw_model.specs.Turn.{is_data}
use Rattle.rw_dispatch.specs.Queue.{IsTaken, objects_of}
use Rattle.rw_run.proofs.Common.{times, numbers, is_woken, is_but, is_owner, times-append, times-filter, times-numbers, any-times}

unmarked-set : (bits : List Bool) (k : ℕ) (v : Bool) → k < length bits
    → unmarked (set bits k v) + cond (get_or bits k false) 0 1 ≡ unmarked bits + cond v 0 1
unmarked-set [] k v l = absurd (omega arith)
unmarked-set (b ∷ bits) zero v l = omega arith
unmarked-set (b ∷ bits) (suc k) v l = let h = unmarked-set bits k v (omega arith) in omega arith

pub set_at : (bits : List Bool) (k j : ℕ) (v : Bool) → k < length bits → get_or (set bits k v) j false ≡ cond (nat_eq k j) v (get_or bits j false)
set_at [] k j v l = absurd (omega arith)
set_at (b ∷ bits) zero zero v l = refl
set_at (b ∷ bits) zero (suc j) v l = grind (arith, nat_tests)
set_at (b ∷ bits) (suc k) zero v l = grind (arith, nat_tests)
set_at (b ∷ bits) (suc k) (suc j) v l = let h = set_at bits k j v (omega arith) in grind (arith, nat_tests)

pub has_room : (items : List ℕ) (n room a : ℕ) (waits : List Bool) → KeepsQueue items n room waits → 1 ≤ a → a ≤ length waits
    → times a items ≡ 0 → n < room
has_room items n room a waits q l u t =
    let m = q.marked a in
    let f = unmarked-set waits (a - 1) true (omega arith) in
    grind (arith, nat_tests)

pub pushed : (items : List ℕ) (n m room a : ℕ) (waits : List Bool) → KeepsQueue items n room waits → 1 ≤ a → a ≤ length waits → times a items ≡ 0
    → m ≡ n + 1
    → KeepsQueue (items ++ a ∷ []) m room (set waits (a - 1) true)
pushed items n m room a waits q l u t e =
    let f = unmarked-set waits (a - 1) true (omega arith) in
    let s = length-set waits (a - 1) true in
    let g = length-append items (a ∷ []) in
    let mark = q.marked a in
    record {
      marked = λ b. let h = times-append b items (a ∷ []) in let i = set_at waits (a - 1) (b - 1) true (omega arith) in let j =
          q.marked b in grind (arith, nat_tests);
      count = grind (arith, q.count);
      left = grind (arith, nat_tests);
      fits = grind (arith, q.fits);
      few = grind (arith, q.few);
    }

in_range : (bits : List Bool) (k : ℕ) → get_or bits k false ≡ true → k < length bits
in_range [] k e = absurd (grind arith)
in_range (b ∷ bits) zero e = omega arith
in_range (b ∷ bits) (suc k) e = let h = in_range bits k e in omega arith

set_within : (waits : List Bool) (a n : ℕ) → 1 + n ≡ cond (is_object_marked waits a) 1 0 → (1 ≤ a) × (get_or waits (a - 1) false ≡ true)
set_within waits a n e = (grind (arith, nat_tests), grind (arith, nat_tests))

taken_inside : (before behind : List ℕ) (n m room a : ℕ) (waits : List Bool) → KeepsQueue (before ++ a ∷ behind) n room waits → m + 1 ≡ n
    → KeepsQueue (before ++ behind) m room (set waits (a - 1) false)
taken_inside before behind n m room a waits q e =
    let whole = times-append a before (a ∷ behind) in
    let rest = times-append a before behind in
    let own : 1 + times a (before ++ behind) ≡ cond (is_object_marked waits a) 1 0 = let h = q.marked a in grind (arith, nat_tests) in
    let w = set_within waits a (times a (before ++ behind)) own in
    let k : a - 1 < length waits = in_range waits (a - 1) w.1 in
    let f = unmarked-set waits (a - 1) false k in
    let s = length-set waits (a - 1) false in
    let long = length-append before (a ∷ behind) in
    let short = length-append before behind in
    record {
      marked = λ b.
          let i = set_at waits (a - 1) (b - 1) false k in
          let j = q.marked b in
          let more = times-append b before (a ∷ behind) in
          let less = times-append b before behind in grind (arith, nat_tests, own, w.0, w.1);
      count = grind (arith, q.count);
      left = grind (arith, nat_tests, w.1, q.left);
      fits = grind (arith, q.fits);
      few = grind (arith, q.few);
    }

-- without the object that was taken out
pub taken : (place : ℕ) (all items : List ℕ) (n m room wide a : ℕ) (waits : List Bool) → IsTaken place all a items → wide ≡ room
    → KeepsQueue all n room waits → m + 1 ≡ n
    → KeepsQueue items m wide (set waits (a - 1) false)
taken place all items n m room wide a waits is w q l =
    rw (w, is.new_is) (taken_inside is.before is.behind n m room a waits (subst (λ xs. KeepsQueue xs n room waits) is.old_is q) l)

-- who was taken out is one of the objects
pub taken_known : (place : ℕ) (all items : List ℕ) (n room a : ℕ) (waits : List Bool) → IsTaken place all a items → KeepsQueue all n room waits
    → (1 ≤ a) × (a ≤ length waits)
taken_known place all items n room a waits is q =
    let whole = times-append a is.before (a ∷ is.behind) in
    let own : 1 + (times a is.before + times a is.behind) ≡ cond (is_object_marked waits a) 1 0 =
    let h = q.marked a in let e = ap (times a) is.old_is in grind (arith, nat_tests) in
    let w = set_within waits a _ own in
    let first = w.0 in
    let k : a - 1 < length waits = in_range waits (a - 1) w.1 in (first, omega (arith, first, k))

-- the first is the one in place 0
pub first_taken : (all items : List ℕ) (a : ℕ) → all ≡ a ∷ items → IsTaken 0 all a items
first_taken all items a is = record { before = []; behind = items; place_is = refl; old_is = is; new_is = refl }

-- what is removed is taken out
pub removed : (old new : List ObjectNo) (place : ℕ) (object : ObjectNo) → object ≡ slice_index_or old place object
    → new ≡ take place old ++ drop (suc place) old
    → place < length old → IsTaken place (objects_of old) object.0 (objects_of new)
removed old new place object value is below = record {
  before = objects_of (take place old);
  behind = objects_of (drop (suc place) old);
  place_is = length-map (take place old) (λ (o : ObjectNo). o.0) ∙ length-take-le place old (omega (arith, below));
  old_is =
      ap objects_of (sym (take-append-drop place old)
      ∙ ap (λ xs. take place old ++ xs) (drop-cons old place object below ∙ ap (λ o. o ∷ drop (suc place) old) (sym value)))
      ∙ map-append (λ (o : ObjectNo). o.0) (take place old) (object ∷ drop (suc place) old);
  new_is = ap objects_of is ∙ map-append (λ (o : ObjectNo). o.0) (take place old) (drop (suc place) old);
}

pub waits_is : (items : List ℕ) (n room a : ℕ) (waits : List Bool) → KeepsQueue items n room waits → 1 ≤ a
    → get_or waits (a - 1) false ≡ list_any (λ x. a == x) items
waits_is items n room a waits q l =
    let m : times a items ≡ cond (is_object_marked waits a) 1 0 = q.marked a in
    let e : is_object_marked waits a ≡ get_or waits (a - 1) false = grind (arith, nat_tests) in
    sym e ∙ sym (any-times a items ∙ ap (nat_lt 0) m ∙ bit (is_object_marked waits a))
  where
    bit : (b : Bool) → nat_lt 0 (cond b 1 0) ≡ b
    bit true = refl
    bit false = refl

later : (p : ℕ → Bool) (a n : ℕ) → n < a → times a (filter p (numbers n)) ≡ 0
later p a n l = let f = times-filter a p (numbers n) in let g = times-numbers a n in grind (arith, nat_tests)

pub any-later : (p : ℕ → Bool) (old : List ℕ) (a n : ℕ) → n < a → list_any (λ x. a == x) (old ++ filter p (numbers n)) ≡ list_any (λ x. a == x) old
any-later p old a n l =
    any-times a (old ++ filter p (numbers n))
    ∙ ap (nat_lt 0) (times-append a old (filter p (numbers n)) ∙ ap (λ k. times a old + k) (later p a n l) ∙ omega arith)
    ∙ sym (any-times a old)

pub free : (a : ℕ) (xs : List ℕ) → list_any (λ x. a == x) xs ≡ false → times a xs ≡ 0
free a xs e = let f : nat_lt 0 (times a xs) ≡ false = sym (any-times a xs) ∙ e in grind (arith, nat_tests)

more_numbers : (p : ℕ → Bool) (n : ℕ) → filter p (numbers (n + 1)) ≡ filter p (numbers n) ++ cond (p (n + 1)) ((n + 1) ∷ []) []
more_numbers p n = rw add-one (filter-append p (numbers n) (suc n ∷ []))

-- one turn of a loop over the objects that appends those that pass
pub more_passed : (p : ℕ → Bool) (n : ℕ) (old now next : List ℕ) (t : Bool) → now ≡ old ++ filter p (numbers n) → t ≡ p (n + 1)
    → next ≡ now ++ cond t ((n + 1) ∷ []) []
    → next ≡ old ++ filter p (numbers (n + 1))
more_passed p n old now next t e h f =
    f ∙ ap₂ (λ xs b. xs ++ cond b ((n + 1) ∷ []) []) e h
    ∙ append_assoc old (filter p (numbers n)) (cond (p (n + 1)) ((n + 1) ∷ []) [])
    ∙ ap (λ xs. old ++ xs) (sym (more_numbers p n))

-- whether an object is woken doesn't depend on those appended before it
pub woken-later : (b : Draft) (but : Option ℕ) (p : ℕ → Bool) (old slots : List ℕ) (a n : ℕ) → n < a
    → is_woken b but (old ++ filter p (numbers n)) slots a ≡ is_woken b but old slots a
woken-later b but p old slots a n l = rw (any-later p old a n l) refl

unowned_test : (d e r o : Bool) → o ≡ false → (not d && (not e && (not r && o))) ≡ false
unowned_test d e r o h = grind (arith, h)

-- who owns none of the slots isn't woken
pub woken-unowned : (b : Draft) (but : Option ℕ) (queue slots : List ℕ) (a : ℕ) → is_owner b slots a ≡ false → is_woken b but queue slots a ≡ false
woken-unowned b but queue slots a h = unowned_test (is_data b a) (is_but but a) (list_any (λ x. a == x) queue) (is_owner b slots a) h

unreached_test : (d e r o : Bool) → (not e && o) ≡ false → (not d && (not e && (not r && o))) ≡ false
unreached_test d e r o h = grind (arith, h)

-- nor who is left out or owns none of them
pub woken-unreached : (b : Draft) (but : Option ℕ) (queue slots : List ℕ) (a : ℕ) → (not (is_but but a) && is_owner b slots a) ≡ false
    → is_woken b but queue slots a ≡ false
woken-unreached b but queue slots a h = unreached_test (is_data b a) (is_but but a) (list_any (λ x. a == x) queue) (is_owner b slots a) h

-- none of these passes
skipped : (p : ℕ → Bool) (from count : ℕ) → ((a : ℕ) → from < a → a ≤ from + count → p a ≡ false)
    → filter p (numbers (from + count)) ≡ filter p (numbers from)
skipped p from zero none = let same : from + 0 ≡ from = omega arith in ap (λ n. filter p (numbers n)) same
skipped p from (suc count) none =
    let more : from + suc count ≡ (from + count) + 1 = omega arith in
    let fails : p ((from + count) + 1) ≡ false = none ((from + count) + 1) (omega arith) (omega arith) in
    ap (λ n. filter p (numbers n)) more
    ∙ more_numbers p (from + count)
    ∙ ap (λ t. filter p (numbers (from + count)) ++ cond t (((from + count) + 1) ∷ []) []) fails
    ∙ append-nil (filter p (numbers (from + count)))
    ∙ skipped p from count (λ a low high. none a low (omega (arith, high)))

-- none that is left passes
pub none_left : (p : ℕ → Bool) (from to : ℕ) (old now : List ℕ) → from ≤ to → ((a : ℕ) → from < a → a ≤ to → p a ≡ false)
    → now ≡ old ++ filter p (numbers from) → now ≡ old ++ filter p (numbers to)
none_left p from to old now l none is =
    let same : from + (to - from) ≡ to = omega (arith, l) in
    is ∙ ap (λ xs. old ++ xs) (sym (skipped p from (to - from) (λ a low high. none a low (omega (arith, high, l))))
    ∙ ap (λ n. filter p (numbers n)) same)

pub later-free : (p : ℕ → Bool) (n : ℕ) (now : List ℕ) → now ≡ filter p (numbers n) → times (n + 1) now ≡ 0
later-free p n now e = ap (times (n + 1)) e ∙ later p (n + 1) n (omega arith)

unmarked-none : (n : ℕ) → unmarked (replicate n false) ≡ n
unmarked-none zero = refl
unmarked-none (suc n) = let h = unmarked-none n in omega arith

pub none_set : (n k : ℕ) → get_or (replicate n false) k false ≡ false
none_set zero k = refl
none_set (suc n) zero = refl
none_set (suc n) (suc k) = none_set n k

pub empty : (n m room : ℕ) (items : List ℕ) (waits : List Bool) → items ≡ [] → m ≡ 0 → waits ≡ replicate n false → n ≤ room → n ≤ 500
    → KeepsQueue items m room waits
empty n m room items waits e f g l k = rw (e, f, g) (record {
  marked = λ a. let h = none_set n (a - 1) in grind (arith, nat_tests);
  count = refl;
  left = let h = unmarked-none n in let l = length-replicate n false in omega arith;
  fits = rw (length-replicate n false) l;
  few = rw (length-replicate n false) k;
})
