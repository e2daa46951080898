-- Those that wait stand in the order of the events since which they wait, and of one event in order of number.
use Rattle.rw_order.proofs.Common.{All-contains, All-from_recursion, AllByRecursion, Bool, Contains, Draft, List, Log, None, Option, Some, [], ap}
use Rattle.rw_order.proofs.Common.{append-nil, arith, both_ways, false, filter, filter-append, get_or_from_slice_get, if◌then◌else◌, inl, inr}
use Rattle.rw_order.proofs.Common.{is_number, is_since, length, nat_tests, none-some, numbers, refl, same_Some, since, slice_get, slice_get_within}
use Rattle.rw_order.proofs.Common.{subst, suc, sym, true, waiting, waiting_below, zero, ℕ, ◌++◌, ◌-◌, ◌<◌, ◌∙◌, ◌∷◌, ◌≡◌, ◌≤◌, ◌⊎◌}
use Rattle.rw_dispatch.specs.Pick.{newest, picked}
use Rattle.rw_order.specs.AnyRun.{WaitsBefore}
use Rattle.rw_base.proofs.Lists.{all_append, weaker_all}

module _ (basin : Draft) (log : Log) where
  -- each stands before all that come after it
  abbrev Rises : List ℕ → Type 0
  Rises [] = Unit {0}
  Rises (one ∷ others) = AllByRecursion (WaitsBefore basin log one) others × Rises others

  rises_joined : (xs ys : List ℕ) → Rises xs → Rises ys → AllByRecursion (λ x. AllByRecursion (WaitsBefore basin log x) ys) xs → Rises (xs ++ ys)
  rises_joined [] ys first second across = second
  rises_joined (x ∷ xs) ys first second across =
      (all_append (WaitsBefore basin log x) xs ys first.0 across.0, rises_joined xs ys first.1 second across.1)

  -- ---- those of one event

  abbrev IsOf : ℕ → ℕ → ℕ → Type 0
  IsOf place most object = (since basin log object ≡ Some place) × (object ≤ most)

  since_is : (place : ℕ) (found : Option ℕ) → is_number place found ≡ true → found ≡ Some place
  since_is place None is = absurd (both_ways false refl is)
  since_is place (Some other) is = let same : other ≡ place = grind (arith, nat_tests, is) in ap Some same

  later_all : (place object most : ℕ) (xs : List ℕ) → since basin log object ≡ Some place → most < object → AllByRecursion (IsOf place most) xs
      → AllByRecursion (λ x. AllByRecursion (WaitsBefore basin log x) (object ∷ [])) xs
  later_all place object most xs own less of =
      weaker_all (IsOf place most) (λ x. AllByRecursion (WaitsBefore basin log x) (object ∷ [])) xs
      (λ x is. let near = is.1 in (
        record {
          first = place;
          second = place;
          since_one = is.0;
          since_other = own;
          earlier = inr (refl, omega (arith, near, less));
        },
        tt,
      )) of

  of_event : (place count : ℕ) → Rises (filter (is_since basin log place) (numbers count))
      × AllByRecursion (IsOf place count) (filter (is_since basin log place) (numbers count))
  of_event place zero = (tt, tt)
  of_event place (suc count) =
      let before = of_event place count in
      subst (λ xs. Rises xs × AllByRecursion (IsOf place (suc count)) xs)
      (sym (filter-append (is_since basin log place) (numbers count) (suc count ∷ [])))
      (by (is_since basin log place (suc count)) refl before.0
      (weaker_all (IsOf place count) (IsOf place (suc count)) (filter (is_since basin log place) (numbers count))
      (λ x is. let near = is.1 in (is.0, omega (arith, near))) before.1) before.1)
    where
      by : (test : Bool) → is_since basin log place (suc count) ≡ test → Rises (filter (is_since basin log place) (numbers count))
          → AllByRecursion (IsOf place (suc count)) (filter (is_since basin log place) (numbers count))
          → AllByRecursion (IsOf place count) (filter (is_since basin log place) (numbers count))
          → Rises (filter (is_since basin log place) (numbers count) ++ (if test then suc count ∷ [] else []))
          × AllByRecursion (IsOf place (suc count)) (filter (is_since basin log place) (numbers count) ++ (if test then suc count ∷ [] else []))
      by false is rises of few =
          subst (λ xs. Rises xs × AllByRecursion (IsOf place (suc count)) xs) (sym (append-nil (filter (is_since basin log place) (numbers count))))
          (rises, of)
      by true is rises of few =
          let own = since_is place (since basin log (suc count)) is in (
            rises_joined (filter (is_since basin log place) (numbers count)) (suc count ∷ []) rises (tt, tt)
                (later_all place (suc count) count (filter (is_since basin log place) (numbers count)) own (omega arith) few),
            all_append (IsOf place (suc count)) (filter (is_since basin log place) (numbers count)) (suc count ∷ []) of ((own, omega arith), tt),
          )

  -- ---- all of them

  record IsBelow (place object : ℕ) : Type 0 where
    at : ℕ
    is : since basin log object ≡ Some at
    less : at < place

  below : (place : ℕ) → Rises (waiting_below basin log place) × AllByRecursion (IsBelow place) (waiting_below basin log place)
  below zero = (tt, tt)
  below (suc place) =
      let older = below place in
      let these = of_event place (length basin.objects) in
      let now = filter (is_since basin log place) (numbers (length basin.objects)) in (
        rises_joined (waiting_below basin log place) now older.0 these.0
            (weaker_all (IsBelow place) (λ x. AllByRecursion (WaitsBefore basin log x) now) (waiting_below basin log place)
            (λ x first. weaker_all (IsOf place (length basin.objects)) (WaitsBefore basin log x) now
            (λ y second. record { first = first.at; second = place; since_one = first.is; since_other = second.0; earlier = inl first.less }) these.1)
            older.1),
        all_append (IsBelow (suc place)) (waiting_below basin log place) now
            (weaker_all (IsBelow place) (IsBelow (suc place)) (waiting_below basin log place)
            (λ x is. let less = is.less in record { at = is.at; is = is.is; less = omega (arith, less) }) older.1)
            (weaker_all (IsOf place (length basin.objects)) (IsBelow (suc place)) now
            (λ x is. record { at = place; is = is.0; less = omega arith }) these.1),
      )

  -- ---- the last of them

  last_of_all : (xs : List ℕ) (object : ℕ) → Rises xs → slice_get xs (length xs - 1) ≡ Some object
      → AllByRecursion (λ other. (other ≡ object) ⊎ WaitsBefore basin log other object) xs
  last_of_all [] object rises is = absurd (none-some _ is)
  last_of_all (x ∷ []) object rises is = (inl (same_Some _ _ is), tt)
  last_of_all (x ∷ (y ∷ ys)) object rises is =
      let next : length (x ∷ (y ∷ ys)) - 1 ≡ suc (length (y ∷ ys) - 1) = omega arith in
      let there : slice_get (y ∷ ys) (length (y ∷ ys) - 1) ≡ Some object = sym (ap (slice_get (x ∷ (y ∷ ys))) next) ∙ is in
      let near = slice_get_within (y ∷ ys) (length (y ∷ ys) - 1) object there in (
        inr (subst (WaitsBefore basin log x) (get_or_from_slice_get (y ∷ ys) (length (y ∷ ys) - 1) object object there)
            (All-from_recursion (WaitsBefore basin log x) (y ∷ ys) rises.0 (length (y ∷ ys) - 1) object near)),
        last_of_all (y ∷ ys) object rises.1 there,
      )

  pub newest_waits_least : (object other : ℕ) → picked newest log (waiting basin log) ≡ Some object → Contains (waiting basin log) other
      → (other ≡ object) ⊎ WaitsBefore basin log other object
  newest_waits_least object other is waits =
      All-contains (λ o. (o ≡ object) ⊎ WaitsBefore basin log o object) (waiting basin log) other
      (All-from_recursion (λ o. (o ≡ object) ⊎ WaitsBefore basin log o object) (waiting basin log)
      (last_of_all (waiting basin log) object (below (length log)).0 is)) waits
