-- Slots that carry one value have the same bounds.
use Rattle.rw_base.proofs.Common.{◌≡◌, ℕ, suc, ◌+◌, ◌==◌, ◌||◌, Bool, true, false, if◌then◌else◌, List, [], ◌∷◌, Some, refl, sym, ap, ap₂, subst, ◌∙◌}
use Rattle.rw_base.proofs.Common.{arith, ℤ, slice_get, unwrap_or, option_and_then, int_max, int_min, ints, int_max_is, int_min_is, nat_tests}
use Rattle.rw_base.specs.declared.number.Cell.{Cell}
use Rattle.rw_model.proofs.Common.{Bounds, Object, Draft, Bound, is_among, link_from, link_of, is_together, own_bounds, meet, meet_all, bounds_in}
use Rattle.rw_series.specs.Series.{is_shared}
use Rattle.rw_series.proofs.Sharing.{linked_alike, Shared-of}

-- ---- what is between bounds

max_swap : (a b c : ℤ) → int_max (int_max a b) c ≡ int_max (int_max a c) b
max_swap a b c = omega (arith, ints, int_max_is)

min_swap : (a b c : ℤ) → int_min (int_min a b) c ≡ int_min (int_min a c) b
min_swap a b c = omega (arith, ints, int_min_is)

max_turned : (a b : ℤ) → int_max a b ≡ int_max b a
max_turned a b = omega (arith, ints, int_max_is)

min_turned : (a b : ℤ) → int_min a b ≡ int_min b a
min_turned a b = omega (arith, ints, int_min_is)

max_same : (a b : ℤ) → int_max (int_max a b) b ≡ int_max a b
max_same a b = omega (arith, ints, int_max_is)

min_same : (a b : ℤ) → int_min (int_min a b) b ≡ int_min a b
min_same a b = omega (arith, ints, int_min_is)

pair : (a b : Bounds) → a.0 ≡ b.0 → a.1 ≡ b.1 → a ≡ b
pair a b low high = ap₂ (λ (x y : ℤ). (x, y)) low high

meet_swap : (b x y : Bounds) → meet (meet b x) y ≡ meet (meet b y) x
meet_swap b x y = pair _ _ (max_swap b.0 x.0 y.0) (min_swap b.1 x.1 y.1)

meet_turned : (x y : Bounds) → meet x y ≡ meet y x
meet_turned x y = pair _ _ (max_turned x.0 y.0) (min_turned x.1 y.1)

meet_same : (b x : Bounds) → meet (meet b x) x ≡ meet b x
meet_same b x = pair _ _ (max_same b.0 x.0) (min_same b.1 x.1)

-- the bounds of one of the slots say nothing more than those of all
module _ (objects : List Object) (given : List Bound) (slot : ℕ) where
  absorbed_at : (first : ℕ) (slots : List ℕ) (b : Bounds) → (is_among slot slots ≡ true
      → meet_all objects given (meet (meet b (own_bounds objects given first)) (own_bounds objects given slot)) slots
      ≡ meet_all objects given (meet b (own_bounds objects given first)) slots)
      → (here : Bool) → (slot == first) ≡ here → (here || is_among slot slots) ≡ true
      → meet_all objects given (meet (meet b (own_bounds objects given slot)) (own_bounds objects given first)) slots
      ≡ meet_all objects given (meet b (own_bounds objects given first)) slots
  absorbed_at first slots b later true same among =
      let at : slot ≡ first = grind (arith, nat_tests) in
      ap (λ bounds. meet_all objects given bounds slots)
      (ap (λ s. meet (meet b (own_bounds objects given s)) (own_bounds objects given first)) at ∙ meet_same b (own_bounds objects given first))
  absorbed_at first slots b later false other among =
      ap (λ bounds. meet_all objects given bounds slots) (meet_swap b (own_bounds objects given slot) (own_bounds objects given first)) ∙ later among

  absorbed : (slots : List ℕ) (b : Bounds) → is_among slot slots ≡ true
      → meet_all objects given (meet b (own_bounds objects given slot)) slots ≡ meet_all objects given b slots
  absorbed [] b among = absurd (cc)
  absorbed (first ∷ slots) b among =
      absorbed_at first slots b (absorbed slots (meet b (own_bounds objects given first))) (slot == first) refl among

-- ---- slots of one link

-- a link has its slots
found_link : (place p slot : ℕ) (link : List ℕ) (links : List (List ℕ))
    → (link_from (place + 1) links slot ≡ Some p → (j : ℕ) × (p ≡ (place + 1) + j) × (is_among slot (unwrap_or (slice_get links j) []) ≡ true))
    → (here : Bool) → is_among slot link ≡ here → (if here then Some place else link_from (place + 1) links slot) ≡ Some p
    → (j : ℕ) × (p ≡ place + j) × (is_among slot (unwrap_or (slice_get (link ∷ links) j) []) ≡ true)
found_link place p slot link links later true among found = let at : p ≡ place = cc in (0, omega (arith, at), among)
found_link place p slot link links later false among found =
    let rest = later found in (suc rest.0, omega (arith, rest.1), rest.2)

link_has : (place p slot : ℕ) (links : List (List ℕ)) → link_from place links slot ≡ Some p
    → (j : ℕ) × (p ≡ place + j) × (is_among slot (unwrap_or (slice_get links j) []) ≡ true)
link_has place p slot [] found = absurd (cc)
link_has place p slot (link ∷ links) found =
    found_link place p slot link links (link_has (place + 1) p slot links) (is_among slot link) refl found

linked_among : (links : List (List ℕ)) (slot p : ℕ) → link_of links slot ≡ Some p → is_among slot (unwrap_or (slice_get links p) []) ≡ true
linked_among links slot p found =
    let has = link_has 0 p slot links found in
    let at : has.0 ≡ p = omega (arith, has.1) in
    subst (λ j. is_among slot (unwrap_or (slice_get links j) []) ≡ true) at has.2

bounds_linked : (basin : Draft) (one other p : ℕ) → link_of basin.links one ≡ Some p → link_of basin.links other ≡ Some p
    → bounds_in basin.objects basin.links basin.bounds one ≡ bounds_in basin.objects basin.links basin.bounds other
bounds_linked basin one other p first second =
    let slots = unwrap_or (slice_get basin.links p) [] in
    let own = own_bounds basin.objects basin.bounds in
    let met = meet_all basin.objects basin.bounds in
    ap (λ link. met (own one) (unwrap_or (option_and_then (λ place. slice_get basin.links place) link) [])) first
    ∙ sym (absorbed basin.objects basin.bounds other slots (own one) (linked_among basin.links other p second))
    ∙ ap (λ bounds. met bounds slots) (meet_turned (own one) (own other))
    ∙ absorbed basin.objects basin.bounds one slots (own other) (linked_among basin.links one p first)
    ∙ ap (λ link. met (own other) (unwrap_or (option_and_then (λ place. slice_get basin.links place) link) [])) (sym second)

-- ---- slots that carry one value, and cells that share theirs

bounds_at : (basin : Draft) (one other : ℕ) → (same : Bool) → (one == other) ≡ same → is_together basin.links one other ≡ true
    → bounds_in basin.objects basin.links basin.bounds one ≡ bounds_in basin.objects basin.links basin.bounds other
bounds_at basin one other true same together = let at : one ≡ other =
    grind (arith, nat_tests) in ap (bounds_in basin.objects basin.links basin.bounds) at
bounds_at basin one other false apart together =
    let linked = linked_alike (link_of basin.links one) (link_of basin.links other) (rw apart at together) in
    bounds_linked basin one other linked.0 linked.1.0 linked.1.1

pub bounds-alike : (basin : Draft) (one other : ℕ) → is_together basin.links one other ≡ true
    → bounds_in basin.objects basin.links basin.bounds one ≡ bounds_in basin.objects basin.links basin.bounds other
bounds-alike basin one other together = bounds_at basin one other (one == other) refl together

pub bounds-shared : (basin : Draft) (cell other : Cell) → is_shared basin cell other ≡ true
    → bounds_in basin.objects basin.links basin.bounds cell.slot.0 ≡ bounds_in basin.objects basin.links basin.bounds other.slot.0
bounds-shared basin cell other shared = bounds-alike basin cell.slot.0 other.slot.0 (Shared-of basin cell other shared).together
