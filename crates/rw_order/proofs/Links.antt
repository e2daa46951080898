-- What links come to: cells that share their value, and whose slots they are.
use Rattle.rw_order.proofs.Common.{All, All-contains, All-head, All-tail, AllByRecursion, Bool, Bounds, Cell, Contains, Draft, IsBasin, IsLink}
use Rattle.rw_order.proofs.Common.{IsSlot, List, Object, Option, Placed, Shared-of, Some, [], all_quantities, all_slots, among_group, and_parts, ap}
use Rattle.rw_order.proofs.Common.{ap₂, arith, both_ways, bounds-shared, cell_at, false, group_known, group_of, if◌then◌else◌, inl, inr, is_among}
use Rattle.rw_order.proofs.Common.{is_at, is_between, is_same_link, is_shared, is_together, known_in_place, known_number, length, link_from, link_of}
use Rattle.rw_order.proofs.Common.{linked_alike, list_any, list_any_at, map, nat_eq_equiv, nat_tests, none-some, numbered-known, option_map, owner_of}
use Rattle.rw_order.proofs.Common.{refl, same_Some, slice_get, slot_at, slot_in_place, slot_numbers, subst, suc, sym, together_alike, together_turned}
use Rattle.rw_order.proofs.Common.{true, unwrap_or, zero, ℕ, ℤ, ◌&&◌, ◌+◌, ◌-◌, ◌<◌, ◌==◌, ◌||◌, ◌∙◌, ◌∷◌, ◌≡◌, ◌≢◌, ◌≤◌, ◌⊎◌}
use Rattle.std.specs.List.{IsDistinct}
use Rattle.rw_order.proofs.Places.{IsApart}
use Rattle.rw_order.proofs.Sounds.{in_bounds}
use Rattle.rw_model.proofs.Owned.{owner_in, placed_in}
use Rattle.rw_order.proofs.Slots.{in_its_place}

-- ---- a slot of a list

or_last : (a : Bool) → (a || true) ≡ true
or_last true = refl
or_last false = refl

witness : (test : ℕ → Bool) (slots : List ℕ) → list_any test slots ≡ true → (slot : ℕ) × (is_among slot slots ≡ true) × (test slot ≡ true)
witness test [] is = absurd (both_ways false refl is)
witness test (first ∷ slots) is = by (test first) refl is (λ later. witness test slots later)
  where
    by : (here : Bool) → test first ≡ here → (here || list_any test slots) ≡ true
        → (list_any test slots ≡ true → (slot : ℕ) × (is_among slot slots ≡ true) × (test slot ≡ true))
        → (slot : ℕ) × (is_among slot (first ∷ slots) ≡ true) × (test slot ≡ true)
    by true passes_it e later = (first, ap (λ a. a || is_among first slots) (nat_eq_equiv.refl first), passes_it)
    by false fails e later = let found = later e in (found.0, ap (λ a. found.0 == first || a) found.1 ∙ or_last (found.0 == first), found.2)

pub contains_of : (slots : List ℕ) (slot : ℕ) → is_among slot slots ≡ true → Contains slots slot
contains_of [] slot among = absurd (both_ways false refl among)
contains_of (first ∷ slots) slot among = by (slot == first) refl among (λ later. contains_of slots slot later)
  where
    by : (here : Bool) → (slot == first) ≡ here → (here || is_among slot slots) ≡ true → (is_among slot slots ≡ true → Contains slots slot)
        → Contains (first ∷ slots) slot
    by true same e later = (0, omega arith, let at : first ≡ slot = grind (arith, nat_tests, same) in at)
    by false apart e later = let found = later e in (suc found.0, let near = found.1 in omega (arith, near), found.2)

pub any_there : (test : ℕ → Bool) (slots : List ℕ) (slot : ℕ) → is_among slot slots ≡ true → test slot ≡ true → list_any test slots ≡ true
any_there test slots slot among passes_it =
    let found = contains_of slots slot among in list_any_at test slots found.0 slot found.1 (ap test found.2 ∙ passes_it)

pub among_known : (objects : List Object) (slots : List ℕ) (slot : ℕ) → All (IsSlot objects) slots → is_among slot slots ≡ true → IsSlot objects slot
among_known objects slots slot all among = All-contains (IsSlot objects) slots slot all (contains_of slots slot among)

-- ---- the group of a slot has a slot of the object

module _ (basin : Draft) where
  own_at : (object slot group : ℕ) → is_among slot (group_of basin.objects basin.links group) ≡ true → owner_of basin.objects slot ≡ object
      → is_at basin object group ≡ true
  own_at object slot group among own =
      any_there (λ other. owner_of basin.objects other == object) (group_of basin.objects basin.links group) slot among
      (grind (arith, nat_tests, own))

  pub owner : (object place slot step : ℕ) (cell : Cell) → slot_in_place basin.objects object place ≡ Some slot
      → is_shared basin (cell_at slot step) cell ≡ true
      → is_at basin object cell.slot.0 ≡ true
  owner object place slot step cell at shares =
      let together = (Shared-of basin (cell_at slot step) cell shares).together in
      own_at object slot cell.slot.0
      (among_group basin.objects basin.links cell.slot.0 slot
      ∙ ap₂ (λ a b. a && b) (together_turned basin.links cell.slot.0 slot ∙ together)
      (known_number basin.objects slot (known_in_place basin.objects object place slot at)))
      (owner_in basin.objects object place slot at)

  pub reached : (object place slot step : ℕ) (cell : Cell) → slot_in_place basin.objects object place ≡ Some slot
      → is_shared basin cell (cell_at slot step) ≡ true
      → is_at basin object cell.slot.0 ≡ true
  reached object place slot step cell at shares =
      own_at object slot cell.slot.0 (and_parts _ _ shares).0 (owner_in basin.objects object place slot at)

  pub same_step : (cell other : Cell) → is_shared basin cell other ≡ true → other.step.0 ≡ cell.step.0
  same_step cell other shares = (Shared-of basin cell other shares).step

  own : (object place slot step : ℕ) → slot_in_place basin.objects object place ≡ Some slot
      → is_shared basin (cell_at slot step) (cell_at slot step) ≡ true
  own object place slot step at =
      let together : is_together basin.links slot slot ≡ true =
      ap (λ test. test || is_same_link (link_of basin.links slot) (link_of basin.links slot)) (nat_eq_equiv.refl slot) in
      ap₂ (λ a b. a && b)
      (among_group basin.objects basin.links slot slot
      ∙ ap₂ (λ a b. a && b) together (known_number basin.objects slot (known_in_place basin.objects object place slot at)))
      (nat_eq_equiv.refl step)

-- ---- one link has both of two slots that it joins

pub record IsInOne (P : List ℕ → Type 0) (slot other : ℕ) : Type 0 where
  pub link : List ℕ
  pub is : P link
  pub first : is_among slot link ≡ true
  pub second : is_among other link ≡ true

link_after : (n p slot : ℕ) (links : List (List ℕ)) → link_from n links slot ≡ Some p → n ≤ p
link_after n p slot [] e = absurd (none-some _ e)
link_after n p slot (link ∷ links) e = by (is_among slot link) e (λ later. link_after (n + 1) p slot links later)
  where
    by : (here : Bool) → (if here then Some n else link_from (n + 1) links slot) ≡ Some p
        → (link_from (n + 1) links slot ≡ Some p → n + 1 ≤ p) → n ≤ p
    by true found later = let at : n ≡ p = same_Some _ _ found in omega (arith, at)
    by false found later = let after = later found in omega (arith, after)

one_link : (P : List ℕ → Type 0) (n p slot other : ℕ) (links : List (List ℕ)) → All P links → link_from n links slot ≡ Some p
    → link_from n links other ≡ Some p → IsInOne P slot other
one_link P n p slot other [] all e f = absurd (none-some _ e)
one_link P n p slot other (link ∷ links) all e f =
    by (is_among slot link) refl (is_among other link) refl e f
    (λ later there. one_link P (n + 1) p slot other links (All-tail P link links all) later there)
  where
    by : (a : Bool) → is_among slot link ≡ a → (b : Bool) → is_among other link ≡ b → (if a then Some n else link_from (n + 1) links slot) ≡ Some p
        → (if b then Some n else link_from (n + 1) links other) ≡ Some p
        → (link_from (n + 1) links slot ≡ Some p → link_from (n + 1) links other ≡ Some p → IsInOne P slot other) → IsInOne P slot other
    by true x true y found there later = record { link = link; is = All-head P link links all; first = x; second = y }
    by true x false y found there later =
        let at : n ≡ p = same_Some _ _ found in let after = link_after (n + 1) p other links there in absurd (omega (arith, at, after))
    by false x true y found there later =
        let at : n ≡ p = same_Some _ _ there in let after = link_after (n + 1) p slot links found in absurd (omega (arith, at, after))
    by false x false y found there later = later found there

-- slots with one value are the same, or one link has both
pub same_or_linked : (basin : Draft) (slot other : ℕ) → IsBasin basin → is_together basin.links slot other ≡ true
    → (slot ≡ other) ⊎ IsInOne (IsLink basin.objects) slot other
same_or_linked basin slot other valid together = by (slot == other) refl together
  where
    by : (same : Bool) → (slot == other) ≡ same → (same || is_same_link (link_of basin.links slot) (link_of basin.links other)) ≡ true
        → (slot ≡ other) ⊎ IsInOne (IsLink basin.objects) slot other
    by true same e = inl (grind (arith, nat_tests, same))
    by false apart e =
        let linked = linked_alike (link_of basin.links slot) (link_of basin.links other) e in
        inr (one_link (IsLink basin.objects) 0 linked.0 slot other basin.links valid.whole.links linked.1.0 linked.1.1)

-- ---- slots of one object share no value

others_differ : (owner_of_it : ℕ → ℕ) (first b : ℕ) (rest : List ℕ) → AllByRecursion (λ y. (owner_of_it first == y) ≡ false) (map owner_of_it rest)
    → is_among b rest ≡ true
    → (owner_of_it first == owner_of_it b) ≡ false
others_differ owner_of_it first b [] all among = absurd (both_ways false refl among)
others_differ owner_of_it first b (x ∷ rest) all among = by (b == x) refl among (λ later. others_differ owner_of_it first b rest all.1 later)
  where
    by : (here : Bool) → (b == x) ≡ here → (here || is_among b rest) ≡ true → (is_among b rest ≡ true → (owner_of_it first == owner_of_it b) ≡ false)
        → (owner_of_it first == owner_of_it b) ≡ false
    by true same e later = let at : x ≡ b = grind (arith, nat_tests, same) in subst (λ s. (owner_of_it first == owner_of_it s) ≡ false) at all.0
    by false apart e later = later e

one_each : (owner_of_it : ℕ → ℕ) (link : List ℕ) (a b : ℕ) → IsDistinct (λ (x : ℕ) y. x == y) (map owner_of_it link) → is_among a link ≡ true
    → is_among b link ≡ true
    → owner_of_it a ≡ owner_of_it b → a ≡ b
unfolding IsDistinct
one_each owner_of_it [] a b distinct x y same = absurd (both_ways false refl x)
one_each owner_of_it (first ∷ rest) a b distinct x y same =
    by (a == first) refl (b == first) refl x y distinct.0 (λ later there. one_each owner_of_it rest a b distinct.1 later there same)
  where
    by : (m : Bool) → (a == first) ≡ m → (n : Bool) → (b == first) ≡ n → (m || is_among a rest) ≡ true → (n || is_among b rest) ≡ true
        → AllByRecursion (λ z. (owner_of_it first == z) ≡ false) (map owner_of_it rest)
        → (is_among a rest ≡ true → is_among b rest ≡ true → a ≡ b) → a ≡ b
    by true p true q x y all later = grind (arith, nat_tests, p, q)
    by true p false q x y all later =
        let at : a ≡ first = grind (arith, nat_tests, p) in
        let owners : owner_of_it first ≡ owner_of_it b = ap owner_of_it (sym at) ∙ same in
        absurd (both_ways (owner_of_it first == owner_of_it b) (others_differ owner_of_it first b rest all y) (grind (arith, nat_tests, owners)))
    by false p true q x y all later =
        let at : b ≡ first = grind (arith, nat_tests, q) in
        let owners : owner_of_it first ≡ owner_of_it a = ap owner_of_it (sym at) ∙ sym same in
        absurd (both_ways (owner_of_it first == owner_of_it a) (others_differ owner_of_it first a rest all x) (grind (arith, nat_tests, owners)))
    by false p false q x y all later = later x y

module _ (basin : Draft) (valid : IsBasin basin) where
  -- slots that are together and belong to one object are one
  one_slot : (slot other object : ℕ) → is_together basin.links slot other ≡ true → owner_of basin.objects slot ≡ object
      → owner_of basin.objects other ≡ object → slot ≡ other
  one_slot slot other object together first second = elim (same_or_linked basin slot other valid together) [
    | inl same ↦ same
    | inr both ↦ one_each (owner_of basin.objects) both.link slot other both.is.apart both.first both.second (first ∙ sym second)
  ]

  pub apart : (object : ℕ) → IsApart basin object
  apart object = record {
    own = own basin object;
    apart =
        λ place other slot there step at is_there differ.
        by place other slot there step at is_there differ (is_shared basin (cell_at slot step) (cell_at there step)) refl;
  }
    where
      by : (place other slot there step : ℕ) → slot_in_place basin.objects object place ≡ Some slot
          → slot_in_place basin.objects object other ≡ Some there
          → place ≢ other → (test : Bool) → is_shared basin (cell_at slot step) (cell_at there step) ≡ test → test ≡ false
      by place other slot there step at is_there differ false e = refl
      by place other slot there step at is_there differ true e =
          let same =
          one_slot slot there object (Shared-of basin (cell_at slot step) (cell_at there step) e).together
          (owner_in basin.objects object place slot at)
          (owner_in basin.objects object other there is_there) in
          let one = placed_in basin.objects object place slot at in
          let two = placed_in basin.objects object other slot (is_there ∙ ap Some (sym same)) in
          let both : one.placed ≡ two.placed = same_Some _ _ (sym one.at ∙ two.at) in
          absurd (differ (sym one.there ∙ ap (λ (p : Placed). p.place) both ∙ two.there))

  -- ---- a slot that shares with another is a slot

  number_known : (one other : ℕ) → is_together basin.links one other ≡ true → is_among other (slot_numbers basin.objects) ≡ true
      → is_among one (slot_numbers basin.objects) ≡ true
  number_known one other together known_one = elim (same_or_linked basin one other valid together) [
    | inl same ↦ subst (λ s. is_among s (slot_numbers basin.objects) ≡ true) (sym same) known_one
    | inr both ↦ known_number basin.objects one (among_known basin.objects both.link one both.is.known both.first)
  ]

  pub same_group : (cell one other : Cell) → is_shared basin one other ≡ true → is_shared basin cell one ≡ is_shared basin cell other
  same_group cell one other shares =
      let is = Shared-of basin one other shares in
      ap₂ (λ a b. a && b)
      (among_group basin.objects basin.links cell.slot.0 one.slot.0
      ∙ ap₂ (λ a b. a && b) (together_alike basin.links cell.slot.0 one.slot.0 other.slot.0 (one.slot.0 == other.slot.0) refl is.together)
      (number_known one.slot.0 other.slot.0 is.together is.known ∙ sym is.known)
      ∙ sym (among_group basin.objects basin.links cell.slot.0 other.slot.0))
      (ap (λ step. step == cell.step.0) (sym is.step))

  pub same_bounds : (cell other : Cell) (value : ℤ) → is_shared basin cell other ≡ true
      → in_bounds basin cell.slot.0 value ≡ in_bounds basin other.slot.0 value
  same_bounds cell other value shares =
      ap (λ (b : Bounds). is_between b value && is_between all_quantities value) (bounds-shared basin cell other shares)

  -- ---- an object that is reached has a slot there

  pub hits : (object : ℕ) (cell : Cell) → is_at basin object cell.slot.0 ≡ true
      → (place : ℕ) × (slot : ℕ) × (slot_in_place basin.objects object place ≡ Some slot) × (is_shared basin cell (cell_at slot cell.step.0) ≡ true)
  hits object cell reaches =
      let found = witness (λ s. owner_of basin.objects s == object) (group_of basin.objects basin.links cell.slot.0) reaches in
      let known_slot =
      among_known basin.objects (group_of basin.objects basin.links cell.slot.0) found.0
      (group_known basin.objects basin.links cell.slot.0) found.1 in
      let first = known_slot.first in
      let final = known_slot.last in
      let near : found.0 - 1 < length (all_slots basin.objects) = omega (arith, first, final) in
      let there = stored (all_slots basin.objects) (found.0 - 1) near in
      let at : slot_at basin.objects found.0 ≡ Some there.0 = numbered-known (all_slots basin.objects) found.0 first ∙ there.1 in
      let owns : there.0.owner ≡ object =
      sym (ap (λ (p : Option Placed). unwrap_or (option_map (λ (q : Placed). q.owner) p) 0) at)
      ∙ (let test = found.2 in grind (arith, nat_tests, test)) in (
        there.0.place,
        found.0,
        subst (λ o. slot_in_place basin.objects o there.0.place ≡ Some found.0) owns (in_its_place basin.objects found.0 there.0 first at),
        ap₂ (λ a b. a && b) found.1 (nat_eq_equiv.refl cell.step.0),
      )
    where
      stored : (slots : List Placed) (k : ℕ) → k < length slots → (p : Placed) × (slice_get slots k ≡ Some p)
      stored [] k near = absurd (omega (arith, near))
      stored (first ∷ slots) zero near = (first, refl)
      stored (first ∷ slots) (suc k) near = stored slots k (omega (arith, near))
