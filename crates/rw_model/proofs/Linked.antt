-- What the definitions of links, groups and bounds come to.
use Rattle.rw_base.proofs.Common.{◌≡◌, ◌↔◌, ℕ, zero, suc, ◌+◌, ◌-◌, ◌<◌, ◌≤◌, ◌==◌, nat_le, List, [], ◌∷◌, length, Bool, true, false, ◌||◌, Option}
use Rattle.rw_base.proofs.Common.{Some, None, cond, refl, sym, ap, ◌∙◌, arith, ℤ, ◌≤ℤ◌, All, Contains, if◌then◌else◌, slice_get, filter, int_max}
use Rattle.rw_base.proofs.Common.{int_min, int_lt, cond_both, nat_eq_equiv, list_any-from_Contains, Contains-from_any, ints, fold-int_max_bounds}
use Rattle.rw_base.proofs.Common.{fold-int_min_bounds, All-nil, All-cons, All-head, All-tail, All-contains, filter_passes, length-range_with_len}
use Rattle.rw_base.proofs.Common.{get_or-range_with_len, slice_get-get_or, nat_tests}
use Rattle.rw_base.proofs.Tests.{passed, spared, unless, where-true}
use Rattle.rw_base.proofs.Lists.{or_second}
use Rattle.rw_model.specs.declared.limits.TheConstants.{CELLS_MAX}
use Rattle.rw_model.specs.Refusal.{link_bounds}
use Rattle.rw_model.specs.Slot.{Bounds}
use Rattle.rw_model.specs.Objects.{Object, all_slots}
use Rattle.rw_model.specs.Draft.{Draft, Bound, IsSlot}
use Rattle.rw_model.specs.Links.{is_among, link_from, link_of, is_same_link, is_together, slot_numbers, group_of, IsBetween, own_bounds, meet}
use Rattle.rw_model.specs.Links.{meet_all}
use Rattle.rw_model.specs.Basin.{IsLink, IsDraft, link_count, IsBasin, finish_refusal, basin_cell_count, has_crossed_bounds}

pub basin_iff : (draft : Draft) → IsDraft draft → (finish_refusal draft ≡ None) ↔ IsBasin draft
basin_iff draft whole = (
  λ e.
      let first = spared (nat_le (length draft.objects) 0) _ _ e in
      let second = passed (nat_le (basin_cell_count draft) CELLS_MAX) _ _ first.1 in
      let third = spared (has_crossed_bounds draft) None link_bounds second.1 in
      record { whole = whole; some = grind (arith, nat_tests); few_cells = grind (arith, nat_tests); meets = third.0 },
  λ basin.
      let some = basin.some in
      let few = basin.few_cells in
      unless (nat_le (length draft.objects) 0) _ _ (grind (arith, nat_tests))
      ∙ where-true (nat_le (basin_cell_count draft) CELLS_MAX) _ _ (grind (arith, nat_tests))
      ∙ unless (has_crossed_bounds draft) _ _ basin.meets,
)

max_lower : (a b value : ℤ) → int_max a b ≤ℤ value → (a ≤ℤ value) × (b ≤ℤ value)
max_lower a b value above =
    let facts = fold-int_max_bounds a (b ∷ []) (int_max a b) refl in
    let second : b ≤ℤ int_max a b = All-head (λ x. x ≤ℤ int_max a b) b [] facts.1 in
    (omega (arith, ints, facts.0, above), omega (arith, ints, second, above))

min_upper : (a b value : ℤ) → value ≤ℤ int_min a b → (value ≤ℤ a) × (value ≤ℤ b)
min_upper a b value below =
    let facts = fold-int_min_bounds a (b ∷ []) (int_min a b) refl in
    let second : int_min a b ≤ℤ b = All-head (λ x. int_min a b ≤ℤ x) b [] facts.1 in
    (omega (arith, ints, facts.0, below), omega (arith, ints, second, below))

max_least : (a b value : ℤ) → a ≤ℤ value → b ≤ℤ value → int_max a b ≤ℤ value
max_least a b value p q = cond_both (int_lt b a) a b (λ r. r ≤ℤ value) (λ t. p) (λ f. q)

min_greatest : (a b value : ℤ) → value ≤ℤ a → value ≤ℤ b → value ≤ℤ int_min a b
min_greatest a b value p q = cond_both (int_lt b a) b a (λ r. value ≤ℤ r) (λ t. q) (λ f. p)

meet-both : (a b : Bounds) (value : ℤ) → IsBetween (meet a b) value ↔ (IsBetween a value × IsBetween b value)
meet-both a b value = (
  λ both.
      let low = max_lower a.0 b.0 value both.low in
      let high = min_upper a.1 b.1 value both.high in
      (record { low = low.0; high = high.0 }, record { low = low.1; high = high.1 }),
  λ each. record { low = max_least a.0 b.0 value each.0.low each.1.low; high = min_greatest a.1 b.1 value each.0.high each.1.high },
)

pub meet_all-each : (objects : List Object) (own : List Bound) (bounds : Bounds) (slots : List ℕ) (value : ℤ)
    → IsBetween (meet_all objects own bounds slots) value
    ↔ (IsBetween bounds value × All (λ other. IsBetween (own_bounds objects own other) value) slots)
meet_all-each objects own bounds [] value =
    (λ between. (between, All-nil (λ other. IsBetween (own_bounds objects own other) value)), λ each. each.0)
meet_all-each objects own bounds (slot ∷ slots) value =
    let first = own_bounds objects own slot in
    let P : (ℕ → Type 0) = λ other. IsBetween (own_bounds objects own other) value in
    let rest = meet_all-each objects own (meet bounds first) slots value in
    let here = meet-both bounds first value in (
      λ between. let parts = rest.0 between in let two = here.0 parts.0 in (two.0, All-cons P slot slots two.1 parts.1),
      λ each. rest.1 (here.1 (each.0, All-head P slot slots each.1), All-tail P slot slots each.1),
    )

-- ---- the link that has a slot

same_number : (a b : ℕ) → (a == b) ≡ true → a ≡ b
same_number a b same = grind arith

among : (slot : ℕ) (slots : List ℕ) → Contains slots slot → is_among slot slots ≡ true
among slot slots has = list_any-from_Contains nat_eq_equiv slot slots has

has_among : (slot : ℕ) (slots : List ℕ) → is_among slot slots ≡ true → Contains slots slot
has_among slot slots found = Contains-from_any same_number slot slots found

counted_here : (test : Bool) (l : List ℕ) (rest : List (List ℕ)) → test ≡ true → 1 ≤ length (cond test (l ∷ rest) rest)
counted_here true l rest has = omega arith
counted_here false l rest has = absurd (cc)

counted_there : (test : Bool) (l : List ℕ) (rest : List (List ℕ)) → 1 ≤ length rest → 1 ≤ length (cond test (l ∷ rest) rest)
counted_there true l rest some = omega arith
counted_there false l rest some = some

-- a slot of one of the links has a link
counted : (links : List (List ℕ)) (link : List ℕ) (slot i : ℕ) → slice_get links i ≡ Some link → is_among slot link ≡ true → 1 ≤ link_count links slot
counted [] link slot i found has = absurd (cc)
counted (l ∷ links) link slot zero found has =
    let same : l ≡ link = cc in
    counted_here (is_among slot l) l (filter (is_among slot) links) (ap (is_among slot) same ∙ has)
counted (l ∷ links) link slot (suc i) found has =
    counted_there (is_among slot l) l (filter (is_among slot) links) (counted links link slot i found has)

fewer : (test : Bool) (l : List ℕ) (rest : List (List ℕ)) → length (cond test (l ∷ rest) rest) ≤ 1 → length rest ≤ 1
fewer true l rest few = omega (arith, few)
fewer false l rest few = few

at_first : (test : Bool) (place : ℕ) (rest : Option ℕ) → test ≡ true → (if test then Some place else rest) ≡ Some (place + 0)
at_first true place rest has = let same : place ≡ place + 0 = omega arith in ap Some same
at_first false place rest has = absurd (cc)

at_later : (test : Bool) (l : List ℕ) (more : List (List ℕ)) (place i : ℕ) (rest : Option ℕ) → length (cond test (l ∷ more) more) ≤ 1
    → 1 ≤ length more
    → rest ≡ Some ((place + 1) + i) → (if test then Some place else rest) ≡ Some (place + suc i)
at_later true l more place i rest few some found = absurd (omega (arith, few, some))
at_later false l more place i rest few some found = let same : (place + 1) + i ≡ place + suc i = omega arith in found ∙ ap Some same

-- where a slot has one link at most, that is the one in whose place a link with the slot stands
placed_at : (place : ℕ) (links : List (List ℕ)) (link : List ℕ) (slot i : ℕ) → link_count links slot ≤ 1 → slice_get links i ≡ Some link
    → is_among slot link ≡ true
    → link_from place links slot ≡ Some (place + i)
placed_at place [] link slot i few found has = absurd (cc)
placed_at place (l ∷ links) link slot zero few found has =
    let same : l ≡ link = cc in
    at_first (is_among slot l) place (link_from (place + 1) links slot) (ap (is_among slot) same ∙ has)
placed_at place (l ∷ links) link slot (suc i) few found has =
    at_later (is_among slot l) l (filter (is_among slot) links) place i (link_from (place + 1) links slot) few (counted links link slot i found has)
    (placed_at (place + 1) links link slot i (fewer (is_among slot l) l (filter (is_among slot) links) few) found has)

hit : (test : Bool) (place : ℕ) (rest : Option ℕ) → (rest ≡ Some (place + 0) → ⊥) → (if test then Some place else rest) ≡ Some (place + 0)
    → test ≡ true
hit true place rest never found = refl
hit false place rest never found = absurd (never found)

missed : (test : Bool) (place i : ℕ) (rest : Option ℕ) → (if test then Some place else rest) ≡ Some (place + suc i) → rest ≡ Some ((place + 1) + i)
missed true place i rest found = let same : place ≡ place + suc i = cc in absurd (omega (arith, same))
missed false place i rest found = let same : place + suc i ≡ (place + 1) + i = omega arith in found ∙ ap Some same

after : (test : Bool) (place k : ℕ) (rest : Option ℕ) → (rest ≡ Some k → place + 1 ≤ k) → (if test then Some place else rest) ≡ Some k → place ≤ k
after true place k rest later found = let same : place ≡ k = cc in omega (arith, same)
after false place k rest later found = let behind = later found in omega (arith, behind)

link_from-after : (place k : ℕ) (links : List (List ℕ)) (slot : ℕ) → link_from place links slot ≡ Some k → place ≤ k
link_from-after place k [] slot found = absurd (cc)
link_from-after place k (link ∷ links) slot found =
    after (is_among slot link) place k (link_from (place + 1) links slot) (link_from-after (place + 1) k links slot) found

-- the link in a slot's place has the slot
has_slot : (place : ℕ) (links : List (List ℕ)) (link : List ℕ) (slot i : ℕ) → link_from place links slot ≡ Some (place + i)
    → slice_get links i ≡ Some link → is_among slot link ≡ true
has_slot place [] link slot i at found = absurd (cc)
has_slot place (l ∷ links) link slot zero at found =
    let same : l ≡ link = cc in
    ap (is_among slot) (sym same)
    ∙ hit (is_among slot l) place (link_from (place + 1) links slot)
    (λ later. let after' = link_from-after (place + 1) (place + 0) links slot later in omega (arith, after')) at
has_slot place (l ∷ links) link slot (suc i) at found =
    has_slot (place + 1) links link slot i (missed (is_among slot l) place i (link_from (place + 1) links slot) at) found

-- ---- a group and its link

kept_step : (px eq rest tail : Bool) → (eq ≡ true → px ≡ true) → (tail ≡ true → rest ≡ true) → (eq || tail) ≡ true → cond px (eq || rest) rest ≡ true
kept_step true true rest tail same later has = refl
kept_step true false rest tail same later has = later has
kept_step false true rest tail same later has = absurd (let not_so = same refl in cc)
kept_step false false rest tail same later has = later has

cond_any : (px : Bool) (q x : ℕ) (xs : List ℕ) → is_among q (cond px (x ∷ xs) xs) ≡ cond px ((q == x) || is_among q xs) (is_among q xs)
cond_any true q x xs = refl
cond_any false q x xs = refl

kept : (p : ℕ → Bool) (q : ℕ) (xs : List ℕ) → p q ≡ true → is_among q xs ≡ true → is_among q (filter p xs) ≡ true
kept p q [] passes found = found
kept p q (x ∷ xs) passes found =
    cond_any (p x) q x (filter p xs)
    ∙ kept_step (p x) (q == x) (is_among q (filter p xs)) (is_among q xs) (λ same. ap p (sym (same_number q x same)) ∙ passes)
    (kept p q xs passes) found

numbered : (objects : List Object) (slot : ℕ) → IsSlot objects slot → is_among slot (slot_numbers objects) ≡ true
numbered objects slot known =
    let n = length (all_slots objects) in
    let near : slot - 1 < n = omega (arith, known.first, known.last) in
    let at : 1 + (slot - 1) ≡ slot = omega (arith, known.first) in
    let within : slot - 1 < length (slot_numbers objects) = omega (arith, near, length-range_with_len 1 n) in
    among slot (slot_numbers objects) (slot - 1, within, get_or-range_with_len 1 n (slot - 1) slot near ∙ at)

or_of : (a b : Bool) → a ≡ false → (a || b) ≡ true → b ≡ true
or_of true b fails has = absurd (cc)
or_of false b fails has = has

same_link : (i : ℕ) (a b : Option ℕ) → a ≡ Some i → is_same_link a b ≡ true → b ≡ Some i
same_link i None b at linked = absurd (cc)
same_link i (Some j) None at linked = absurd (cc)
same_link i (Some j) (Some k) at linked =
    let here : j ≡ i = cc in
    let there : j ≡ k = same_number j k linked in
    ap Some (sym there ∙ here)

in_link : (objects : List Object) (links : List (List ℕ)) (link : List ℕ) (slot other i : ℕ) → slice_get links i ≡ Some link
    → link_of links slot ≡ Some i
    → is_among slot link ≡ true → (test : Bool) → (slot == other) ≡ test → is_together links slot other ≡ true → is_among other link ≡ true
in_link objects links link slot other i found at has true same together = ap (λ s. is_among s link) (sym (same_number slot other same)) ∙ has
in_link objects links link slot other i found at has false apart together =
    let linked : is_same_link (link_of links slot) (link_of links other) ≡ true =
    or_of (slot == other) (is_same_link (link_of links slot) (link_of links other)) apart together in
    let begins : i ≡ 0 + i = omega arith in
    has_slot 0 links link other i (same_link i (link_of links slot) (link_of links other) at linked ∙ ap Some begins) found

pub group-is-link : (draft : Draft) (link : List ℕ) (slot other : ℕ) → IsDraft draft → Contains draft.links link → Contains link slot
    → Contains (group_of draft.objects draft.links slot) other ↔ Contains link other
group-is-link draft link slot other whole in_links in_link' =
    let i = in_links.0 in
    let begins : 0 + i ≡ i = omega arith in
    let found : slice_get draft.links i ≡ Some link = slice_get-get_or draft.links i link in_links.1 ∙ ap Some in_links.2 in
    let has = among slot link in_link' in
    let at : link_of draft.links slot ≡ Some i = placed_at 0 draft.links link slot i (whole.once slot) found has ∙ ap Some begins in (
      λ grouped.
          let together = All-contains (λ x. is_together draft.links slot x ≡ true) (group_of draft.objects draft.links slot) other
          (filter_passes (is_together draft.links slot) (slot_numbers draft.objects)) grouped in
          has_among other link (in_link draft.objects draft.links link slot other i found at has (slot == other) refl together),
      λ linked.
          let there = among other link linked in
          let at_other : link_of draft.links other ≡ Some i = placed_at 0 draft.links link other i (whole.once other) found there ∙ ap Some begins in
          let link' = All-contains (IsLink draft.objects) draft.links link whole.links in_links in
          let known = All-contains (IsSlot draft.objects) link other link'.known linked in
          let same : is_same_link (link_of draft.links slot) (link_of draft.links other) ≡ true = rw (at, at_other) (nat_eq_equiv.refl i) in
          has_among other (group_of draft.objects draft.links slot)
          (kept (is_together draft.links slot) other (slot_numbers draft.objects)
          (or_second (slot == other) (is_same_link (link_of draft.links slot) (link_of draft.links other)) same)
          (numbered draft.objects other known)),
    )
