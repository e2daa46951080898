-- Cells that share their value.
use Rattle.rw_base.proofs.Common.{◌≡◌, ℕ, ◌+◌, ◌-◌, ◌<◌, ◌==◌, ◌&&◌, ◌||◌, Bool, true, false, if◌then◌else◌, List, length, Option, Some, None, refl}
use Rattle.rw_base.proofs.Common.{sym, ap, ap₂, subst, ◌∙◌, arith, and_parts, nat_eq_equiv, nat_tests, any-filter_same}
use Rattle.rw_base.specs.declared.number.Cell.{Cell}
use Rattle.rw_model.specs.declared.content.Content.{Content}
use Rattle.rw_model.proofs.Common.{Object, all_slots, Draft, IsSlot, link_of, is_same_link, is_together, is_among, slot_numbers, group_of}
use Rattle.rw_model.proofs.Common.{some_crossed}
use Rattle.rw_series.specs.Columns.{AreColumns}
use Rattle.rw_series.specs.Series.{Series, IsCell, is_shared, IsSeriesOf, Sets}

-- ---- a slot in a group

pub known_number : (objects : List Object) (slot : ℕ) → IsSlot objects slot → is_among slot (slot_numbers objects) ≡ true
known_number objects slot known =
    let near : slot - 1 < length (all_slots objects) = omega (arith, known.first, known.last) in
    let at : (slot - 1) + 1 ≡ slot = omega (arith, known.first) in
    some_crossed (λ other. slot == other) (length (all_slots objects)) (slot - 1) near (ap (λ other. slot == other) at ∙ nat_eq_equiv.refl slot)

pub among_group : (objects : List Object) (links : List (List ℕ)) (slot other : ℕ)
    → is_among other (group_of objects links slot) ≡ (is_together links slot other && is_among other (slot_numbers objects))
among_group objects links slot other =
    any-filter_same (λ k. other == k) (is_together links slot) (is_together links slot other)
    (λ k same. ap (is_together links slot) (let at : k ≡ other = grind (arith, nat_tests, same) in at)) (slot_numbers objects)

-- ---- slots that are together are together with the same ones

pub linked_alike : (one other : Option ℕ) → is_same_link one other ≡ true → (place : ℕ) × ((one ≡ Some place) × (other ≡ Some place))
linked_alike None other same = absurd (cc)
linked_alike (Some p) None same = absurd (cc)
linked_alike (Some p) (Some q) same = let at : q ≡ p = grind (arith, nat_tests, same) in (p, (refl, ap Some at))

in_link : (links : List (List ℕ)) (slot other place : ℕ) → link_of links other ≡ Some place → (test : Bool) → (slot == other) ≡ test
    → is_together links slot other ≡ is_same_link (link_of links slot) (Some place)
in_link links slot other place linked true same =
    let at : slot ≡ other = grind (arith, nat_tests, same) in
    let here : link_of links slot ≡ Some place = ap (link_of links) at ∙ linked in
    rw (same, here) (sym (nat_eq_equiv.refl place))
in_link links slot other place linked false apart = rw (apart, linked) refl

pub together_alike : (links : List (List ℕ)) (slot one other : ℕ) → (test : Bool) → (one == other) ≡ test → is_together links one other ≡ true
    → is_together links slot one ≡ is_together links slot other
together_alike links slot one other true same together =
    let at : one ≡ other = grind (arith, nat_tests, same) in ap (is_together links slot) at
together_alike links slot one other false apart together =
    let linked = linked_alike (link_of links one) (link_of links other) (rw apart at together) in
    in_link links slot one linked.0 linked.1.0 (slot == one) refl ∙ sym (in_link links slot other linked.0 linked.1.1 (slot == other) refl)

-- ---- cells

-- the cells share their value
pub record Shared (basin : Draft) (cell other : Cell) : Type 0 where
  pub together : is_together basin.links cell.slot.0 other.slot.0 ≡ true
  pub known : is_among other.slot.0 (slot_numbers basin.objects) ≡ true
  pub step : other.step.0 ≡ cell.step.0

pub Shared-of : (basin : Draft) (cell other : Cell) → is_shared basin cell other ≡ true → Shared basin cell other
Shared-of basin cell other shared =
    let parts = and_parts _ _ shared in
    let in_group = and_parts _ _ (sym (among_group basin.objects basin.links cell.slot.0 other.slot.0) ∙ parts.0) in
    record { together = in_group.0; known = in_group.1; step = grind (arith, nat_tests, parts.1) }

pub shared_alike : (basin : Draft) (cell one other : Cell) → IsCell basin one → is_shared basin one other ≡ true
    → is_shared basin cell one ≡ is_shared basin cell other
shared_alike basin cell one other known shared =
    let is = Shared-of basin one other shared in
    ap₂ (λ a b. a && b)
    (among_group basin.objects basin.links cell.slot.0 one.slot.0
    ∙ ap₂ (λ a b. a && b) (together_alike basin.links cell.slot.0 one.slot.0 other.slot.0 (one.slot.0 == other.slot.0) refl is.together)
    (known_number basin.objects one.slot.0 known.slot ∙ sym is.known)
    ∙ sym (among_group basin.objects basin.links cell.slot.0 other.slot.0))
    (ap (λ step. step == cell.step.0) (sym is.step))

pub Sets-made : (basin : Draft) (cell : Cell) (content : Option Content) (old new : Series) → IsSeriesOf basin old → Sets basin cell content old new
    → new.slots ≡ old.slots → new.steps ≡ old.steps → new.columns ≡ old.columns → new.width ≡ old.width → IsSeriesOf basin new
Sets-made basin cell content old new made sets slots steps columns width = record {
  slots = slots ∙ made.slots;
  steps = steps ∙ made.steps;
  columns =
      subst (λ n. AreColumns basin n new.width new.columns) (sym slots)
      (subst (λ n. AreColumns basin old.slots n new.columns) (sym width) (subst (AreColumns basin old.slots old.width) (sym columns) made.columns));
  shared = λ one other known shared.
      sets one
      ∙ ap₂ (λ test there. if test then content else there) (shared_alike basin cell one other known shared) (made.shared one other known shared)
      ∙ sym (sets other);
}

-- together, from either side

pub same_turned : (a b : ℕ) → (a == b) ≡ (b == a)
same_turned a b = grind (arith, nat_tests)

link_turned : (one other : Option ℕ) → is_same_link one other ≡ is_same_link other one
link_turned None None = refl
link_turned None (Some q) = refl
link_turned (Some p) None = refl
link_turned (Some p) (Some q) = same_turned p q

pub together_turned : (links : List (List ℕ)) (one other : ℕ) → is_together links one other ≡ is_together links other one
together_turned links one other = ap₂ (λ a b. a || b) (same_turned one other) (link_turned (link_of links one) (link_of links other))
