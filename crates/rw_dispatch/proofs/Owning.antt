-- Who owns a slot that puts reach.
use Rattle.rw_dispatch.proofs.Common.{Bool, List, SlotNo, [], ap, ap₂, arith, eqb-true, false, length, list_any, list_any_more, not, Option, refl}
use Rattle.rw_dispatch.proofs.Common.{slice_index_or, subst, sym, take, take_all, true, ℕ, ◌&&◌, ◌+◌, ◌-◌, ◌<◌, ◌==◌, ◌||◌, ◌∙◌, ◌∷◌, ◌≡◌, ◌≤◌}
use Rattle.rw_model.proofs.Common.{numbers_of, Draft, group_of, owner_of}
use Rattle.rw_run.specs.Log.{Asked}
use Rattle.rw_run.specs.Waiting.{is_at, is_but, is_owner, slots_at}
use Rattle.rw_base.proofs.Common.{nat_tests, list_any-append, ◌++◌, if◌then◌else◌}
use Rattle.std.proofs.Math.ListN.{length-replicate, replicate}
use Rattle.std.proofs.Math.Bool.{or_assoc, or_comm}
use Rattle.std.proofs.lemmas.List.{take_more}
use Rattle.rw_base.specs.Bit.{has_bit}
use Rattle.rw_dispatch.specs.Owners.{HasReached, is_object_reached}
use Rattle.rw_dispatch.specs.declared.owners.Reached.{Reached}
use Rattle.rw_base.proofs.Bits.{no_bit}

-- tests that answer alike for all but the one that is left out reach the same
alike_but : (but : Option ℕ) (p q : ℕ → Bool) (reached : Reached) → ((object : ℕ) → is_object_reached but p object ≡ is_object_reached but q object)
    → HasReached but p reached → HasReached but q reached
alike_but but p q reached same has = record {
  many = has.many;
  marked = λ object first. has.marked object first ∙ same object;
  before_all = λ object first near. sym (same object) ∙ has.before_all object first near;
  behind = λ object far. sym (same object) ∙ has.behind object far;
}

alike : (but : Option ℕ) (p q : ℕ → Bool) (reached : Reached) → ((object : ℕ) → p object ≡ q object) → HasReached but p reached
    → HasReached but q reached
alike but p q reached same = alike_but but p q reached (λ object. ap (λ test. not (is_but but object) && test) (same object))

-- ---- one object more

module _ (but : Option ℕ) (object : ℕ) (seen : ℕ → Bool) where
  -- the one that is left out isn't reached
  pub left-out : (reached : Reached) → is_but but object ≡ true → HasReached but seen reached
      → HasReached but (λ other. object == other || seen other) reached
  left-out reached out = alike_but but seen (λ other. object == other || seen other) reached (λ other. by other (object == other) refl)
    where
      by : (other : ℕ) (same : Bool) → (object == other) ≡ same
          → (not (is_but but other) && seen other) ≡ (not (is_but but other) && (same || seen other))
      by other true same =
          let own : is_but but other ≡ true = ap (is_but but) (sym (eqb-true object other same)) ∙ out in
          ap (λ t. not t && seen other) own ∙ sym (ap (λ t. not t && (true || seen other)) own)
      by other false same = refl

  -- any other one is
  with_own : is_but but object ≡ false → (other : ℕ) (same : Bool) → (object == other) ≡ same
      → (same || (not (is_but but other) && seen other)) ≡ (not (is_but but other) && (same || seen other))
  with_own kept other true same =
      let own : is_but but other ≡ false = ap (is_but but) (sym (eqb-true object other same)) ∙ kept in
      sym (ap (λ t. not t && (true || seen other)) own)
  with_own kept other false same = refl

  pub reached-more : (old new : Reached) → 1 ≤ object → is_but but object ≡ false → length new.marks ≡ length old.marks
      → ((number : ℕ) → has_bit new.marks number ≡ (number == object - 1 || has_bit old.marks number))
      → new.before ≤ old.before → new.before ≤ object - 1 → old.last ≤ new.last → object ≤ new.last → HasReached but seen old
      → HasReached but (λ other. object == other || seen other) new
  reached-more old new first kept many marks before before_own last last_own has = record {
    many = many ∙ has.many;
    marked = λ other from.
        let same : (other - 1 == object - 1) ≡ (object == other) = grind (arith, nat_tests) in
        marks (other - 1) ∙ ap₂ (λ a b. a || b) same (has.marked other from) ∙ with_own kept other (object == other) refl;
    before_all = λ other from near.
        let apart : (object == other) ≡ false = grind (arith, nat_tests) in
        ap (λ t. not (is_but but other) && (t || seen other)) apart ∙ has.before_all other from (omega (arith, near, before));
    behind = λ other far.
        let apart : (object == other) ≡ false = grind (arith, nat_tests) in
        ap (λ t. not (is_but but other) && (t || seen other)) apart ∙ has.behind other (omega (arith, far, last));
  }

none_passes : (test : Bool) → (not test && false) ≡ false
none_passes true = refl
none_passes false = refl

-- at first none is reached
pub none-reached : (but : Option ℕ) (reached : Reached) → reached.marks ≡ replicate 8 0 → HasReached but (λ object. false) reached
none-reached but reached is = record {
  many = ap length is ∙ length-replicate {A = ℕ} 8 0;
  marked = λ object first. ap (λ words. has_bit words (object - 1)) is ∙ no_bit 8 (object - 1) ∙ sym (none_passes (is_but but object));
  before_all = λ object first near. none_passes (is_but but object);
  behind = λ object far. none_passes (is_but but object);
}

-- ---- one slot more

or_moved : (a b c : Bool) → (a || (b || c)) ≡ ((b || a) || c)
or_moved a b c = sym (or_assoc a b c) ∙ ap (λ both. both || c) (or_comm a b)

any_numbers : (test : ℕ → Bool) (slots : List SlotNo) → list_any test (numbers_of slots) ≡ list_any (λ (s : SlotNo). test s.0) slots
any_numbers test [] = refl
any_numbers test (slot ∷ slots) = ap (λ any. test slot.0 || any) (any_numbers test slots)

any_more : (test : ℕ → Bool) (slots : List SlotNo) (k : ℕ) (d : SlotNo) → k < length slots
    → (list_any test (numbers_of (take k slots)) || test (slice_index_or slots k d).0) ≡ list_any test (numbers_of (take (k + 1) slots))
any_more test slots k d near =
    ap (λ any. any || test (slice_index_or slots k d).0) (any_numbers test (take k slots))
    ∙ sym (list_any_more (λ (slot : SlotNo). test slot.0) slots k d near)
    ∙ sym (any_numbers test (take (k + 1) slots))

pub other-more : (but : Option ℕ) (basin : Draft) (seen : ℕ → Bool) (group : List SlotNo) (k : ℕ) (d : SlotNo) (owner : ℕ) (reached : Reached)
    → k < length group → owner ≡ owner_of basin.objects (slice_index_or group k d).0
    → HasReached but (λ object. owner == object
    || (list_any (λ other. owner_of basin.objects other == object) (numbers_of (take k group)) || seen object)) reached
    → HasReached but (λ object. list_any (λ other. owner_of basin.objects other == object) (numbers_of (take (k + 1) group)) || seen object) reached
other-more but basin seen group k d owner reached near own = alike but _ _ reached
    (λ object.
    let owns : (ℕ → Bool) = λ other. owner_of basin.objects other == object in
    or_moved (owner == object) (list_any owns (numbers_of (take k group))) (seen object)
    ∙ ap (λ o. (list_any owns (numbers_of (take k group)) || o == object) || seen object) own
    ∙ ap (λ any. any || seen object) (any_more owns group k d near))

pub others-all : (but : Option ℕ) (basin : Draft) (slot : ℕ) (seen : ℕ → Bool) (group : List SlotNo) (k : ℕ) (reached : Reached)
    → length group ≤ k → numbers_of group ≡ group_of basin.objects basin.links slot
    → HasReached but (λ object. list_any (λ other. owner_of basin.objects other == object) (numbers_of (take k group)) || seen object) reached
    → HasReached but (λ object. is_at basin object slot || seen object) reached
others-all but basin slot seen group k reached all is =
    subst (λ others. HasReached but (λ object. list_any (λ other. owner_of basin.objects other == object) others || seen object) reached)
    (ap numbers_of (take_all k group all) ∙ is)

pub slot-more : (but : Option ℕ) (basin : Draft) (slots : List SlotNo) (k : ℕ) (d : SlotNo) (reached : Reached) → k < length slots
    → HasReached but (λ object. is_at basin object (slice_index_or slots k d).0 || is_owner basin (numbers_of (take k slots)) object) reached
    → HasReached but (is_owner basin (numbers_of (take (k + 1) slots))) reached
slot-more but basin slots k d reached near = alike but _ _ reached
    (λ object.
    or_comm (is_at basin object (slice_index_or slots k d).0) (is_owner basin (numbers_of (take k slots)) object)
    ∙ any_more (is_at basin object) slots k d near)

slots_at-append : (step : ℕ) (first last : List Asked) → slots_at step (first ++ last) ≡ slots_at step first ++ slots_at step last
slots_at-append step [] last = refl
slots_at-append step (put ∷ first) last = by (put.cell.step.0 == step) (slots_at-append step first last)
  where
    by : (t : Bool) → slots_at step (first ++ last) ≡ slots_at step first ++ slots_at step last
        → (if t then put.cell.slot.0 ∷ slots_at step (first ++ last) else slots_at step (first ++ last))
        ≡ (if t then put.cell.slot.0 ∷ slots_at step first else slots_at step first) ++ slots_at step last
    by true rest = ap (λ slots. put.cell.slot.0 ∷ slots) rest
    by false rest = rest

-- a write at the timestep reaches the owners of its slot's group
pub written-at : (but : Option ℕ) (basin : Draft) (step : ℕ) (slots : List ℕ) (write : Asked) (reached : Reached) → write.cell.step.0 ≡ step
    → HasReached but (λ object. is_at basin object write.cell.slot.0 || is_owner basin slots object) reached
    → HasReached but (is_owner basin (slots_at step (write ∷ []) ++ slots)) reached
written-at but basin step slots write reached at has =
    let here : (write.cell.step.0 == step) ≡ true = grind (arith, nat_tests) in
    subst (λ (t : Bool). HasReached but (is_owner basin ((if t then write.cell.slot.0 ∷ [] else []) ++ slots)) reached) (sym here) has

-- one write more
pub written-more : (but : Option ℕ) (basin : Draft) (step : ℕ) (writes : List Asked) (k : ℕ) (write : Asked) (reached : Reached) → k < length writes
    → write ≡ slice_index_or writes k write
    → HasReached but (is_owner basin (slots_at step (write ∷ []) ++ slots_at step (take k writes))) reached
    → HasReached but (is_owner basin (slots_at step (take (k + 1) writes))) reached
written-more but basin step writes k write reached near is = alike but _ _ reached
    (λ object.
    let test : (ℕ → Bool) = is_at basin object in
    let new = slots_at step (write ∷ []) in
    let old = slots_at step (take k writes) in
    list_any-append test new old
    ∙ or_comm (list_any test new) (list_any test old)
    ∙ sym (list_any-append test old new)
    ∙ ap (list_any test) (sym (slots_at-append step (take k writes) (write ∷ []))
    ∙ ap (slots_at step) (ap (λ w. take k writes ++ w ∷ []) is ∙ sym (take_more writes k write near))))
