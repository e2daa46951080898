-- The groups that links make.
use Rattle.rw_base.proofs.Common.{◌≡◌, ◌≢◌, ℕ, zero, suc, ◌+◌, ◌<◌, ◌≤◌, ◌==◌, List, [], ◌∷◌, ◌++◌, length, Bool, true, false, ◌||◌, Some, None, cond}
use Rattle.rw_base.proofs.Common.{refl, sym, ap, subst, ◌∙◌, append-nil, arith, slice_index_or, map, All, slice_set, Result, Ok, Err, OnOk, filter}
use Rattle.rw_base.proofs.Common.{range_with_len, nat_eq_equiv, get_or-set_same, get_or-set_other, map-range_with_len_more, All-nil, All-cons}
use Rattle.rw_base.proofs.Common.{All-head, All-tail, filter-append, filter_agree, All-filter}
use Rattle.std.proofs.lemmas.List.{length-set}
use Rattle.rw_base.specs.declared.number.SlotNo.{SlotNo}
use Rattle.rw_model.specs.Objects.{Object, all_slots}
use Rattle.rw_model.specs.Draft.{IsSlot}
use Rattle.rw_model.specs.Links.{link_of, is_same_link, is_together, slot_numbers, group_of}
use Rattle.rw_model.specs.Kept.{numbers_of, is_in_link, KeepsGroups}

map_same : (xs : List ℕ) → map (λ (x : ℕ). x) xs ≡ xs
map_same [] = refl
map_same (x ∷ xs) = ap (λ ys. x ∷ ys) (map_same xs)

-- the numbers up to one more
pub range_more : (n : ℕ) → range_with_len 1 (n + 1) ≡ range_with_len 1 n ++ (n + 1) ∷ []
range_more n =
    let next : 1 + n ≡ n + 1 = omega arith in
    sym (map_same (range_with_len 1 (n + 1)))
    ∙ map-range_with_len_more (λ (x : ℕ). x) 1 n (n + 1) next
    ∙ ap (λ xs. xs ++ (n + 1) ∷ []) (map_same (range_with_len 1 n))

pub filter_range_more : (p : ℕ → Bool) (n : ℕ)
    → filter p (range_with_len 1 (n + 1)) ≡ filter p (range_with_len 1 n) ++ cond (p (n + 1)) ((n + 1) ∷ []) []
filter_range_more p n = ap (filter p) (range_more n) ∙ filter-append p (range_with_len 1 n) ((n + 1) ∷ [])

pub on_ok : {A E : Type 0} {P Q : Type 0} → (P → Q) → (result : Result A E) → OnOk result P → OnOk result Q
on_ok f (Ok x) p = f p
on_ok f (Err e) p = tt

-- ---- groups without a slot

-- ---- a slot more

unlinked : (links : List (List ℕ)) (slot : ℕ) → link_of links slot ≡ None → (place : ℕ) → is_in_link links place slot ≡ false
unlinked links slot none place = ap (is_same_link (Some place)) none

pub KeepsGroups-unlinked : (links groups : List (List ℕ)) (n : ℕ) → KeepsGroups links n groups → link_of links (n + 1) ≡ None
    → KeepsGroups links (n + 1) groups
KeepsGroups-unlinked links groups n kept none = record {
  every = kept.every;
  each = λ place.
      kept.each place
      ∙ sym (append-nil (filter (is_in_link links place) (range_with_len 1 n)))
      ∙ ap (λ test. filter (is_in_link links place) (range_with_len 1 n) ++ cond test ((n + 1) ∷ []) []) (sym (unlinked links (n + 1) none place))
      ∙ sym (filter_range_more (is_in_link links place) n);
}

linked_here : (links groups : List (List ℕ)) (n place k : ℕ) → KeepsGroups links n groups → link_of links (n + 1) ≡ Some place → place < length groups
    → (test : Bool) → (k == place) ≡ test
    → slice_index_or (slice_set groups place (slice_index_or groups place [] ++ (n + 1) ∷ [])) k []
    ≡ filter (is_in_link links k) (range_with_len 1 n) ++ cond (is_in_link links k (n + 1)) ((n + 1) ∷ []) []
linked_here links groups n place k kept linked within true same =
    let here : k ≡ place = grind arith in
    let test : is_in_link links place (n + 1) ≡ true = ap (is_same_link (Some place)) linked ∙ nat_eq_equiv.refl place in
    subst (λ j. slice_index_or (slice_set groups place (slice_index_or groups place [] ++ (n + 1) ∷ [])) j []
    ≡ filter (is_in_link links j) (range_with_len 1 n) ++ cond (is_in_link links j (n + 1)) ((n + 1) ∷ []) []) (sym here)
    (get_or-set_same groups place (slice_index_or groups place [] ++ (n + 1) ∷ []) [] within
    ∙ ap (λ g. g ++ (n + 1) ∷ []) (kept.each place)
    ∙ ap (λ t. filter (is_in_link links place) (range_with_len 1 n) ++ cond t ((n + 1) ∷ []) []) (sym test))
linked_here links groups n place k kept linked within false other =
    let apart : k ≢ place = grind arith in
    let test : is_in_link links k (n + 1) ≡ false = ap (is_same_link (Some k)) linked ∙ other in
    get_or-set_other groups place k (slice_index_or groups place [] ++ (n + 1) ∷ []) [] apart
    ∙ kept.each k
    ∙ sym (append-nil (filter (is_in_link links k) (range_with_len 1 n)))
    ∙ ap (λ t. filter (is_in_link links k) (range_with_len 1 n) ++ cond t ((n + 1) ∷ []) []) (sym test)

pub KeepsGroups-linked : (links groups new : List (List ℕ)) (n place : ℕ) → KeepsGroups links n groups → link_of links (n + 1) ≡ Some place
    → place < length groups
    → new ≡ slice_set groups place (slice_index_or groups place [] ++ (n + 1) ∷ []) → KeepsGroups links (n + 1) new
KeepsGroups-linked links groups new n place kept linked within joined = record {
  every = ap length joined ∙ length-set groups place (slice_index_or groups place [] ++ (n + 1) ∷ []) ∙ kept.every;
  each = λ k. ap (λ gs. slice_index_or gs k []) joined ∙ linked_here links groups n place k kept linked within (k == place) refl
      ∙ sym (filter_range_more (is_in_link links k) n);
}

-- ---- the group of a slot

together_in_link : (links : List (List ℕ)) (slot place : ℕ) → link_of links slot ≡ Some place → (other : ℕ) → (test : Bool) → (slot == other) ≡ test
    → is_together links slot other ≡ is_in_link links place other
together_in_link links slot place linked other true same =
    let here : slot ≡ other = grind arith in
    let found : link_of links other ≡ Some place = ap (link_of links) (sym here) ∙ linked in
    rw (same, found) (sym (nat_eq_equiv.refl place))
together_in_link links slot place linked other false apart = rw (apart, linked) refl

-- that of a linked slot is its link
pub group_of-linked : (objects : List Object) (links : List (List ℕ)) (slot place : ℕ) → link_of links slot ≡ Some place
    → group_of objects links slot ≡ filter (is_in_link links place) (slot_numbers objects)
group_of-linked objects links slot place linked =
    filter_agree (is_together links slot) (is_in_link links place) (λ other. together_in_link links slot place linked other (slot == other) refl)
    (slot_numbers objects)

none_before : (slot first n : ℕ) → slot < first → filter (λ other. slot == other) (range_with_len first n) ≡ []
none_before slot first zero below = refl
none_before slot first (suc n) below =
    let other : (slot == first) ≡ false = grind arith in
    let next : slot < first + 1 = omega (arith, below) in
    rw other (none_before slot (first + 1) n next)

alone_at : (slot first n : ℕ) → (first + 1 ≤ slot → slot < (first + 1) + n
    → filter (λ other. slot == other) (range_with_len (first + 1) n) ≡ slot ∷ []) → first ≤ slot → slot < first + suc n → (test : Bool)
    → (slot == first) ≡ test
    → filter (λ other. slot == other) (range_with_len first (suc n)) ≡ slot ∷ []
alone_at slot first n later from below true same =
    let here : slot ≡ first = grind arith in
    let next : slot < first + 1 = omega (arith, here) in
    rw same (ap (λ x. x ∷ filter (λ other. slot == other) (range_with_len (first + 1) n)) (sym here)
    ∙ ap (λ xs. slot ∷ xs) (none_before slot (first + 1) n next))
alone_at slot first n later from below false other =
    let apart : slot ≢ first = grind arith in
    let near : first + 1 ≤ slot = omega (arith, from, apart) in
    let far : slot < (first + 1) + n = omega (arith, below) in
    rw other (later near far)

alone_from : (slot first n : ℕ) → first ≤ slot → slot < first + n → filter (λ other. slot == other) (range_with_len first n) ≡ slot ∷ []
alone_from slot first zero from below = absurd (omega (arith, from, below))
alone_from slot first (suc n) from below = alone_at slot first n (alone_from slot (first + 1) n) from below (slot == first) refl

or_false : (a : Bool) → (a || false) ≡ a
or_false true = refl
or_false false = refl

alone_only : (links : List (List ℕ)) (slot : ℕ) → link_of links slot ≡ None → (other : ℕ) → is_together links slot other ≡ (slot == other)
alone_only links slot none other = rw none (or_false (slot == other))

-- and that of any other slot is the slot alone
pub group_of-alone : (objects : List Object) (links : List (List ℕ)) (slot : ℕ) → IsSlot objects slot → link_of links slot ≡ None
    → group_of objects links slot ≡ slot ∷ []
group_of-alone objects links slot known none =
    filter_agree (is_together links slot) (λ other. slot == other) (alone_only links slot none) (slot_numbers objects)
    ∙ alone_from slot 1 (length (all_slots objects)) known.first (omega (arith, known.last))

-- ---- a group's slots are known

all_between : (low first n high : ℕ) → low ≤ first → first + n ≤ high + 1 → All (λ x. (low ≤ x) × (x ≤ high)) (range_with_len first n)
all_between low first zero high from to = All-nil (λ x. (low ≤ x) × (x ≤ high))
all_between low first (suc n) high from to =
    let near : first ≤ high = omega (arith, to) in
    let next : low ≤ first + 1 = omega (arith, from) in
    let far : (first + 1) + n ≤ high + 1 = omega (arith, to) in
    All-cons (λ x. (low ≤ x) × (x ≤ high)) first (range_with_len (first + 1) n) (from, near) (all_between low (first + 1) n high next far)

pub all_known : (objects : List Object) → All (IsSlot objects) (slot_numbers objects)
all_known objects k d within =
    let pair = all_between 1 1 (length (all_slots objects)) (length (all_slots objects)) (omega arith) (omega arith) k d within in
    record { first = pair.0; last = pair.1 }

pub group_known : (objects : List Object) (links : List (List ℕ)) (slot : ℕ) → All (IsSlot objects) (group_of objects links slot)
group_known objects links slot = All-filter (is_together links slot) (IsSlot objects) (slot_numbers objects) (all_known objects)

-- what holds of the numbers holds of the slots
pub all_numbered : (P : ℕ → Type 0) (slots : List SlotNo) → All P (numbers_of slots) → All (λ (slot : SlotNo). P slot.0) slots
all_numbered P [] all = All-nil (λ (slot : SlotNo). P slot.0)
all_numbered P (slot ∷ slots) all =
    All-cons (λ (s : SlotNo). P s.0) slot slots (All-head P slot.0 (numbers_of slots) all)
    (all_numbered P slots (All-tail P slot.0 (numbers_of slots) all))
