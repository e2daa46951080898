-- What a builder was told stays in order with each thing more that it takes.
use Rattle.rw_base.proofs.Common.{◌≡◌, ℕ, ◌+◌, ◌-◌, ◌<◌, ◌≤◌, nat_le, ◌==◌, List, [], ◌∷◌, ◌++◌, length, Bool, true, false, ◌&&◌, ◌||◌}
use Rattle.rw_base.proofs.Common.{Option, Some, None, refl, sym, ap, subst, ◌∙◌, append-nil, append_assoc, arith, map, All, Contains, slice_get}
use Rattle.rw_base.proofs.Common.{bytes_eq, pos, IsTrue, Result, Ok, Err, OnOk, OnErr, cond, option_map, unwrap_or, if◌then◌else◌, list_any, filter}
use Rattle.rw_base.proofs.Common.{option_or, ForSome, int_eq, Decides-int_eq, nat_eq_equiv, nat_list_eq_equiv, map-append, All-nil, All-cons}
use Rattle.rw_base.proofs.Common.{All-head, All-tail, All-push, All-weaker, All-contains, filter-append, IsDistinct-push}
use Rattle.std.specs.List.{IsDistinct}
use Rattle.std.proofs.lemmas.List.{length-append}
use Rattle.rw_base.specs.Dimension.{Dimension, dimension}
use Rattle.rw_base.proofs.Lists.{got_in_front}
use Rattle.rw_model.specs.declared.limits.TheConstants.{LINK_MAX}
use Rattle.rw_model.specs.Refusal.{BuildRefusal, bad_parameter}
use Rattle.rw_model.specs.Slot.{Bounds, IsInside}
use Rattle.rw_model.specs.Slots.{slots_of}
use Rattle.rw_model.specs.Objects.{Object, Placed, placed_from, object_from, all_slots, slot_at}
use Rattle.rw_model.specs.declared.control.RunControl.{RunControl}
use Rattle.rw_model.specs.Draft.{Draft, IsControl, Bound, IsSound, IsSlot, CanAdd, CanBound, bound_of, has_distinct_slots}
use Rattle.rw_model.specs.Links.{is_among, is_slot, owner_of, dim_of, link_from, link_of, is_same_dim, join_refusal, joins_refusal, link_refusal}
use Rattle.rw_model.specs.Basin.{IsLink, link_count, IsBound, IsDraft}
use Rattle.rw_model.proofs.ObjectFacts.{slots_from-push}
use Rattle.rw_model.proofs.Linking.{among_all, joined}
use Rattle.rw_model.proofs.Numbered.{numbered-known}

-- ---- what is known of a slot stays with an object more

slot_at-more : (objects : List Object) (object : Object) (slot : ℕ) → IsSlot objects slot
    → slot_at (objects ++ object ∷ []) slot ≡ slot_at objects slot
slot_at-more objects object slot known =
    let near : slot - 1 < length (all_slots objects) = omega (arith, known.first, known.last) in
    numbered-known (all_slots (objects ++ object ∷ [])) slot known.first
    ∙ ap (λ slots. slice_get slots (slot - 1)) (slots_from-push 1 objects object)
    ∙ got_in_front (all_slots objects) (placed_from (1 + length objects) 0 (slots_of object.kind)) (slot - 1) near
    ∙ sym (numbered-known (all_slots objects) slot known.first)

IsSlot-more : (objects : List Object) (object : Object) (slot : ℕ) → IsSlot objects slot → IsSlot (objects ++ object ∷ []) slot
IsSlot-more objects object slot known =
    let more = ap length (slots_from-push 1 objects object) in
    record {
      first = known.first;
      last = omega (arith, known.last, more, length-append (all_slots objects) (placed_from (1 + length objects) 0 (slots_of object.kind)));
    }

owner_of-more : (objects : List Object) (object : Object) (slot : ℕ) → IsSlot objects slot
    → owner_of (objects ++ object ∷ []) slot ≡ owner_of objects slot
owner_of-more objects object slot known =
    ap (λ placed. unwrap_or (option_map (λ (p : Placed). p.owner) placed) 0) (slot_at-more objects object slot known)

dim_of-more : (objects : List Object) (object : Object) (slot : ℕ) → IsSlot objects slot → dim_of (objects ++ object ∷ []) slot ≡ dim_of objects slot
dim_of-more objects object slot known =
    ap (λ placed. unwrap_or (option_map (λ (p : Placed). p.slot.dim) placed) (dimension (pos 0) (pos 0) (pos 0) (pos 0)))
    (slot_at-more objects object slot known)

map_alike : {X Y : Type 0} (f g : X → Y) (xs : List X) → All (λ x. f x ≡ g x) xs → map f xs ≡ map g xs
map_alike f g [] same = refl
map_alike {X} {Y} f g (x ∷ xs) same =
    let here : f x ≡ g x = All-head (λ y. f y ≡ g y) x xs same in
    let there = map_alike f g xs (All-tail (λ y. f y ≡ g y) x xs same) in
    ap (λ y. y ∷ map f xs) here ∙ ap (λ ys. g x ∷ ys) there

IsLink-more : (objects : List Object) (object : Object) (link : List ℕ) → IsLink objects link → IsLink (objects ++ object ∷ []) link
IsLink-more objects object link whole =
    let owners : map (owner_of (objects ++ object ∷ [])) link ≡ map (owner_of objects) link =
    map_alike (owner_of (objects ++ object ∷ [])) (owner_of objects) link
    (All-weaker (IsSlot objects) (λ s. owner_of (objects ++ object ∷ []) s ≡ owner_of objects s) (owner_of-more objects object) link whole.known) in
    record {
      some = whole.some;
      few = whole.few;
      known = All-weaker (IsSlot objects) (IsSlot (objects ++ object ∷ [])) (IsSlot-more objects object) link whole.known;
      apart = subst (λ os. IsDistinct (λ (a : ℕ) b. a == b) os) (sym owners) whole.apart;
      alike = λ a b in_a in_b.
          dim_of-more objects object a (All-contains (IsSlot objects) link a whole.known in_a)
          ∙ whole.alike a b in_a in_b
          ∙ sym (dim_of-more objects object b (All-contains (IsSlot objects) link b whole.known in_b));
    }

IsBound-more : (objects : List Object) (object : Object) (bound : Bound) → IsBound objects bound → IsBound (objects ++ object ∷ []) bound
IsBound-more objects object bound whole =
    record {
      known = IsSlot-more objects object bound.slot whole.known;
      within =
          subst (λ placed. ForSome placed (λ (p : Placed). IsInside bound.bounds p.slot.widest))
          (sym (slot_at-more objects object bound.slot whole.known)) whole.within;
    }

-- ---- an object more

unnamed : (test : Bool) (n : ℕ) (rest : Option ℕ) → (if test then Some n else rest) ≡ None → (test ≡ false) × (rest ≡ None)
unnamed true n rest none = absurd (cc)
unnamed false n rest none = (refl, none)

no_name : (number : ℕ) (objects : List Object) (name : List ℕ) → object_from number objects name ≡ None
    → list_any (bytes_eq name) (map (λ (object : Object). object.name) objects) ≡ false
no_name number [] name none = refl
no_name number (object ∷ objects) name none =
    let facts = unnamed (bytes_eq name object.name) number (object_from (number + 1) objects name) none in
    rw facts.0 (no_name (number + 1) objects name facts.1)

pub IsDraft-object : (draft : Draft) (object : Object) → IsDraft draft → CanAdd draft.objects object
    → IsDraft (record draft { objects = draft.objects ++ object ∷ [] })
IsDraft-object draft object whole added =
    let named : (Object → List ℕ) = λ o. o.name in
    record {
      control = whole.control;
      sound = All-push IsSound draft.objects object whole.sound added.sound;
      names = subst (λ names. IsDistinct bytes_eq names) (sym (map-append named draft.objects (object ∷ [])))
          (IsDistinct-push nat_list_eq_equiv (map named draft.objects) object.name whole.names
          (no_name 1 draft.objects object.name added.fresh.name));
      slots = All-push (λ (o : Object). IsTrue (has_distinct_slots o.kind)) draft.objects object whole.slots added.fresh.slots;
      few_objects = added.few_objects;
      few_slots = added.few_slots;
      links = All-weaker (IsLink draft.objects) (IsLink (draft.objects ++ object ∷ [])) (IsLink-more draft.objects object) draft.links whole.links;
      once = whole.once;
      bounds =
          All-weaker (IsBound draft.objects) (IsBound (draft.objects ++ object ∷ [])) (IsBound-more draft.objects object) draft.bounds whole.bounds;
      bound_once = whole.bound_once;
    }

-- ---- bounds more

unbound : (test : Bool) (bounds : Bounds) (rest : Option Bounds) → (if test then Some bounds else rest) ≡ None → (test ≡ false) × (rest ≡ None)
unbound true bounds rest none = absurd (cc)
unbound false bounds rest none = (refl, none)

no_bound : (own : List Bound) (slot : ℕ) → bound_of own slot ≡ None
    → list_any (λ other. slot == other) (map (λ (bound : Bound). bound.slot) own) ≡ false
no_bound [] slot none = refl
no_bound (bound ∷ own) slot none =
    let facts = unbound (slot == bound.slot) bound.bounds (bound_of own slot) none in
    rw facts.0 (no_bound own slot facts.1)

pub IsDraft-bound : (draft : Draft) (slot : ℕ) (bounds : Bounds) → IsDraft draft → CanBound draft.objects draft.bounds slot bounds
    → IsDraft (record draft { bounds = draft.bounds ++ record { slot = slot; bounds = bounds } ∷ [] })
IsDraft-bound draft slot bounds whole given =
    let own : Bound = record { slot = slot; bounds = bounds } in
    let numbered : (Bound → ℕ) = λ b. b.slot in
    record {
      control = whole.control;
      sound = whole.sound;
      names = whole.names;
      slots = whole.slots;
      few_objects = whole.few_objects;
      few_slots = whole.few_slots;
      links = whole.links;
      once = whole.once;
      bounds = All-push (IsBound draft.objects) draft.bounds own whole.bounds (record { known = given.known; within = given.within });
      bound_once = subst (λ slots. IsDistinct (λ (a : ℕ) b. a == b) slots) (sym (map-append numbered draft.bounds (own ∷ [])))
          (IsDistinct-push nat_eq_equiv (map numbered draft.bounds) slot whole.bound_once (no_bound draft.bounds slot given.free));
    }

-- ---- a link more

is_slot-known : (objects : List Object) (slot : ℕ) → is_slot objects slot ≡ true → IsSlot objects slot
is_slot-known objects slot test = record { first = grind arith; last = grind arith }

both_none : (a b : Option BuildRefusal) → option_or a b ≡ None → (a ≡ None) × (b ≡ None)
both_none None b none = (refl, none)
both_none (Some x) b none = absurd (cc)

no_link : (place : ℕ) (links : List (List ℕ)) (slot : ℕ) → link_from place links slot ≡ None → link_count links slot ≡ 0
no_link place [] slot none = refl
no_link place (link ∷ links) slot none =
    let facts = unnamed (is_among slot link) place (link_from (place + 1) links slot) none in
    rw facts.0 (no_link (place + 1) links slot facts.1)

list_any-map : {X Y : Type 0} (p : Y → Bool) (f : X → Y) (xs : List X) → list_any p (map f xs) ≡ list_any (λ x. p (f x)) xs
list_any-map p f [] = refl
list_any-map p f (x ∷ xs) = ap (λ rest. p (f x) || rest) (list_any-map p f xs)

-- the slots that a link names after others are known, in no link, and of objects that differ
joins : (objects : List Object) (links : List (List ℕ)) (before slots : List ℕ) → joins_refusal objects links before slots ≡ None
    → IsDistinct (λ (a : ℕ) b. a == b) (map (owner_of objects) before)
    → All (IsSlot objects) slots × All (λ slot. link_of links slot ≡ None) slots
    × IsDistinct (λ (a : ℕ) b. a == b) (map (owner_of objects) (before ++ slots))
joins objects links before [] none distinct = (
  All-nil (IsSlot objects),
  All-nil (λ slot. link_of links slot ≡ None),
  subst (λ slots. IsDistinct (λ (a : ℕ) b. a == b) (map (owner_of objects) slots)) (sym (append-nil before)) distinct,
)
joins objects links before (slot ∷ slots) none distinct =
    let facts = both_none (join_refusal objects links before slot) (joins_refusal objects links (before ++ slot ∷ []) slots) none in
    let join = joined objects links before slot facts.0 in
    let apart : list_any (λ o. owner_of objects slot == o) (map (owner_of objects) before) ≡ false =
    list_any-map (λ o. owner_of objects slot == o) (owner_of objects) before ∙ join.apart in
    let pushed : IsDistinct (λ (a : ℕ) b. a == b) (map (owner_of objects) (before ++ slot ∷ [])) =
    subst (λ owners. IsDistinct (λ (a : ℕ) b. a == b) owners) (sym (map-append (owner_of objects) before (slot ∷ [])))
    (IsDistinct-push nat_eq_equiv (map (owner_of objects) before) (owner_of objects slot) distinct apart) in
    let rest = joins objects links (before ++ slot ∷ []) slots facts.1 pushed in (
      All-cons (IsSlot objects) slot slots (is_slot-known objects slot join.known) rest.0,
      All-cons (λ s. link_of links s ≡ None) slot slots join.free rest.1,
      subst (λ all. IsDistinct (λ (a : ℕ) b. a == b) (map (owner_of objects) all)) (append_assoc before (slot ∷ []) slots) rest.2,
    )

both_true : (a b : Bool) → (a && b) ≡ true → (a ≡ true) × (b ≡ true)
both_true true b both = (refl, both)
both_true false b both = absurd (cc)

same_dim : (a b : Dimension) → is_same_dim a b ≡ true → a ≡ b
same_dim a b same =
    let three = both_true (int_eq a.volume b.volume && int_eq a.length b.length && int_eq a.step b.step) (int_eq a.energy b.energy) same in
    let two = both_true (int_eq a.volume b.volume && int_eq a.length b.length) (int_eq a.step b.step) three.0 in
    let one = both_true (int_eq a.volume b.volume) (int_eq a.length b.length) two.0 in
    ap (λ v. dimension v a.length a.step a.energy) ((Decides-int_eq a.volume b.volume).0 one.0)
    ∙ ap (λ l. dimension b.volume l a.step a.energy) ((Decides-int_eq a.length b.length).0 one.1)
    ∙ ap (λ s. dimension b.volume b.length s a.energy) ((Decides-int_eq a.step b.step).0 two.1)
    ∙ ap (λ e. dimension b.volume b.length b.step e) ((Decides-int_eq a.energy b.energy).0 three.1)

-- and measure what the first one measures
alikes : (objects : List Object) (links : List (List ℕ)) (first : ℕ) (before slots : List ℕ)
    → joins_refusal objects links (first ∷ before) slots ≡ None
    → All (λ slot. dim_of objects first ≡ dim_of objects slot) slots
alikes objects links first before [] none = All-nil (λ slot. dim_of objects first ≡ dim_of objects slot)
alikes objects links first before (slot ∷ slots) none =
    let facts = both_none (join_refusal objects links (first ∷ before) slot) (joins_refusal objects links (first ∷ before ++ slot ∷ []) slots) none in
    let join = joined objects links (first ∷ before) slot facts.0 in
    All-cons (λ s. dim_of objects first ≡ dim_of objects s) slot slots (same_dim (dim_of objects first) (dim_of objects slot) join.alike)
    (alikes objects links first (before ++ slot ∷ []) slots facts.1)

all_alike : (objects : List Object) (links : List (List ℕ)) (slots : List ℕ) → joins_refusal objects links [] slots ≡ None
    → (a b : ℕ) → Contains slots a → Contains slots b → dim_of objects a ≡ dim_of objects b
all_alike objects links [] none a b in_a in_b = absurd (omega (arith, in_a.1))
all_alike objects links (first ∷ slots) none a b in_a in_b =
    let facts = both_none (join_refusal objects links [] first) (joins_refusal objects links (first ∷ []) slots) none in
    let like : All (λ s. dim_of objects first ≡ dim_of objects s) (first ∷ slots) =
    All-cons (λ s. dim_of objects first ≡ dim_of objects s) first slots refl (alikes objects links first [] slots facts.1) in
    sym (All-contains (λ s. dim_of objects first ≡ dim_of objects s) (first ∷ slots) a like in_a)
    ∙ All-contains (λ s. dim_of objects first ≡ dim_of objects s) (first ∷ slots) b like in_b

few_enough : (test : Bool) (rest : Option BuildRefusal) → (if test then rest else Some bad_parameter) ≡ None → (test ≡ true) × (rest ≡ None)
few_enough true rest none = (refl, none)
few_enough false rest none = absurd (cc)

-- a link with which nothing is wrong is a link
pub IsLink-judged : (objects : List Object) (links : List (List ℕ)) (slots : List ℕ) → link_refusal objects links slots ≡ None
    → IsLink objects slots × All (λ slot. link_of links slot ≡ None) slots
unfolding IsDistinct
IsLink-judged objects links slots none =
    let facts = few_enough (nat_le 2 (length slots) && nat_le (length slots) LINK_MAX) (joins_refusal objects links [] slots) none in
    let counted = both_true (nat_le 2 (length slots)) (nat_le (length slots) LINK_MAX) facts.0 in
    let each = joins objects links [] slots facts.1 tt in (
      record {
        some = grind (arith, counted);
        few = grind (arith, counted);
        known = each.0;
        apart = each.2;
        alike = all_alike objects links slots facts.1;
      },
      each.1,
    )

one_more : (test : Bool) (link : List ℕ) (before : List (List ℕ)) → (test ≡ true → length before ≡ 0) → length before ≤ 1
    → length (before ++ cond test (link ∷ []) []) ≤ 1
one_more true link before none few = let free = none refl in omega (arith, free, length-append before (link ∷ []))
one_more false link before none few = omega (arith, few, length-append before [])

pub IsDraft-link : (draft : Draft) (slots : List ℕ) → IsDraft draft → link_refusal draft.objects draft.links slots ≡ None
    → IsDraft (record draft { links = draft.links ++ slots ∷ [] })
IsDraft-link draft slots whole none =
    let facts = IsLink-judged draft.objects draft.links slots none in
    record {
      control = whole.control;
      sound = whole.sound;
      names = whole.names;
      slots = whole.slots;
      few_objects = whole.few_objects;
      few_slots = whole.few_slots;
      links = All-push (IsLink draft.objects) draft.links slots whole.links facts.0;
      once = λ slot. subst (λ links. length links ≤ 1) (sym (filter-append (is_among slot) draft.links (slots ∷ [])))
          (one_more (is_among slot slots) slots (filter (is_among slot) draft.links)
          (λ among. no_link 0 draft.links slot (among_all (λ n. link_of draft.links n ≡ None) slots facts.1 slot among)) (whole.once slot));
      bounds = whole.bounds;
      bound_once = whole.bound_once;
    }

-- ---- what a builder holds after a call

pub IsDraft-begin : (control : RunControl) → IsControl control → IsDraft (record { control = control; objects = []; links = []; bounds = [] })
unfolding IsDistinct
IsDraft-begin control within = record {
  control = within;
  sound = All-nil IsSound;
  names = tt;
  slots = All-nil (λ (o : Object). IsTrue (has_distinct_slots o.kind));
  few_objects = omega arith;
  few_slots = omega arith;
  links = All-nil (IsLink []);
  once = λ slot. omega arith;
  bounds = All-nil (IsBound []);
  bound_once = tt;
}

pub either_objects : {A E : Type 0} (result : Result A E) (draft : Draft) (object : Object) (new : List Object) → IsDraft draft
    → CanAdd draft.objects object
    → OnOk result (new ≡ draft.objects ++ object ∷ []) → OnErr result (new ≡ draft.objects) → IsDraft (record draft { objects = new })
either_objects (Ok x) draft object new whole added ok err =
    subst (λ os. IsDraft (record draft { objects = os })) (sym ok) (IsDraft-object draft object whole added)
either_objects (Err e) draft object new whole added ok err = subst (λ os. IsDraft (record draft { objects = os })) (sym err) whole

pub either_links : {A E : Type 0} (result : Result A E) (draft : Draft) (slots : List ℕ) (new : List (List ℕ)) → IsDraft draft
    → link_refusal draft.objects draft.links slots ≡ None
    → OnOk result (new ≡ draft.links ++ slots ∷ []) → OnErr result (new ≡ draft.links) → IsDraft (record draft { links = new })
either_links (Ok x) draft slots new whole none ok err =
    subst (λ ls. IsDraft (record draft { links = ls })) (sym ok) (IsDraft-link draft slots whole none)
either_links (Err e) draft slots new whole none ok err = subst (λ ls. IsDraft (record draft { links = ls })) (sym err) whole

pub either_bounds : {A E : Type 0} (result : Result A E) (draft : Draft) (slot : ℕ) (bounds : Bounds) (new : List Bound) → IsDraft draft
    → CanBound draft.objects draft.bounds slot bounds
    → OnOk result (new ≡ draft.bounds ++ record { slot = slot; bounds = bounds } ∷ []) → OnErr result (new ≡ draft.bounds)
    → IsDraft (record draft { bounds = new })
either_bounds (Ok x) draft slot bounds new whole given ok err =
    subst (λ bs. IsDraft (record draft { bounds = bs })) (sym ok) (IsDraft-bound draft slot bounds whole given)
either_bounds (Err e) draft slot bounds new whole given ok err = subst (λ bs. IsDraft (record draft { bounds = bs })) (sym err) whole
