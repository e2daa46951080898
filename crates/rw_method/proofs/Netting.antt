-- What the held values of a balance's terms bring, all together, once an object was dispatched.
use Rattle.rw_method.proofs.Common.{All, All-contains, AllByRecursion, Bool, Contains, Contains-append_left, Contains-append_right, Contains-get_or}
use Rattle.rw_method.proofs.Common.{Content, Given, Holds, IsSome, Kind, List, None, Option, Put, Some, Term, View, [], ap, ap₂, arith, brought}
use Rattle.rw_method.proofs.Common.{brought_by, false, get_or, inl, inr, ints, known_value, map, net_of, option_map, pos, recursion_from_All, refl}
use Rattle.rw_method.proofs.Common.{same_Some, solved_balance, subst, sym, true, ℕ, ℤ, ◌++◌, ◌+ℤ◌, ◌∙◌, ◌∷◌, ◌≡◌, ◌≢◌}
use Rattle.rw_method.proofs.SolvedTerm.{solved_term}
use Rattle.rw_method.specs.Passing.{IsAfterOwn}
use Rattle.rw_method.proofs.Answering.{Answered}
use Rattle.rw_method.proofs.Leaving.{DispatchFacts, Solving, holds_given, one_solving}
use Rattle.rw_method.proofs.Among.{Among, all_among, all_mapped}
use Rattle.rw_method.proofs.BalanceFacts.{balanced_code, holds_facts}
use Rattle.rw_method.proofs.Terms.{Sort, given_in, shape_of, term_in}
use Rattle.rw_base.proofs.Lists.{both_all, weaker_all}

-- the slots of these sorts hold these values
abbrev pub HeldIn : View → List Sort → List ℤ → Type 0
HeldIn view [] [] = Unit {0}
HeldIn view [] (v ∷ vs) = ⊥
HeldIn view (s ∷ shape) [] = ⊥
HeldIn view (s ∷ shape) (v ∷ vs) = (known_value view s.place ≡ Some v) × HeldIn view shape vs

abbrev pub net_in : Option ℤ → List Sort → List ℤ → ℤ
net_in past [] vs = pos 0
net_in past (s ∷ shape) [] = pos 0
net_in past (s ∷ shape) (v ∷ vs) = brought (s.share past) v +ℤ net_in past shape vs

-- what is given is what is held then
abbrev pub IsAgreed : View → View → Sort → Type 0
IsAgreed old new s = (g : Given) → given_in old s ≡ Some g → known_value new s.place ≡ Some g.value

abbrev IsSure : View → View → Sort → Type 0
IsSure old new s = IsSome (given_in old s) × IsAgreed old new s

brought_same : (old new : View) (s : Sort) (v : ℤ) (found : Option Given) → given_in old s ≡ found → IsSome found → IsAgreed old new s
    → known_value new s.place ≡ Some v
    → brought_by (s.share old.past) found ≡ brought (s.share old.past) v
brought_same old new s v None is some agreed there = absurd (cc)
brought_same old new s v (Some g) is some agreed there = ap (brought (s.share old.past)) (same_Some _ _ (sym (agreed g is) ∙ there))

same_net : (old new : View) (shape : List Sort) (vs : List ℤ) → HeldIn new shape vs → AllByRecursion (IsSure old new) shape
    → net_of (map (term_in old) shape) ≡ net_in old.past shape vs
same_net old new [] [] held all = refl
same_net old new [] (v ∷ vs) held all = absurd held
same_net old new (s ∷ shape) [] held all = absurd held
same_net old new (s ∷ shape) (v ∷ vs) held all =
    ap₂ (λ a b. a +ℤ b) (brought_same old new s v (given_in old s) refl all.0.0 all.0.1 held.0) (same_net old new shape vs held.1 all.1)

solved_net : (old new : View) (before : List Sort) (s : Sort) (after : List Sort) (vs : List ℤ) (value : ℤ) → HeldIn new (before ++ s ∷ after) vs
    → AllByRecursion (IsSure old new) before → AllByRecursion (IsSure old new) after → known_value new s.place ≡ Some value
    → (net_of (map (term_in old) before) +ℤ brought (s.share old.past) value) +ℤ net_of (map (term_in old) after)
    ≡ net_in old.past (before ++ s ∷ after) vs
solved_net old new [] s after [] value held b a there = absurd held
solved_net old new [] s after (v ∷ vs) value held b a there =
    let same : value ≡ v = same_Some _ _ (sym there ∙ held.0) in
    let rest_same = same_net old new after vs held.1 a in
    let mine : brought (s.share old.past) value ≡ brought (s.share old.past) v = ap (brought (s.share old.past)) same in
    omega (arith, ints, rest_same, mine)
solved_net old new (r ∷ before) s after [] value held b a there = absurd held
solved_net old new (r ∷ before) s after (v ∷ vs) value held b a there =
    let first = brought_same old new r v (given_in old r) refl b.0.0 b.0.1 held.0 in
    let later = solved_net old new before s after vs value held.1 b.1 a there in
    omega (arith, ints, first, later)

-- ---- the sorts around the one that was solved

pub record IsSplit (view : View) (shape : List Sort) (before : List Term) (term : Term) (after : List Term) : Type 0 where
  pub first : List Sort
  pub at : Sort
  pub later : List Sort
  pub whole : shape ≡ first ++ at ∷ later
  pub first_is : before ≡ map (term_in view) first
  pub at_is : term ≡ term_in view at
  pub later_is : after ≡ map (term_in view) later

abbrev head_or : Term → List Term → Term
head_or term [] = term
head_or term (first ∷ rest) = first

abbrev tail_of : List Term → List Term
tail_of [] = []
tail_of (first ∷ rest) = rest

abbrev is_empty : List Term → Bool
is_empty [] = true
is_empty (first ∷ rest) = false

split : (view : View) (shape : List Sort) (before : List Term) (term : Term) (after : List Term) → map (term_in view) shape ≡ before ++ term ∷ after
    → IsSplit view shape before term after
split view [] [] term after is = absurd (let differ : true ≡ false = ap is_empty is in cc)
split view [] (b ∷ before) term after is = absurd (let differ : true ≡ false = ap is_empty is in cc)
split view (s ∷ shape) [] term after is = record {
  first = [];
  at = s;
  later = shape;
  whole = refl;
  first_is = refl;
  at_is = sym (ap (head_or term) is);
  later_is = sym (ap tail_of is);
}
split view (s ∷ shape) (b ∷ before) term after is =
    let rest = split view shape before term after (ap tail_of is) in
    record {
      first = s ∷ rest.first;
      at = rest.at;
      later = rest.later;
      whole = ap (λ ss. s ∷ ss) rest.whole;
      first_is = ap₂ (λ t ts. t ∷ ts) (sym (ap (head_or b) is)) rest.first_is;
      at_is = rest.at_is;
      later_is = rest.later_is;
    }

all_split : (P : Sort → Type 0) (before : List Sort) (s : Sort) (after : List Sort) → AllByRecursion P (before ++ s ∷ after)
    → AllByRecursion P before × (P s × AllByRecursion P after)
all_split P [] s after all = (tt, all)
all_split P (r ∷ before) s after all = let rest = all_split P before s after all.1 in ((all.0, rest.0), rest.1)

-- each stands in a place of its own
abbrev pub AreDistinct : List Sort → Type 0
AreDistinct [] = Unit {0}
AreDistinct (s ∷ shape) = AllByRecursion (λ (r : Sort). s.place ≢ r.place) shape × AreDistinct shape

distinct_split : (before : List Sort) (s : Sort) (after : List Sort) → AreDistinct (before ++ s ∷ after)
    → AllByRecursion (λ (r : Sort). r.place ≢ s.place) before × AllByRecursion (λ (r : Sort). s.place ≢ r.place) after
distinct_split [] s after apart = (tt, apart.0)
distinct_split (r ∷ before) s after apart =
    let rest = distinct_split before s after apart.1 in (((all_split (λ (q : Sort). r.place ≢ q.place) before s after apart.0).1.0, rest.0), rest.1)

-- ---- what puts leave

-- a put's value is there
pub put_value : (old new : View) (puts : List Put) → IsAfterOwn old new puts → (put : Put) → Contains puts put
    → known_value new put.place ≡ Some put.value
put_value old new puts after put has = elim (after.put put has) [
  | inl written ↦ ap (option_map (λ (content : Content). content.value)) written.is
  | inr kept ↦ ap (option_map (λ (content : Content). content.value)) kept.is ∙ ap Some kept.value
]

pub rest_value : (old new : View) (puts : List Put) → IsAfterOwn old new puts → (place : ℕ) → ((put : Put) → Contains puts put → put.place ≢ place)
    → known_value new place ≡ known_value old place
rest_value old new puts after place none = ap (option_map (λ (content : Content). content.value)) (after.rest place none)

all_holds : (old : View) (shape : List Sort) (steady : ℤ) → solved_balance (Some steady) (map (term_in old) shape) ≡ Holds → (first : Sort)
    → Among shape first
    → (steady +ℤ net_of (map (term_in old) shape) ≡ pos 0)
all_holds old [] steady holds first has = absurd has
all_holds old (s ∷ shape) steady holds first has = (holds_facts steady (term_in old s) (map (term_in old) shape) holds).balances

module _ (kind : Kind) (old : View) (puts : List Put) (is : Answered kind old puts) (facts : DispatchFacts kind old puts) (new : View)
    (after : IsAfterOwn old new puts)
    (agreed : (s : Sort) → Among (shape_of kind) s → ((solving : Solving kind old) → s.place ≢ solving.place) → IsAgreed old new s)
    (apart : AreDistinct (shape_of kind)) where
  solved_zero : (solving : Solving kind old) (vs : List ℤ) → HeldIn new (shape_of kind) vs → is.steady +ℤ net_in old.past (shape_of kind) vs ≡ pos 0
  solved_zero solving vs held =
      let of =
      solved_term is.steady (map (term_in old) (shape_of kind)) solving.place solving.number solving.value facts.shares
      (is.comes_to ∙ solving.is) in
      let way = of.way in
      let parts = split old (shape_of kind) way.before of.term way.after way.among in
      let at : parts.at.place ≡ solving.place = ap (λ (t : Term). t.place) (sym parts.at_is) ∙ of.there in
      let distinct = distinct_split parts.first parts.at parts.later (subst AreDistinct parts.whole apart) in
      let among_all =
      all_split (Among (shape_of kind)) parts.first parts.at parts.later
      (subst (AllByRecursion (Among (shape_of kind))) parts.whole (all_among (Among (shape_of kind)) (shape_of kind) (λ s has. has))) in
      let given_all : All (λ (t : Term). IsSome t.given) (way.before ++ way.after) = of.given in
      let given_before : AllByRecursion (λ (s : Sort). IsSome (given_in old s)) parts.first =
      all_mapped (λ (t : Term). IsSome t.given) (term_in old) parts.first (subst (AllByRecursion (λ (t : Term). IsSome t.given)) parts.first_is
      (recursion_from_All (λ (t : Term). IsSome t.given) way.before (all_left (λ (t : Term). IsSome t.given) way.before way.after given_all))) in
      let given_after : AllByRecursion (λ (s : Sort). IsSome (given_in old s)) parts.later =
      all_mapped (λ (t : Term). IsSome t.given) (term_in old) parts.later (subst (AllByRecursion (λ (t : Term). IsSome t.given)) parts.later_is
      (recursion_from_All (λ (t : Term). IsSome t.given) way.after (all_right (λ (t : Term). IsSome t.given) way.before way.after given_all))) in
      let one : ((s : Sort) → Among (shape_of kind) s → s.place ≢ parts.at.place → IsAgreed old new s) = (λ s has far.
      agreed s has (λ other same. far (same ∙ one_solving kind old other solving ∙ sym at))) in
      let sure_before = sure_of parts.first given_before among_all.0 (λ s. s.place ≢ parts.at.place) distinct.0 (λ s has far. one s has far) in
      let sure_after =
      sure_of parts.later given_after among_all.1.1 (λ s. parts.at.place ≢ s.place) distinct.1
      (λ s has far. one s has (λ same. far (sym same))) in
      let put_held : known_value new solving.place ≡ Some solving.value =
      put_value old new puts after (record { place = solving.place; value = solving.value; number = solving.number }) (facts.has_solved solving) in
      let here : known_value new parts.at.place ≡ Some solving.value = ap (known_value new) at ∙ put_held in
      let net =
      solved_net old new parts.first parts.at parts.later vs solving.value (subst (λ ss. HeldIn new ss vs) parts.whole held) sure_before
      sure_after here in
      let share : brought of.term.share solving.value ≡ brought (parts.at.share old.past) solving.value =
      ap (λ (t : Term). brought t.share solving.value) parts.at_is in
      let first : net_of way.before ≡ net_of (map (term_in old) parts.first) = ap net_of parts.first_is in
      let later : net_of way.after ≡ net_of (map (term_in old) parts.later) = ap net_of parts.later_is in
      let whole : net_in old.past (shape_of kind) vs ≡ net_in old.past (parts.first ++ parts.at ∷ parts.later) vs =
      ap (λ ss. net_in old.past ss vs) parts.whole in
      let zero_sum = of.balances in
      omega (arith, ints, net, share, first, later, whole, zero_sum)
    where
      all_left : (P : Term → Type 0) (xs ys : List Term) → All P (xs ++ ys) → All P xs
      all_left P xs ys all k d lt =
          All-contains P (xs ++ ys) (get_or xs k d) all (Contains-append_left xs ys (get_or xs k d) (Contains-get_or xs k d lt))

      all_right : (P : Term → Type 0) (xs ys : List Term) → All P (xs ++ ys) → All P ys
      all_right P xs ys all k d lt =
          All-contains P (xs ++ ys) (get_or ys k d) all (Contains-append_right xs ys (get_or ys k d) (Contains-get_or ys k d lt))

      sure_of : (part : List Sort) → AllByRecursion (λ (s : Sort). IsSome (given_in old s)) part → AllByRecursion (Among (shape_of kind)) part
          → (IsFar : Sort → Type 0) → AllByRecursion IsFar part → ((s : Sort) → Among (shape_of kind) s → IsFar s → IsAgreed old new s)
          → AllByRecursion (IsSure old new) part
      sure_of part given_all has_all IsFar far_all f =
          both_all (λ (s : Sort). IsSome (given_in old s)) (IsAgreed old new) part given_all
          (weaker_all (λ s. Among (shape_of kind) s × IsFar s) (IsAgreed old new) part (λ s both. f s both.0 both.1)
          (both_all (Among (shape_of kind)) IsFar part has_all far_all))

  -- beside what else is brought, what is held comes to nothing
  pub net_zero : (first : Sort) → Among (shape_of kind) first → (vs : List ℤ) → HeldIn new (shape_of kind) vs
      → is.steady +ℤ net_in old.past (shape_of kind) vs ≡ pos 0
  net_zero first has vs held = elim is.ends [
    | inr solving ↦ solved_zero solving vs held
    | inl holds ↦
        let zero_sum = all_holds old (shape_of kind) is.steady (is.comes_to ∙ holds) first has in
        let net = same_net old new (shape_of kind) vs held (all_among (IsSure old new) (shape_of kind) (λ s in_shape. (
          holds_given old (shape_of kind) is.steady (is.comes_to ∙ holds) s in_shape,
          agreed s in_shape (λ solving same. let differ : 1 ≡ 2 = ap balanced_code (sym holds ∙ solving.is) in omega (arith, differ)),
        ))) in
        omega (arith, ints, zero_sum, net)
  ]
