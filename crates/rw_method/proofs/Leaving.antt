-- A dispatch keeps what it is kept by: which facts of a kind's puts are enough.
use Rattle.rw_method.proofs.Common.{All, AllByRecursion, Balanced, Bool, ByObject, Contains, Content, Given, Holds, IsShare, IsSome, Kind, List, None}
use Rattle.rw_method.proofs.Common.{Option, PowerReservoir, Put, Solves, Some, Term, View, [], ap, arith, balance_of, balanced_of, false, held_by}
use Rattle.rw_method.proofs.Common.{if◌then◌else◌, inl, inr, is_same_object, known, known_after, map, nat_tests, none-some, priority_of, refl, rules}
use Rattle.rw_method.proofs.Common.{same_Some, solved_balance, subst, sym, true, ℕ, ℤ, ◌==◌, ◌∙◌, ◌∷◌, ◌≡◌, ◌≢◌, ◌≤◌, ◌⊎◌}
use Rattle.rw_method.specs.Left.{AreOthersUpTo, IsGivenUpTo, IsOutflowLeft, IsUpTo, Left, Rest, is_own, rest, rests_of}
use Rattle.rw_method.specs.Passing.{IsAfterOwn, IsAfterOthers, put_content}
use Rattle.rw_method.proofs.Among.{Among, all_at, among, contains}
use Rattle.rw_method.proofs.BalanceFacts.{SolvedFacts, balanced_code, given_up_to, holds_facts, solved_facts}
use Rattle.rw_method.proofs.Terms.{IsSorted, IsTermOf, Sort, all_sorted, among_terms, given_in, other_in, own_in, shape_of, slot, term_in, term_of}
use Rattle.rw_method.proofs.Terms.{terms_are, up_to_passes}
use Rattle.rw_method.specs.Passing.{IsOwnFall}
use Rattle.rw_base.proofs.Lists.{weaker_all}

-- ---- the condition, by the sorts of a kind's terms

pub record LeftBy (kind : Kind) (view : View) : Type 0 where
  pub terms : (s r : Sort) (content : Content) → Among (shape_of kind) s → Among (shape_of kind) r → r.place ≢ s.place → given_in view s ≡ None
      → known view s.place ≡ Some content → IsGivenUpTo content.number (given_in view r)
  pub rests : (pair : Rest) (content : Content) → Contains (rests_of kind) pair → known view pair.place ≡ Some content → is_own view content ≡ true
      → IsUpTo content.number (known view pair.on)
  pub outflow : IsOutflowLeft kind view

pub to_left : (kind : Kind) (view : View) → LeftBy kind view → Left kind view
to_left kind view left = record {
  terms = λ term other content has there apart none held.
      let s =
      term_of view (shape_of kind) term (among (map (term_in view) (shape_of kind)) term
      (subst (λ ts. Contains ts term) (terms_are kind view) has)) in
      let r =
      term_of view (shape_of kind) other (among (map (term_in view) (shape_of kind)) other
      (subst (λ ts. Contains ts other) (terms_are kind view) there)) in
      subst (λ (t : Term). IsGivenUpTo content.number t.given) (sym r.is)
      (left.terms s.at r.at content s.has r.has (λ same. apart (ap (λ (t : Term). t.place) r.is ∙ same ∙ ap (λ (t : Term). t.place) (sym s.is)))
      (ap (λ (t : Term). t.given) (sym s.is) ∙ none) (ap (λ (t : Term). known view t.place) (sym s.is) ∙ held));
  rests = left.rests;
  outflow = left.outflow;
}

pub from_left : (kind : Kind) (view : View) → Left kind view → LeftBy kind view
from_left kind view left = record {
  terms = λ s r content has there apart none held.
      left.terms (term_in view s) (term_in view r) content
      (subst (λ ts. Contains ts (term_in view s)) (sym (terms_are kind view))
      (contains (map (term_in view) (shape_of kind)) (term_in view s) (among_terms view (shape_of kind) s has)))
      (subst (λ ts. Contains ts (term_in view r)) (sym (terms_are kind view))
      (contains (map (term_in view) (shape_of kind)) (term_in view r) (among_terms view (shape_of kind) r there)))
      apart none held;
  rests = left.rests;
  outflow = left.outflow;
}

-- ---- a timestep begins, and others write

outflow_begins : (kind : Kind) (view : View) → ((place : ℕ) (content : Content) → known view place ≡ Some content → is_own view content ≡ false)
    → IsOutflowLeft kind view
outflow_begins (PowerReservoir initial_storage table max_release tailwater power) view none_own =
    λ content held own. absurd (let no : true ≡ false = sym own ∙ none_own 1 content held in cc)
outflow_begins kind view none_own = tt

pub left_begins : (kind : Kind) (view : View) → ((place : ℕ) (content : Content) → known view place ≡ Some content → is_own view content ≡ false)
    → Left kind view
left_begins kind view none_own = to_left kind view (record {
  terms = λ s r content has there apart none held.
      let own = own_in view s content (all_at IsSorted (shape_of kind) s (all_sorted kind) has) none held in
      absurd (let no : true ≡ false = sym own ∙ none_own s.place content held in cc);
  rests = λ pair content has held own. absurd (let no : true ≡ false = sym own ∙ none_own pair.place content held in cc);
  outflow = outflow_begins kind view none_own;
})

pub same_own : (old new : View) (content : Content) → new.own ≡ old.own → is_own new content ≡ is_own old content
same_own old new content same = ap (λ own. is_same_object content.writer (ByObject own)) same

-- what the object wrote itself wasn't written by another
own_was : (old new : View) → IsAfterOthers old new → (place : ℕ) (content : Content) → known new place ≡ Some content → is_own new content ≡ true
    → known old place ≡ Some content
own_was old new passes place content there own = elim (passes.slots place) [
  | inl same ↦ sym same ∙ there
  | inr replaced ↦
      let this : replaced.content ≡ content = same_Some _ _ (sym replaced.is ∙ there) in
      absurd (let no : true ≡ false = sym own ∙ same_own old new content passes.own ∙ ap (is_own old) (sym this) ∙ replaced.other in cc)
]

not_given : (view : View) (s : Sort) (held : Option Given) → given_in view s ≡ held → (IsGivenUpTo (priority_of held) held → ⊥)
    → given_in view s ≡ None
not_given view s None is never = is
not_given view s (Some held) is never = absurd (never (record { held = held; is = refl; most = omega arith }))

-- terms up to a number that are given as these are have no greater ones
pub others_pass : (kind : Kind) (old new : View) (place number : ℕ)
    → ((r : Sort) → Among (shape_of kind) r → r.place ≢ place → IsGivenUpTo number (given_in old r) → IsGivenUpTo number (given_in new r))
    → AreOthersUpTo number place (balance_of kind old).terms → AreOthersUpTo number place (balance_of kind new).terms
others_pass kind old new place number passes up other has apart =
    let r =
    term_of new (shape_of kind) other (among (map (term_in new) (shape_of kind)) other
    (subst (λ ts. Contains ts other) (terms_are kind new) has)) in
    let far : r.at.place ≢ place = λ same. apart (ap (λ (t : Term). t.place) r.is ∙ same) in
    let there : Contains (balance_of kind old).terms (term_in old r.at) =
    subst (λ ts. Contains ts (term_in old r.at)) (sym (terms_are kind old))
    (contains (map (term_in old) (shape_of kind)) (term_in old r.at) (among_terms old (shape_of kind) r.at r.has)) in
    subst (λ (t : Term). IsGivenUpTo number t.given) (sym r.is) (passes r.at r.has far (up (term_in old r.at) there far))

outflow_by_others : (kind : Kind) (old new : View) → IsAfterOthers old new → IsOutflowLeft kind old → IsOutflowLeft kind new
outflow_by_others (PowerReservoir initial_storage table max_release tailwater power) old new passes left = λ content held own.
    let kind : Kind = PowerReservoir initial_storage table max_release tailwater power in
    elim (left content (own_was old new passes 1 content held own) (sym (same_own old new content passes.own) ∙ own)) [
      | inl asks ↦ inl (up_to_passes old new passes 4 content.number asks)
      | inr up ↦ inr (others_pass kind old new 1 content.number (λ r has apart. other_in old new passes r content.number) up)
    ]
outflow_by_others kind old new passes left = tt

pub left_by_others : (kind : Kind) (old new : View) → IsAfterOthers old new → Left kind old → Left kind new
left_by_others kind old new passes is =
    let left = from_left kind old is in
    to_left kind new (record {
      terms = λ s r content has there apart none held.
          let own = own_in new s content (all_at IsSorted (shape_of kind) s (all_sorted kind) has) none held in
          let was = own_was old new passes s.place content held own in
          let none_before : given_in old s ≡ None = not_given old s (given_in old s) refl
          (λ up. let still = other_in old new passes s (priority_of (given_in old s)) up in none-some still.held (sym none ∙ still.is)) in
          other_in old new passes r content.number (left.terms s r content has there apart none_before was);
      rests = λ pair content has held own.
          let was = own_was old new passes pair.place content held own in
          up_to_passes old new passes pair.on content.number (left.rests pair content has was (sym (same_own old new content passes.own) ∙ own));
      outflow = outflow_by_others kind old new passes left.outflow;
    })

-- ---- a dispatch

abbrev pub place_in : Balanced → ℕ
place_in (Solves place value number) = place
place_in balanced = 0

-- a slot on which a put rests is known, or was just solved
abbrev pub IsBase : View → Balanced → ℕ → Type 0
IsBase view balanced on =
    ((content : Content) × (known view on ≡ Some content)) ⊎ ((value : ℤ) × ((number : ℕ) × (balanced ≡ Solves on value number)))

pub record RestsOn (kind : Kind) (view : View) (put : Put) : Type 0 where
  pub on : ℕ
  pub has : Contains (rests_of kind) (rest put.place on)
  pub number : put.number ≡ (known_after view (balanced_of kind view) on).number
  pub base : IsBase view (balanced_of kind view) on

-- over a slot that is known a number doesn't rise
abbrev pub IsFalling : Kind → View → ℕ → ℕ → Type 0
IsFalling kind view place number = LeftBy kind view → (content : Content) → known view place ≡ Some content → number ≤ content.number

-- what a put rests on is put, too
pub record GoesWith (kind : Kind) (view : View) (puts : List Put) (put : Put) : Type 0 where
  pub beside : Put
  pub there : Contains puts beside
  pub has : Contains (rests_of kind) (rest put.place beside.place)
  pub number : put.number ≡ beside.number
  pub falls : IsFalling kind view beside.place beside.number

-- a put is the term that was solved, or rests on another slot that is known, was solved or is put, or rests on none and doesn't rise
pub data PutIs (kind : Kind) (view : View) (puts : List Put) (put : Put) : Type 0 where
  solved : balanced_of kind view ≡ Solves put.place put.value put.number → PutIs kind view puts put
  rests : RestsOn kind view put → PutIs kind view puts put
  beside : GoesWith kind view puts put → PutIs kind view puts put
  alone : (LeftBy kind view → IsOwnFall view put) → ((pair : Rest) → Contains (rests_of kind) pair → pair.place ≢ put.place)
      → PutIs kind view puts put

pub record Solving (kind : Kind) (view : View) : Type 0 where
  pub place : ℕ
  pub value : ℤ
  pub number : ℕ
  pub is : balanced_of kind view ≡ Solves place value number

-- one term is solved at most
pub one_solving : (kind : Kind) (view : View) (one other : Solving kind view) → one.place ≡ other.place
one_solving kind view one other = ap place_in (sym one.is ∙ other.is)

-- what is to be known of the puts of a kind
pub record DispatchFacts (kind : Kind) (view : View) (puts : List Put) : Type 0 where
  pub steady : ℤ
  pub comes_to : solved_balance (Some steady) (map (term_in view) (shape_of kind)) ≡ balanced_of kind view
  pub ends : (balanced_of kind view ≡ Holds) ⊎ Solving kind view
  pub shares : All (λ (term : Term). IsShare term.share) (map (term_in view) (shape_of kind))
  pub each : AllByRecursion (PutIs kind view puts) puts
  pub has_solved : (solving : Solving kind view) → Contains puts (record { place = solving.place; value = solving.value; number = solving.number })
  pub beside : (solving : Solving kind view) (on : ℕ) → Contains (rests_of kind) (rest solving.place on)
      → (put : Put) × (Contains puts put × (put.place ≡ on) × (put.number ≡ solving.number))
  pub falls : (solving : Solving kind view) → IsFalling kind view solving.place solving.number
  pub stays : (new : View) → IsAfterOwn view new puts → (s : Sort) → Among (shape_of kind) s
      → ((solving : Solving kind view) → s.place ≢ solving.place)
      → (number : ℕ) → IsGivenUpTo number (given_in view s) → IsGivenUpTo number (given_in new s)
  pub untouched : (s : Sort) → Among (shape_of kind) s → s.source ≡ slot → ((solving : Solving kind view) → s.place ≢ solving.place) → (put : Put)
      → Contains puts put → put.place ≢ s.place
  pub unique : (pair other : Rest) → Contains (rests_of kind) pair → Contains (rests_of kind) other → pair.place ≡ other.place → pair.on ≡ other.on

-- one of these is in the place, or none
pub put_or_none : (puts : List Put) (place : ℕ)
    → ((put : Put) × (Among puts put × (put.place ≡ place))) ⊎ ((put : Put) → Among puts put → put.place ≢ place)
put_or_none [] place = inr (λ put has. absurd has)
put_or_none (first ∷ puts) place = by (first.place == place) refl (put_or_none puts place)
  where
    by : (test : Bool) → (first.place == place) ≡ test
        → ((put : Put) × (Among puts put × (put.place ≡ place))) ⊎ ((put : Put) → Among puts put → put.place ≢ place)
        → ((put : Put) × (Among (first ∷ puts) put × (put.place ≡ place))) ⊎ ((put : Put) → Among (first ∷ puts) put → put.place ≢ place)
    by true is later = inl (first, (inl refl, grind (arith, nat_tests, is)))
    by false is (inl found) = inl (found.0, (inr found.1.0, found.1.1))
    by false is (inr none) = inr (λ put has. elim has [
      | inl same ↦ λ at. let here : first.place ≡ place = ap (λ (p : Put). p.place) same ∙ at in absurd (grind (arith, nat_tests, is, here))
      | inr later ↦ none put later
    ])

-- no number rises
pub up_to_after : (old new : View) (puts : List Put) → IsAfterOwn old new puts → (place : ℕ) (content : Content) → known old place ≡ Some content
    → IsUpTo content.number (known new place)
up_to_after old new puts after place content there = elim (put_or_none puts place) [
  | inr none ↦ record { content = content; is = after.rest place (λ put has. none put (among puts put has)) ∙ there; most = omega arith }
  | inl (put, (has, at)) ↦
      let was : known old put.place ≡ Some content = ap (known old) at ∙ there in
      elim (after.put put (contains puts put has)) [
        | inl written ↦ record { content = put_content old put; is = ap (known new) (sym at) ∙ written.is; most = written.falls content was }
        | inr kept ↦ record { content = content; is = ap (known new) (sym at) ∙ kept.is ∙ sym kept.was ∙ was; most = omega arith }
      ]
]

-- a put leaves no lower priority than its own
pub put_up_to : (old new : View) (puts : List Put) → IsAfterOwn old new puts → (put : Put) → Contains puts put
    → IsUpTo put.number (known new put.place)
put_up_to old new puts after put has = elim (after.put put has) [
  | inl written ↦ record { content = put_content old put; is = written.is; most = omega arith }
  | inr kept ↦ record { content = kept.content; is = kept.is; most = kept.number }
]

pub holds_given : (view : View) (shape : List Sort) (steady : ℤ) → solved_balance (Some steady) (map (term_in view) shape) ≡ Holds → (s : Sort)
    → Among shape s → IsSome (given_in view s)
holds_given view [] steady holds s has = absurd has
holds_given view (first ∷ shape) steady holds s has =
    (holds_facts steady (term_in view first) (map (term_in view) shape) holds).given (term_in view s)
    (contains (map (term_in view) (first ∷ shape)) (term_in view s) (among_terms view (first ∷ shape) s has))

-- what is known where a term was solved
module _ (kind : Kind) (old : View) (steady : ℤ) (comes_to : solved_balance (Some steady) (map (term_in old) (shape_of kind)) ≡ balanced_of kind old)
    (shares : All (λ (term : Term). IsShare term.share) (map (term_in old) (shape_of kind))) where
  pub solving_is : (solving : Solving kind old) → SolvedFacts (map (term_in old) (shape_of kind)) solving.place solving.number
  solving_is solving =
      solved_facts steady (map (term_in old) (shape_of kind)) solving.place solving.number solving.value shares (comes_to ∙ solving.is)

  number_of_up : (number : ℕ) (held : Option Given) → IsGivenUpTo number held → priority_of held ≤ number
  number_of_up number None is = omega arith
  number_of_up number (Some held) is = let most = is.most in subst (λ (g : Given). g.number ≤ number) (sym (same_Some _ _ is.is)) most

  -- a solved term that wasn't given has no lower a priority than what it replaces
  falls_open : LeftBy kind old → (solving : Solving kind old) (content : Content) → known old solving.place ≡ Some content
      → (s : IsTermOf old (shape_of kind) (solving_is solving).term) → given_in old s.at ≡ None → solving.number ≤ content.number
  falls_open left solving content there s is = elim (solving_is solving).one [
    | inl none ↦ omega (arith, none)
    | inr (other, has, apart, is_number) ↦
        let of = solving_is solving in
        let at : s.at.place ≡ solving.place = ap (λ (t : Term). t.place) (sym s.is) ∙ of.there in
        let r = term_of old (shape_of kind) other (among (map (term_in old) (shape_of kind)) other has) in
        let up =
        left.terms s.at r.at content s.has r.has (λ same. apart (ap (λ (t : Term). t.place) r.is ∙ same ∙ at)) is (ap (known old) at ∙ there) in
        let below : priority_of other.given ≤ content.number =
        number_of_up content.number other.given (subst (λ (t : Term). IsGivenUpTo content.number t.given) (sym r.is) up) in
        omega (arith, below, is_number)
  ]

  -- and no other one, where what is given in its slot has no lower a priority than what is known there
  pub falls_from : (solving : Solving kind old)
      → ((s : Sort) → Among (shape_of kind) s → s.place ≡ solving.place → (held : Given) → given_in old s ≡ Some held
      → IsFalling kind old s.place held.number)
      → IsFalling kind old solving.place solving.number
  falls_from solving below left content there = by (given_in old s.at) refl
    where
      s : IsTermOf old (shape_of kind) (solving_is solving).term
      s = let of = solving_is solving in term_of old (shape_of kind) of.term (among (map (term_in old) (shape_of kind)) of.term of.has)

      by : (held : Option Given) → given_in old s.at ≡ held → solving.number ≤ content.number
      by None is = falls_open left solving content there s is
      by (Some held) is =
          let of = solving_is solving in
          let at : s.at.place ≡ solving.place = ap (λ (t : Term). t.place) (sym s.is) ∙ of.there in
          let less = of.self held (ap (λ (t : Term). t.given) s.is ∙ is) in
          let most = below s.at s.has at held is left content (ap (known old) at ∙ there) in omega (arith, less, most)

module _ (kind : Kind) (old : View) (puts : List Put) (facts : DispatchFacts kind old puts) (left : LeftBy kind old) where
  -- each other term is given, with no lower a priority
  others_given : (solving : Solving kind old) (r : Sort) → Among (shape_of kind) r → r.place ≢ solving.place
      → IsGivenUpTo solving.number (given_in old r)
  others_given solving r has apart =
      (solving_is kind old facts.steady facts.comes_to facts.shares solving).others (term_in old r)
      (contains (map (term_in old) (shape_of kind)) (term_in old r) (among_terms old (shape_of kind) r has)) apart

  -- a solved term has no lower a priority than what it replaces
  pub number_falls : (solving : Solving kind old) (content : Content) → known old solving.place ≡ Some content → solving.number ≤ content.number
  number_falls solving content there = facts.falls solving left content there

  -- what is known of a slot once the balance is solved has no lower a priority than what the slot held
  after_falls : (balanced : Balanced) → balanced_of kind old ≡ balanced → (on : ℕ) (content : Content) → known old on ≡ Some content
      → (known_after old balanced on).number ≤ content.number
  after_falls (Solves place value number) is on content there = by (place == on) refl
    where
      by : (test : Bool) → (place == on) ≡ test
          → (if test then record { value = value; number = number } else held_by (known old on)).number ≤ content.number
      by true same =
          let at : place ≡ on = grind (arith, nat_tests, same) in
          number_falls (record { place = place; value = value; number = number; is = is }) content (ap (known old) at ∙ there)
      by false apart = let same : held_by (known old on) ≡ held_by (Some content) =
          ap held_by there in let n : (held_by (known old on)).number ≡ content.number = ap (λ (g : Given). g.number) same in omega (arith, n)
  after_falls balanced is on content there = let same : held_by (known old on) ≡ held_by (Some content) =
      ap held_by there in let n : (held_by (known old on)).number ≡ content.number = ap (λ (g : Given). g.number) same in omega (arith, n)

  own_fall : (put : Put) → PutIs kind old puts put → IsOwnFall old put
  own_fall put (solved is) content there own =
      number_falls (record { place = put.place; value = put.value; number = put.number; is = is }) content there
  own_fall put (rests on) content there own =
      let up = left.rests (rest put.place on.on) content on.has there own in
      let falls = after_falls (balanced_of kind old) refl on.on up.content up.is in
      let most = up.most in let number = on.number in omega (arith, falls, most, number)
  own_fall put (beside also) content there own =
      let up = left.rests (rest put.place also.beside.place) content also.has there own in
      let falls = also.falls left up.content up.is in
      let most = up.most in let number = also.number in omega (arith, falls, most, number)
  own_fall put (alone falls apart) content there own = falls left content there own

  pub own_falls : AllByRecursion (IsOwnFall old) puts
  own_falls = weaker_all (PutIs kind old puts) (IsOwnFall old) puts own_fall facts.each

  -- ---- what it leaves

  module _ (new : View) (after : IsAfterOwn old new puts) where
    solved_there : (solving : Solving kind old) (content : Content) → known new solving.place ≡ Some content → solving.number ≤ content.number
    solved_there solving content there =
        let put : Put = record { place = solving.place; value = solving.value; number = solving.number } in
        elim (after.put put (facts.has_solved solving)) [
          | inl written ↦
              let same : put_content old put ≡ content = same_Some _ _ (sym written.is ∙ there) in
              let n : solving.number ≡ content.number = ap (λ (c : Content). c.number) same in omega (arith, n)
          | inr kept ↦
              let same : kept.content ≡ content = same_Some _ _ (sym kept.is ∙ there) in
              number_falls solving content (kept.was ∙ ap Some same)
        ]

    given_still : (s : Sort) → Among (shape_of kind) s → ((solving : Solving kind old) → s.place ≢ solving.place) → IsSome (given_in old s)
        → given_in new s ≡ None → ⊥
    given_still s has apart some none =
        let still =
        facts.stays new after s has apart (priority_of (given_in old s))
        (given_up_to (given_in old s) (priority_of (given_in old s)) some (omega arith)) in none-some still.held (sym none ∙ still.is)

    up_some : (number : ℕ) (held : Option Given) → IsGivenUpTo number held → IsSome held
    up_some number None is = absurd (none-some is.held is.is)
    up_some number (Some held) is = search rules

    terms_by : (s r : Sort) (content : Content) → Among (shape_of kind) s → Among (shape_of kind) r → r.place ≢ s.place → given_in new s ≡ None
        → known new s.place ≡ Some content → (balanced_of kind old ≡ Holds) ⊎ Solving kind old → IsGivenUpTo content.number (given_in new r)
    terms_by s r content has there apart none held (inl holds) =
        absurd (given_still s has (λ solving same. let no : 1 ≡ 2 = ap balanced_code (sym holds ∙ solving.is) in omega (arith, no))
        (holds_given old (shape_of kind) facts.steady (facts.comes_to ∙ holds) s has) none)
    terms_by s r content has there apart none held (inr solving) = by (s.place == solving.place) refl
      where
        by : (test : Bool) → (s.place == solving.place) ≡ test → IsGivenUpTo content.number (given_in new r)
        by false is =
            absurd (given_still s has (λ other same. let at : s.place ≡ solving.place = same ∙ one_solving kind old other solving in
            absurd (grind (arith, nat_tests, is, at)))
            (up_some solving.number (given_in old s) (others_given solving s has (λ same. absurd (grind (arith, nat_tests, is, same))))) none)
        by true is =
            let at : s.place ≡ solving.place = grind (arith, nat_tests, is) in
            let r_apart : r.place ≢ solving.place = (λ same. apart (same ∙ sym at)) in
            let n = solved_there solving content (ap (known new) (sym at) ∙ held) in
            let up =
            facts.stays new after r there (λ other same. r_apart (same ∙ one_solving kind old other solving)) solving.number
            (others_given solving r there r_apart) in
            let most = up.most in record { held = up.held; is = up.is; most = omega (arith, n, most) }

    -- what it rests on has no lower a priority
    base_up_to : (on : ℕ) → IsBase old (balanced_of kind old) on → IsUpTo (known_after old (balanced_of kind old) on).number (known new on)
    base_up_to on (inr (value, (number, is))) =
        let solving : Solving kind old = record { place = on; value = value; number = number; is = is } in
        let put : Put = record { place = on; value = value; number = number } in
        let up = put_up_to old new puts after put (facts.has_solved solving) in
        let same : (on == on) ≡ true = grind (arith, nat_tests) in
        let n : (known_after old (balanced_of kind old) on).number ≡ number =
        ap (λ b. (known_after old b on).number) is
        ∙ ap (λ (test : Bool). (if test then record { value = value; number = number } else held_by (known old on)).number) same in
        let most = up.most in record { content = up.content; is = up.is; most = omega (arith, n, most) }
    base_up_to on (inl (content, there)) = by (balanced_of kind old) refl
      where
        held_is : (held_by (known old on)).number ≡ content.number
        held_is = ap (λ held. (held_by held).number) there

        still : IsUpTo (held_by (known old on)).number (known new on)
        still = let up = up_to_after old new puts after on content there in let most = up.most in let n =
            held_is in record { content = up.content; is = up.is; most = omega (arith, n, most) }

        by : (balanced : Balanced) → balanced_of kind old ≡ balanced → IsUpTo (known_after old balanced on).number (known new on)
        by (Solves place value number) is = by_place (place == on) refl
          where
            by_place : (test : Bool) → (place == on) ≡ test
                → IsUpTo (if test then record { value = value; number = number } else held_by (known old on)).number (known new on)
            by_place false apart = still
            by_place true same =
                let at : place ≡ on = grind (arith, nat_tests, same) in
                subst (λ p. IsUpTo number (known new p)) at
                (put_up_to old new puts after (record { place = place; value = value; number = number })
                (facts.has_solved (record { place = place; value = value; number = number; is = is })))
        by balanced is = still

    rests_by : (pair : Rest) (content : Content) → Contains (rests_of kind) pair → known new pair.place ≡ Some content → is_own new content ≡ true
        → IsUpTo content.number (known new pair.on)
    rests_by pair content has there own = elim (put_or_none puts pair.place) [
      | inr none ↦ unchanged (sym (after.rest pair.place (λ put in_puts. none put (among puts put in_puts))) ∙ there)
      | inl (put, (in_puts, at)) ↦ elim (after.put put (contains puts put in_puts)) [
        | inr kept ↦ unchanged (ap (known old) (sym at) ∙ kept.was ∙ sym kept.is ∙ ap (known new) at ∙ there)
        | inl written ↦
            let same : put_content old put ≡ content = same_Some _ _ (sym written.is ∙ ap (known new) at ∙ there) in
            by_put put at (ap (λ (c : Content). c.number) same) (all_at (PutIs kind old puts) puts put facts.each in_puts)
      ]
    ]
      where
        unchanged : known old pair.place ≡ Some content → IsUpTo content.number (known new pair.on)
        unchanged was =
            let up = left.rests pair content has was (sym (same_own old new content after.own) ∙ own) in
            let still = up_to_after old new puts after pair.on up.content up.is in
            let most = up.most in let less = still.most in record { content = still.content; is = still.is; most = omega (arith, most, less) }

        by_put : (put : Put) → put.place ≡ pair.place → put.number ≡ content.number → PutIs kind old puts put
            → IsUpTo content.number (known new pair.on)
        by_put put at number (alone falls apart) = absurd (apart pair has (sym at))
        by_put put at number (beside also) =
            let same : also.beside.place ≡ pair.on = facts.unique (rest put.place also.beside.place) pair also.has has at in
            let up = put_up_to old new puts after also.beside also.there in
            let most = up.most in let is = also.number in
            subst (λ p. IsUpTo content.number (known new p)) same
            (record { content = up.content; is = up.is; most = omega (arith, most, is, number) })
        by_put put at number (rests on) =
            let same : on.on ≡ pair.on = facts.unique (rest put.place on.on) pair on.has has at in
            let up = base_up_to on.on on.base in
            let most = up.most in let is = on.number in
            subst (λ p. IsUpTo content.number (known new p)) same
            (record { content = up.content; is = up.is; most = omega (arith, most, is, number) })
        by_put put at number (solved is) =
            let solving : Solving kind old = record { place = put.place; value = put.value; number = put.number; is = is } in
            let also = facts.beside solving pair.on (subst (λ p. Contains (rests_of kind) (rest p pair.on)) (sym at) has) in
            let up = put_up_to old new puts after also.0 also.1.0 in
            let most = up.most in let n = also.1.2 in
            subst (λ p. IsUpTo content.number (known new p)) also.1.1
            (record { content = up.content; is = up.is; most = omega (arith, most, n, number) })

    pub own_left : IsOutflowLeft kind new → LeftBy kind new
    own_left outflow = record {
      terms = λ s r content has there apart none held. terms_by s r content has there apart none held facts.ends;
      rests = rests_by;
      outflow = outflow;
    }
