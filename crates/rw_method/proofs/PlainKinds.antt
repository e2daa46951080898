-- The kinds whose terms are slots: all but the reservoir.
use Rattle.rw_method.proofs.Common.{All, All-cons, All-nil, AllByRecursion, Balanced, Bifurcation, Bool, ByRule, Canal, Confluence, Contains, Content}
use Rattle.rw_method.proofs.Common.{Conveys, DataObject, DataSlot, Gage, Holds, IsShare, IsSome, Kind, List, Put, Reach, Request, RoutedReach, Solves}
use Rattle.rw_method.proofs.Common.{Some, Supply, Takes, Term, View, WaterUser, [], ap, arith, balanced_of, content_before, content_put, false, given}
use Rattle.rw_method.proofs.Common.{inl, inr, known, known_after, map, nat_tests, puts_of, refl, seepage_put, solved_put, subst, suc, sym, true}
use Rattle.rw_method.proofs.Common.{user_puts, zero, ℕ, ℤ, ◌++◌, ◌==◌, ◌∙◌, ◌∷◌, ◌≡◌, ◌≢◌, ◌≤◌, ◌⊎◌}
use Rattle.rw_method.specs.Left.{IsGivenUpTo, Rest, rest, rests_of}
use Rattle.rw_method.proofs.Answering.{Answered}
use Rattle.rw_method.proofs.Leaving.{DispatchFacts, IsBase, PutIs, Solving, falls_from, holds_given, rests, solved}
use Rattle.rw_method.proofs.Among.{Among, all_at, among, contains}
use Rattle.rw_method.proofs.BalanceFacts.{SolvedFacts, solved_facts}
use Rattle.rw_method.proofs.Terms.{Sort, among_terms, given_as, given_in, given_number, routed, same_given, shape_of, slot, some_value, sort, term_in}
use Rattle.rw_method.proofs.Terms.{term_of}
use Rattle.rw_base.proofs.Lists.{all_append, some_there, weaker_all}

-- ---- the solved term, by the sorts

pub solving_facts : (kind : Kind) (view : View) (puts : List Put) → All (λ (term : Term). IsShare term.share) (map (term_in view) (shape_of kind))
    → Answered kind view puts
    → (solving : Solving kind view) → SolvedFacts (map (term_in view) (shape_of kind)) solving.place solving.number
solving_facts kind view puts shares is solving =
    solved_facts is.steady (map (term_in view) (shape_of kind)) solving.place solving.number solving.value shares (is.comes_to ∙ solving.is)

pub record IsSolvedAt (kind : Kind) (place : ℕ) : Type 0 where
  pub at : Sort
  pub has : Among (shape_of kind) at
  pub there : at.place ≡ place

pub solved_at : (kind : Kind) (view : View) (puts : List Put) → All (λ (term : Term). IsShare term.share) (map (term_in view) (shape_of kind))
    → Answered kind view puts
    → (solving : Solving kind view) → IsSolvedAt kind solving.place
solved_at kind view puts shares is solving =
    let of = solving_facts kind view puts shares is solving in
    let s = term_of view (shape_of kind) of.term (among (map (term_in view) (shape_of kind)) of.term of.has) in
    record { at = s.at; has = s.has; there = ap (λ (t : Term). t.place) (sym s.is) ∙ of.there }

pub up_known : (view : View) (place number : ℕ) → IsGivenUpTo number (given view place) → (content : Content) × (known view place ≡ Some content)
up_known view place number up = let seen = given_as view place up.held up.is in (seen.content, seen.there)

-- a slot of a term is known, or was just solved
pub base_in : (kind : Kind) (view : View) (puts : List Put) → All (λ (term : Term). IsShare term.share) (map (term_in view) (shape_of kind))
    → Answered kind view puts
    → (s : Sort) → Among (shape_of kind) s → s.source ≡ slot → IsBase view (balanced_of kind view) s.place
base_in kind view puts shares is s has plain_source = by is.ends
  where
    as_slot : given_in view s ≡ given view s.place
    as_slot = ap (λ source. given_in view (record { share = s.share; place = s.place; source = source })) plain_source

    by_place : (solving : Solving kind view) (test : Bool) → (s.place == solving.place) ≡ test → IsBase view (balanced_of kind view) s.place
    by_place solving true same =
        let at : solving.place ≡ s.place = grind (arith, nat_tests, same) in
        inr (solving.value, (solving.number, solving.is ∙ ap (λ p. Solves p solving.value solving.number) at))
    by_place solving false apart =
        let up =
        (solving_facts kind view puts shares is solving).others (term_in view s)
        (contains (map (term_in view) (shape_of kind)) (term_in view s) (among_terms view (shape_of kind) s has))
        (λ same. absurd (grind (arith, nat_tests, apart, same))) in
        inl (up_known view s.place solving.number (subst (IsGivenUpTo solving.number) as_slot up))

    by : (balanced_of kind view ≡ Holds) ⊎ Solving kind view → IsBase view (balanced_of kind view) s.place
    by (inl holds) =
        let found = some_there (given view s.place) (subst IsSome as_slot (holds_given view (shape_of kind) is.steady (is.comes_to ∙ holds) s has)) in
        let seen = given_as view s.place found.0 found.1 in inl (seen.content, seen.there)
    by (inr solving) = by_place solving (s.place == solving.place) refl

-- ---- puts

-- a put is the one that was solved, or stands in the place of no term
abbrev pub IsApart : Kind → View → Put → Type 0
IsApart kind view put = (balanced_of kind view ≡ Solves put.place put.value put.number) ⊎ ((s : Sort) → Among (shape_of kind) s → s.place ≢ put.place)

abbrev pub IsGood : Kind → View → List Put → Put → Type 0
IsGood kind view puts put = PutIs kind view puts put × IsApart kind view put

pub solved_good : (kind : Kind) (view : View) (puts : List Put) (balanced : Balanced) → balanced_of kind view ≡ balanced
    → AllByRecursion (IsGood kind view puts) (solved_put balanced)
solved_good kind view puts (Solves place value number) is = ((solved is, inl is), tt)
solved_good kind view puts balanced is = tt

abbrev pub of_solving : (kind : Kind) (view : View) → Solving kind view → Put
of_solving kind view solving = record { place = solving.place; value = solving.value; number = solving.number }

pub solved_in : (kind : Kind) (view : View) (rest_puts : List Put) (solving : Solving kind view)
    → Among (solved_put (balanced_of kind view) ++ rest_puts) (of_solving kind view solving)
solved_in kind view rest_puts solving =
    subst (λ b. Among (solved_put b ++ rest_puts) (of_solving kind view solving)) (sym solving.is) (inl refl)

pub solved_alone : (kind : Kind) (view : View) (solving : Solving kind view)
    → Among (solved_put (balanced_of kind view)) (of_solving kind view solving)
solved_alone kind view solving = subst (λ b. Among (solved_put b) (of_solving kind view solving)) (sym solving.is) (inl refl)

-- ---- a kind whose terms are slots

record PlainFacts (kind : Kind) (view : View) (puts : List Put) : Type 0 where
  slots : AllByRecursion (λ (s : Sort). s.source ≡ slot) (shape_of kind)
  shares : All (λ (term : Term). IsShare term.share) (map (term_in view) (shape_of kind))
  good : AllByRecursion (IsGood kind view puts) (puts_of kind view (balanced_of kind view))
  has : (solving : Solving kind view) → Among (puts_of kind view (balanced_of kind view)) (of_solving kind view solving)
  alone : (s : Sort) → Among (shape_of kind) s → (pair : Rest) → Among (rests_of kind) pair → pair.place ≢ s.place
  unique : (pair other : Rest) → Among (rests_of kind) pair → Among (rests_of kind) other → pair.place ≡ other.place → pair.on ≡ other.on

plain_facts : (kind : Kind) (view : View) (puts : List Put) → Answered kind view puts → PlainFacts kind view puts → DispatchFacts kind view puts
plain_facts kind view puts is facts = record {
  steady = is.steady;
  comes_to = is.comes_to;
  ends = is.ends;
  shares = facts.shares;
  each =
      subst (AllByRecursion (PutIs kind view puts)) is.same
      (weaker_all (IsGood kind view puts) (PutIs kind view puts) (puts_of kind view (balanced_of kind view)) (λ put good. good.0) facts.good);
  has_solved =
      λ solving. contains puts (of_solving kind view solving) (subst (λ ps. Among ps (of_solving kind view solving)) is.same (facts.has solving));
  beside = λ solving on has.
      let at = solved_at kind view puts facts.shares is solving in
      absurd (facts.alone at.at at.has (rest solving.place on) (among (rests_of kind) (rest solving.place on) has) (sym at.there));
  falls = λ solving.
      falls_from kind view is.steady is.comes_to facts.shares solving
      (λ s has at held given_is left content there. given_number view s.place held content (sym (as_slot s has) ∙ given_is) there);
  stays = λ new after s has apart number up.
      let still : known new s.place ≡ known view s.place =
      after.rest s.place (λ put in_puts. by s has apart put
      (all_at (IsGood kind view puts) puts put (subst (AllByRecursion (IsGood kind view puts)) is.same facts.good) (among puts put in_puts)).1) in
      let same : given_in new s ≡ given_in view s = as_slot_new new s has ∙ same_given view new s.place after.own still ∙ sym (as_slot s has) in
      record { held = up.held; is = same ∙ up.is; most = up.most };
  untouched = λ s has source apart put in_puts. by s has apart put
      (all_at (IsGood kind view puts) puts put (subst (AllByRecursion (IsGood kind view puts)) is.same facts.good) (among puts put in_puts)).1;
  unique = λ pair other has there. facts.unique pair other (among (rests_of kind) pair has) (among (rests_of kind) other there);
}
  where
    as_slot_new : (new : View) (s : Sort) → Among (shape_of kind) s → given_in new s ≡ given new s.place
    as_slot_new new s has =
        ap (λ source. given_in new (record { share = s.share; place = s.place; source = source }))
        (all_at (λ (s : Sort). s.source ≡ slot) (shape_of kind) s facts.slots has)

    as_slot : (s : Sort) → Among (shape_of kind) s → given_in view s ≡ given view s.place
    as_slot s has = as_slot_new view s has

    by : (s : Sort) → Among (shape_of kind) s → ((solving : Solving kind view) → s.place ≢ solving.place) → (put : Put) → IsApart kind view put
        → put.place ≢ s.place
    by s has apart put (inl solves) same = apart (record { place = put.place; value = put.value; number = put.number; is = solves }) (sym same)
    by s has apart put (inr other) same = other s has (sym same)

-- ---- the kinds

shares_two : (a b : Term) → IsShare a.share → IsShare b.share → All (λ (term : Term). IsShare term.share) (a ∷ b ∷ [])
shares_two a b x y =
    All-cons (λ (term : Term). IsShare term.share) a (b ∷ []) x
    (All-cons (λ (term : Term). IsShare term.share) b [] y (All-nil (λ (term : Term). IsShare term.share)))

pub shares_three : (a b c : Term) → IsShare a.share → IsShare b.share → IsShare c.share → All (λ (term : Term). IsShare term.share) (a ∷ b ∷ c ∷ [])
shares_three a b c x y z = All-cons (λ (term : Term). IsShare term.share) a (b ∷ c ∷ []) x (shares_two b c y z)

shares_one : (a : Term) → IsShare a.share → All (λ (term : Term). IsShare term.share) (a ∷ [])
shares_one a x = All-cons (λ (term : Term). IsShare term.share) a [] x (All-nil (λ (term : Term). IsShare term.share))

two_apart : (first second : Rest) (pair : Rest) → Among (first ∷ second ∷ []) pair → (place : ℕ) → first.place ≢ place → second.place ≢ place
    → pair.place ≢ place
two_apart first second pair (inl same) place a b at = a (ap (λ (p : Rest). p.place) same ∙ at)
two_apart first second pair (inr (inl same)) place a b at = b (ap (λ (p : Rest). p.place) same ∙ at)
two_apart first second pair (inr (inr never)) place a b at = absurd never

on_one : (first second : Rest) (pair : Rest) → Among (first ∷ second ∷ []) pair → first.on ≡ second.on → pair.on ≡ first.on
on_one first second pair (inl same) e = ap (λ (p : Rest). p.on) (sym same)
on_one first second pair (inr (inl same)) e = ap (λ (p : Rest). p.on) (sym same) ∙ sym e
on_one first second pair (inr (inr never)) e = absurd never

pub one_sort : (first s : Sort) → Among (first ∷ []) s → s.place ≡ first.place
one_sort first s (inl same) = ap (λ (s : Sort). s.place) (sym same)
one_sort first s (inr never) = absurd never

two_sorts : (first second s : Sort) → Among (first ∷ second ∷ []) s → (s.place ≡ first.place) ⊎ (s.place ≡ second.place)
two_sorts first second s (inl same) = inl (ap (λ (s : Sort). s.place) (sym same))
two_sorts first second s (inr (inl same)) = inr (ap (λ (s : Sort). s.place) (sym same))
two_sorts first second s (inr (inr never)) = absurd never

-- of two flows none is in a place behind theirs
flow_place : (first s : Sort) → first.place ≡ 0 → Among (first ∷ sort Takes 1 ∷ []) s → s.place ≤ 1
flow_place first s zero_place has = elim (two_sorts first (sort Takes 1) s has) [ inl a ↦ omega (arith, a, zero_place) | inr b ↦ omega (arith, b) ]

one_rest : (first pair : Rest) → Among (first ∷ []) pair → first ≡ pair
one_rest first pair (inl same) = same
one_rest first pair (inr never) = absurd never

-- a user's or a canal's put that rests on a slot
rests_good : (kind : Kind) (view : View) (puts : List Put) (put : Put) (on : ℕ) → Contains (rests_of kind) (rest put.place on)
    → put.number ≡ (known_after view (balanced_of kind view) on).number
    → IsBase view (balanced_of kind view) on → ((s : Sort) → Among (shape_of kind) s → s.place ≢ put.place) → IsGood kind view puts put
rests_good kind view puts put on has number base apart = (rests (record { on = on; has = has; number = number; base = base }), inr apart)

module _ (view : View) (puts : List Put) where
  -- a kind all of whose puts are solved
  bare_facts : (kind : Kind) → Answered kind view puts → AllByRecursion (λ (s : Sort). s.source ≡ slot) (shape_of kind)
      → All (λ (term : Term). IsShare term.share) (map (term_in view) (shape_of kind))
      → rests_of kind ≡ [] → puts_of kind view (balanced_of kind view) ≡ solved_put (balanced_of kind view) → DispatchFacts kind view puts
  bare_facts kind is slots shares bare same = plain_facts kind view puts is (record {
    slots = slots;
    shares = shares;
    good = subst (AllByRecursion (IsGood kind view puts)) (sym same) (solved_good kind view puts (balanced_of kind view) refl);
    has = λ solving. subst (λ ps. Among ps (of_solving kind view solving)) (sym same) (solved_alone kind view solving);
    alone = λ s has pair never at. absurd (subst (λ ps. Among ps pair) bare never);
    unique = λ pair other never there at. absurd (subst (λ ps. Among ps pair) bare never);
  })

  pub gage_facts : Answered Gage view puts → DispatchFacts Gage view puts
  gage_facts is = bare_facts Gage is (refl, (refl, tt)) (shares_two _ _ tt tt) refl refl

  pub confluence_facts : Answered Confluence view puts → DispatchFacts Confluence view puts
  confluence_facts is = bare_facts Confluence is (refl, (refl, (refl, tt))) (shares_three _ _ _ tt tt tt) refl refl

  pub bifurcation_facts : Answered Bifurcation view puts → DispatchFacts Bifurcation view puts
  bifurcation_facts is = bare_facts Bifurcation is (refl, (refl, (refl, tt))) (shares_three _ _ _ tt tt tt) refl refl

  pub reach_facts : (history : List ℤ) (local_inflow diversion return_flow : Bool)
      → Answered (Reach zero history local_inflow diversion return_flow) view puts
      → DispatchFacts (Reach zero history local_inflow diversion return_flow) view puts
  reach_facts history local_inflow diversion return_flow is =
      bare_facts (Reach zero history local_inflow diversion return_flow) is (refl, (refl, tt)) (shares_two _ _ tt tt) refl refl

  pub lagged_facts : (lag : ℕ) (history : List ℤ) (local_inflow diversion return_flow : Bool)
      → Answered (Reach (suc lag) history local_inflow diversion return_flow) view puts
      → DispatchFacts (Reach (suc lag) history local_inflow diversion return_flow) view puts
  lagged_facts lag history local_inflow diversion return_flow is =
      bare_facts (Reach (suc lag) history local_inflow diversion return_flow) is (refl, tt) (shares_one _ tt) refl refl

  pub data_facts : (slots : List DataSlot) → Answered (DataObject slots) view puts → DispatchFacts (DataObject slots) view puts
  data_facts slots is = bare_facts (DataObject slots) is tt (All-nil (λ (term : Term). IsShare term.share)) refl refl

  -- a user, whose diversion is known, or was just solved
  user_plain : (depletion : ℕ) (supply : Supply) → Answered (WaterUser depletion supply) view puts
      → AllByRecursion (λ (s : Sort). s.source ≡ slot) (shape_of (WaterUser depletion supply))
      → All (λ (term : Term). IsShare term.share) (map (term_in view) (shape_of (WaterUser depletion supply)))
      → ((s : Sort) → Among (shape_of (WaterUser depletion supply)) s → s.place ≡ 1)
      → IsBase view (balanced_of (WaterUser depletion supply) view) 1 → DispatchFacts (WaterUser depletion supply) view puts
  user_plain depletion supply is slots shares one base =
      let kind : Kind = WaterUser depletion supply in
      plain_facts kind view puts is (record {
        slots = slots;
        shares = shares;
        good =
            all_append (IsGood kind view puts) (solved_put (balanced_of kind view)) (user_puts depletion (known_after view (balanced_of kind view) 1))
            (solved_good kind view puts (balanced_of kind view) refl) (
              rests_good kind view puts _ 1 (0, omega arith, refl) refl base (λ s has same. let at = one s has in omega (arith, at, same)),
              (rests_good kind view puts _ 1 (1, omega arith, refl) refl base (λ s has same. let at = one s has in omega (arith, at, same)), tt),
            );
        has = solved_in kind view (user_puts depletion (known_after view (balanced_of kind view) 1));
        alone = λ s has pair there. let at =
            one s has in two_apart (rest 2 1) (rest 3 1) pair there s.place (λ e. omega (arith, e, at)) (λ e. omega (arith, e, at));
        unique = λ pair other has there same. on_one (rest 2 1) (rest 3 1) pair has refl ∙ sym (on_one (rest 2 1) (rest 3 1) other there refl);
      })

  pub canal_facts : (seepage : ℕ) → seepage ≤ 999 → Answered (Canal seepage) view puts → DispatchFacts (Canal seepage) view puts
  canal_facts seepage few is =
      let kind : Kind = Canal seepage in
      let first = sort (Conveys seepage) 0 in
      let shares = shares_two (term_in view first) (term_in view (sort Takes 1)) few tt in
      let base = base_in kind view puts shares is first (inl refl) refl in
      plain_facts kind view puts is (record {
        slots = (refl, (refl, tt));
        shares = shares;
        good =
            all_append (IsGood kind view puts) (solved_put (balanced_of kind view))
            (seepage_put (known_after view (balanced_of kind view) 0) (known_after view (balanced_of kind view) 1))
            (solved_good kind view puts (balanced_of kind view) refl) (
              rests_good kind view puts _ 0 (0, omega arith, refl) refl base
                  (λ s has same. let low = flow_place first s refl has in omega (arith, low, same)),
              tt,
            );
        has = solved_in kind view (seepage_put (known_after view (balanced_of kind view) 0) (known_after view (balanced_of kind view) 1));
        alone = λ s has pair there same. let low = flow_place first s refl has in let at =
            ap (λ (p : Rest). p.place) (one_rest (rest 2 0) pair there) in omega (arith, low, same, at);
        unique = λ pair other has there same. ap (λ (p : Rest). p.on) (sym (one_rest (rest 2 0) pair has) ∙ one_rest (rest 2 0) other there);
      })

  pub routed_facts : (initial_content : ℤ) (release : ℕ) → 1 ≤ release → release ≤ 1000 → Answered (RoutedReach initial_content release) view puts
      → DispatchFacts (RoutedReach initial_content release) view puts
  routed_facts initial_content release some most is =
      let kind : Kind = RoutedReach initial_content release in
      let left : List Put =
      content_put (content_before view) (known_after view (balanced_of kind view) 0) (known_after view (balanced_of kind view) 1) in
      let shares = shares_two (term_in view (routed release)) (term_in view (sort Takes 1)) (some, most) tt in
      let base = base_in kind view puts shares is (sort Takes 1) (inr (inl refl)) refl in
      plain_facts kind view puts is (record {
        slots = (refl, (refl, tt));
        shares = shares;
        good =
            all_append (IsGood kind view puts) (solved_put (balanced_of kind view)) left (solved_good kind view puts (balanced_of kind view) refl) (
              rests_good kind view puts _ 1 (0, omega arith, refl) refl base
                  (λ s has same. let low = flow_place (routed release) s refl has in omega (arith, low, same)),
              tt,
            );
        has = solved_in kind view left;
        alone = λ s has pair there same. let low = flow_place (routed release) s refl has in let at =
            ap (λ (p : Rest). p.place) (one_rest (rest 2 1) pair there) in omega (arith, low, same, at);
        unique = λ pair other has there same. ap (λ (p : Rest). p.on) (sym (one_rest (rest 2 1) pair has) ∙ one_rest (rest 2 1) other there);
      })

  pub user_facts : (depletion : ℕ) (supply : Supply) → Answered (WaterUser depletion supply) view puts
      → DispatchFacts (WaterUser depletion supply) view puts
  user_facts depletion Request is =
      let shares = shares_one (term_in view (sort Takes 1)) tt in
      user_plain depletion Request is (refl, tt) shares (one_sort (sort Takes 1))
      (base_in (WaterUser depletion Request) view puts shares is (sort Takes 1) (inl refl) refl)
  user_facts depletion ByRule is =
      user_plain depletion ByRule is tt (All-nil (λ (term : Term). IsShare term.share)) (λ s never. absurd never)
      (inl (some_value (known view 1) is.steady is.is_steady))
