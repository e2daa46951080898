-- The power reservoir, whose outflow a request may ask for.
use Rattle.rw_method.proofs.Common.{All, All-contains, AllByRecursion, Balanced, Bool, Brings, Conflicts, Contains, Content, Given, Holds, Idle}
use Rattle.rw_method.proofs.Common.{IsShare, IsSome, Kind, List, None, Option, Plant, PowerReservoir, Put, Row, Solves, Some, Term, View, [], ap}
use Rattle.rw_method.proofs.Common.{arith, asked_number, asked_of, asked_put, balanced_of, cases_lt, energy_puts, false, fault_of_past}
use Rattle.rw_method.proofs.Common.{fault_of_request, flow_puts, given, greatest_beside, head_of, held_after_puts, held_by, if◌then◌else◌, inl, inr}
use Rattle.rw_method.proofs.Common.{is_some, known, known_value, level_puts, map, nat_tests, none-some, priority_of, option_map, outflow_of}
use Rattle.rw_method.proofs.Common.{outflow_or, plant, power_balance, power_flows, put, refl, request_of, requested, same_Some, solved_put, subst}
use Rattle.rw_method.proofs.Common.{sym, true, ℕ, ℤ, ◌++◌, ◌<◌, ◌==◌, ◌∙◌, ◌∷◌, ◌≡◌, ◌≢◌, ◌≤◌, ◌⊎◌}
use Rattle.rw_method.specs.Left.{AreOthersUpTo, IsGivenUpTo, IsOutflowLeft, IsUpTo, Rest, is_own, rest, rests_of}
use Rattle.rw_method.specs.Passing.{IsAfterOwn, put_content}
use Rattle.rw_method.proofs.Answering.{Answered}
use Rattle.rw_method.proofs.Counting.{AsksUpTo, counts, from_asked, to_asked}
use Rattle.rw_method.proofs.Leaving.{DispatchFacts, IsFalling, LeftBy, PutIs, Solving, alone, beside, falls_from, holds_given, one_solving}
use Rattle.rw_method.proofs.Leaving.{others_pass, place_in, put_or_none, rests, same_own, solved, solving_is}
use Rattle.rw_method.proofs.Among.{Among, all_among, all_at, among, among_left, among_right, contains}
use Rattle.rw_method.proofs.GreatestBeside.{is_greatest_beside}
use Rattle.rw_method.proofs.Netting.{put_value, rest_value}
use Rattle.rw_method.proofs.PlainKinds.{of_solving, shares_three}
use Rattle.rw_method.proofs.BalanceFacts.{balanced_code, given_up_to}
use Rattle.rw_method.proofs.Storing.{IsLevelPut, IsStoring, contents_below, contents_held, contents_stay, given_held, level_good, low_place}
use Rattle.rw_method.proofs.Storing.{none_first, not_solved, solved_level}
use Rattle.rw_method.proofs.Terms.{Sort, Source, asked, contents, given_as, given_in, given_number, given_of, given_other, let_out, same_given}
use Rattle.rw_method.proofs.Terms.{shape_of, slot, sort, stored, term_in, term_of}
use Rattle.rw_base.proofs.Lists.{all_append, some_there, weaker_all}

-- ---- flows

-- nothing but another place is solved
abbrev pub SolvesNot : ℕ → Balanced → Type 0
SolvesNot place balanced = (at number : ℕ) (value : ℤ) → balanced ≡ Solves at value number → at ≢ place

pub record IsAskedPut (asking : Option Given) (terms : List Term) (balanced : Balanced) (put : Put) : Type 0 where
  pub by : Given
  pub is : asking ≡ Some by
  pub same : put ≡ asked_put terms balanced by
  pub apart : SolvesNot 1 balanced

-- a flow that is put was solved, or is the outflow that is asked for
abbrev pub IsFlow : Option Given → List Term → Balanced → Put → Type 0
IsFlow asking terms balanced put = (balanced ≡ Solves put.place put.value put.number) ⊎ IsAskedPut asking terms balanced put

unsolved : (place : ℕ) (balanced : Balanced) → (balanced_code balanced ≡ 2 → ⊥) → SolvesNot place balanced
unsolved place balanced none at number value is same = none (ap balanced_code is)

solves_other : (place at number : ℕ) (value : ℤ) → (at == place) ≡ false → SolvesNot place (Solves at value number)
solves_other place at number value apart other m v is same =
    let here : at ≡ other = ap place_in is in absurd (grind (arith, nat_tests, apart, here, same))

solved_flow : (asking : Option Given) (terms : List Term) (balanced : Balanced) → AllByRecursion (IsFlow asking terms balanced) (solved_put balanced)
solved_flow asking terms Idle = tt
solved_flow asking terms Holds = tt
solved_flow asking terms (Solves place value number) = (inl refl, tt)
solved_flow asking terms (Conflicts place held found) = tt

asked_flow : (by : Given) (terms : List Term) (balanced : Balanced) → SolvesNot 1 balanced
    → IsFlow (Some by) terms balanced (asked_put terms balanced by)
asked_flow by terms balanced apart = inr (record { by = by; is = refl; same = refl; apart = apart })

pub flows_are : (asking : Option Given) (terms : List Term) (balanced : Balanced)
    → AllByRecursion (IsFlow asking terms balanced) (flow_puts asking terms balanced)
flows_are None terms balanced = solved_flow None terms balanced
flows_are (Some by) terms Idle = (asked_flow by terms Idle (unsolved 1 Idle (λ code. omega (arith, code))), tt)
flows_are (Some by) terms Holds = (asked_flow by terms Holds (unsolved 1 Holds (λ code. omega (arith, code))), tt)
flows_are (Some by) terms (Conflicts place held found) =
    (asked_flow by terms (Conflicts place held found) (unsolved 1 (Conflicts place held found) (λ code. omega (arith, code))), tt)
flows_are (Some by) terms (Solves place value number) = by_place (place == 1) (place == 0) refl
  where
    b : Balanced
    b = Solves place value number

    by_place : (out in_ : Bool) → (place == 1) ≡ out
        → AllByRecursion (IsFlow (Some by) terms b)
        (if out then put place value number ∷ [] else
        (if in_ then put place value number ∷ asked_put terms b by ∷ [] else asked_put terms b by ∷ put place value number ∷ []))
    by_place true in_ here = (inl refl, tt)
    by_place false true apart = (inl refl, (asked_flow by terms b (solves_other 1 place number value apart), tt))
    by_place false false apart = (asked_flow by terms b (solves_other 1 place number value apart), (inl refl, tt))

solved_there : (asking : Option Given) (terms : List Term) (place number : ℕ) (value : ℤ)
    → Among (flow_puts asking terms (Solves place value number)) (put place value number)
solved_there None terms place number value = inl refl
solved_there (Some by) terms place number value = by_place (place == 1) (place == 0)
  where
    b : Balanced
    b = Solves place value number

    by_place : (out in_ : Bool)
        → Among (if out then put place value number
        ∷ [] else (if in_ then put place value number ∷ asked_put terms b by ∷ [] else asked_put terms b by ∷ put place value number ∷ []))
        (put place value number)
    by_place true in_ = inl refl
    by_place false true = inl refl
    by_place false false = inr (inl refl)

pub asked_there : (by : Given) (terms : List Term) (balanced : Balanced) → SolvesNot 1 balanced
    → Among (flow_puts (Some by) terms balanced) (asked_put terms balanced by)
asked_there by terms Idle apart = inl refl
asked_there by terms Holds apart = inl refl
asked_there by terms (Conflicts place held found) apart = inl refl
asked_there by terms (Solves place value number) apart = by_place (place == 1) (place == 0) refl
  where
    b : Balanced
    b = Solves place value number

    by_place : (out in_ : Bool) → (place == 1) ≡ out
        → Among (if out then put place value number
        ∷ [] else (if in_ then put place value number ∷ asked_put terms b by ∷ [] else asked_put terms b by ∷ put place value number ∷ []))
        (asked_put terms b by)
    by_place true in_ here = absurd (apart place number value refl (grind (arith, nat_tests, here)))
    by_place false true far = inr (inl refl)
    by_place false false far = inl refl

-- what a place holds after puts: what one of them puts there, or what is known
abbrev pub HeldAfter : View → List Put → ℕ → Type 0
HeldAfter view puts place =
    ((put : Put) × (Among puts put × ((put.place ≡ place) × (held_after_puts view puts place ≡ record { value = put.value; number = put.number }))))
    ⊎ (((put : Put) → Among puts put → put.place ≢ place) × (held_after_puts view puts place ≡ held_by (known view place)))

pub held_cases : (view : View) (puts : List Put) (place : ℕ) → HeldAfter view puts place
held_cases view [] place = inr (λ put has. absurd has, refl)
held_cases view (first ∷ puts) place = by (first.place == place) refl (held_cases view puts place)
  where
    by : (test : Bool) → (first.place == place) ≡ test → HeldAfter view puts place → HeldAfter view (first ∷ puts) place
    by true is later =
        inl (
          first,
          (
            inl refl,
            (
              grind (arith, nat_tests, is),
              ap (λ (here : Bool). if here then record { value = first.value; number = first.number } else held_after_puts view puts place) is,
            ),
          ),
        )
    by false is (inl found) =
        inl (
          found.0,
          (
            inr found.1.0,
            (
              found.1.1.0,
              ap (λ (here : Bool). if here then record { value = first.value; number = first.number } else held_after_puts view puts place) is
                  ∙ found.1.1.1,
            ),
          ),
        )
    by false is (inr none) = inr (
      (λ put has. elim has [
        | inl same ↦ λ at. let here : first.place ≡ place = ap (λ (p : Put). p.place) same ∙ at in absurd (grind (arith, nat_tests, is, here))
        | inr later ↦ none.0 put later
      ]),
      ap (λ (here : Bool). if here then record { value = first.value; number = first.number } else held_after_puts view puts place) is ∙ none.1,
    )

-- ---- numbers

number_of_up : (held : Option Given) (number : ℕ) → IsGivenUpTo number held → priority_of held ≤ number
number_of_up None number up = omega arith
number_of_up (Some held) number up = let most = up.most in subst (λ (g : Given). g.number ≤ number) (sym (same_Some _ _ up.is)) most

-- the lowest priority beside a place is up to what all others are
greatest_up : (place number : ℕ) (terms : List Term) → AreOthersUpTo number place terms → greatest_beside place terms ≤ number
greatest_up place number terms up = elim (is_greatest_beside place terms).one [
  | inl none ↦ omega (arith, none)
  | inr (other, has, apart, is) ↦ let most = number_of_up other.given number (up other has apart) in omega (arith, is, most)
]

asked_least : (terms : List Term) (balanced : Balanced) (number : ℕ) → asked_number terms balanced number ≤ number
asked_least terms Idle number = omega arith
asked_least terms Holds number = omega arith
asked_least terms (Solves place value count) number = omega arith
asked_least terms (Conflicts place held found) number = omega arith

-- what is asked for has the number of the request
record IsAsking (of : Plant) (view : View) (by : Given) : Type 0 where
  request : Content
  is : request_of view ≡ Some request
  number : by.number ≡ request.number

asking_from : (of : Plant) (view : View) (by : Given) → asked_of of view ≡ Some by → IsAsking of view by
asking_from of view by is = cases (request_of view) refl is
  where
    cases : (request : Option Content) → request_of view ≡ request → option_map (requested of view) request ≡ Some by → IsAsking of view by
    cases None none is = absurd (none-some by is)
    cases (Some request) there is = record { request = request; is = there; number = ap (λ (g : Given). g.number) (sym (same_Some _ _ is)) }

module _ (initial_storage : ℤ) (table : List Row) (max_release tailwater : ℤ) (power : ℕ) (view : View) (puts : List Put)
    (is : Answered (PowerReservoir initial_storage table max_release tailwater power) view puts) where
  abbrev kind : Kind
  kind = PowerReservoir initial_storage table max_release tailwater power

  abbrev of : Plant
  of = plant table max_release tailwater power

  abbrev b : Balanced
  b = balanced_of kind view

  abbrev terms : List Term
  terms = (power_balance of view).terms

  abbrev flows : List Put
  flows = power_flows of view b

  abbrev level : List Put
  level = level_puts (Some table) (given view 2) (given view 3) b

  abbrev energies : List Put
  energies = energy_puts of (head_of of view) (held_after_puts view flows 1)

  shares : All (λ (term : Term). IsShare term.share) (map (term_in view) (shape_of kind))
  shares = shares_three (term_in view (sort Brings 0)) (term_in view (let_out of)) (term_in view (stored (Some table))) tt tt tt

  by_sort : (P : Sort → Type 0) → P (sort Brings 0) → P (let_out of) → P (stored (Some table)) → (s : Sort) → Among (shape_of kind) s → P s
  by_sort P x y z s (inl same) = subst P same x
  by_sort P x y z s (inr (inl same)) = subst P same y
  by_sort P x y z s (inr (inr (inl same))) = subst P same z
  by_sort P x y z s (inr (inr (inr never))) = absurd never

  -- ---- where each put comes from

  record IsFrom (put : Put) : Type 0 where
    from : IsFlow (asked_of of view) terms b put ⊎ (Among level put ⊎ ((5 ≤ put.place) × Among energies put))

  all_from : AllByRecursion IsFrom puts
  all_from = subst (AllByRecursion IsFrom) is.same (all_append IsFrom _ _ (all_append IsFrom flows level
      (weaker_all (IsFlow (asked_of of view) terms b) IsFrom flows (λ put flow. record { from = inl flow }) (flows_are (asked_of of view) terms b))
      (all_among IsFrom level (λ put has. record { from = inr (inl has) }))) (
        record { from = inr (inr (omega arith, inl refl)) },
        (record { from = inr (inr (omega arith, inr (inl refl))) }, (record { from = inr (inr (omega arith, inr (inr (inl refl)))) }, tt)),
      ))

  pub flow_there : (put : Put) → Among flows put → Among puts put
  flow_there put has = subst (λ ps. Among ps put) is.same (among_left (flows ++ level) energies put (among_left flows level put has))

  level_there : (put : Put) → Among level put → Among puts put
  level_there put has = subst (λ ps. Among ps put) is.same (among_left (flows ++ level) energies put (among_right flows level put has))

  pub energy_there : (put : Put) → Among energies put → Among puts put
  energy_there put has = subst (λ ps. Among ps put) is.same (among_right (flows ++ level) energies put has)

  solving_there : (solving : Solving kind view) → Among flows (of_solving kind view solving)
  solving_there solving =
      subst (λ balanced. Among (flow_puts (asked_of of view) terms balanced) (of_solving kind view solving)) (sym solving.is)
      (solved_there (asked_of of view) terms solving.place solving.number solving.value)

  -- nothing is wrong with the storage before, and with what is given
  pub clean : (fault_of_past true (Some table) view.past ≡ None) × (fault_of_request of view (request_of view) ≡ None)
  clean = none_first (fault_of_past true (Some table) view.past) (fault_of_request of view (request_of view)) is.clean

  pub storing : IsStoring kind (Some table) view puts
  storing = record {
    shares = shares;
    has = inr (inr (inl refl));
    low = (omega arith, (omega arith, (omega arith, tt)));
    fine = is.fine;
    holds = λ value number held. held;
    pairs = λ rows at. ((0, omega arith, refl), (1, omega arith, refl));
    solved = λ solving. flow_there (of_solving kind view solving) (solving_there solving);
    level = level_there;
    others = λ put has. elim (all_at IsFrom puts put all_from has).from [
      | inl (inl solves) ↦ inl solves
      | inl (inr asks) ↦
          let at : put.place ≡ 1 = ap (λ (p : Put). p.place) asks.same in inr (inr (λ same. omega (arith, at, same), λ same. omega (arith, at, same)))
      | inr (inl there) ↦ inr (inl there)
      | inr (inr far) ↦ let high = far.0 in inr (inr (λ same. omega (arith, high, same), λ same. omega (arith, high, same)))
    ];
  }

  few_solved : (solving : Solving kind view) → solving.place ≤ 2
  few_solved = low_place kind (Some table) view puts is storing

  level_put : (put : Put) → Among level put → IsLevelPut kind (Some table) view puts is storing put
  level_put put has = all_at (IsLevelPut kind (Some table) view puts is storing) level put (level_good kind (Some table) view puts is storing) has

  abbrev NotSolved : ℕ → Type 0
  NotSolved place = (solving : Solving kind view) → place ≢ solving.place

  -- none in the place of the request
  no_request : (put : Put) → Contains puts put → put.place ≢ 4
  no_request put has same = elim (all_at IsFrom puts put all_from (among puts put has)).from [
    | inl (inl solves) ↦ let few =
        few_solved (record { place = put.place; value = put.value; number = put.number; is = solves }) in omega (arith, few, same)
    | inl (inr asks) ↦ let at : put.place ≡ 1 = ap (λ (p : Put). p.place) asks.same in omega (arith, at, same)
    | inr (inl there) ↦ let few = (level_put put there).few in omega (arith, few, same)
    | inr (inr far) ↦ let high = far.0 in omega (arith, high, same)
  ]

  -- none in the place of the inflow where it isn't solved
  no_inflow : NotSolved 0 → (put : Put) → Contains puts put → put.place ≢ 0
  no_inflow none put has same = elim (all_at IsFrom puts put all_from (among puts put has)).from [
    | inl (inl solves) ↦ none (record { place = put.place; value = put.value; number = put.number; is = solves }) (sym same)
    | inl (inr asks) ↦ let at : put.place ≡ 1 = ap (λ (p : Put). p.place) asks.same in omega (arith, at, same)
    | inr (inl there) ↦ let high = (level_put put there).high in omega (arith, high, same)
    | inr (inr far) ↦ let high = far.0 in omega (arith, high, same)
  ]

  -- a put in the place of the outflow is a flow
  out_flow : (put : Put) → Among puts put → put.place ≡ 1 → IsFlow (asked_of of view) terms b put
  out_flow put has at = elim (all_at IsFrom puts put all_from has).from [
    | inl flow ↦ flow
    | inr (inl there) ↦ absurd (let high = (level_put put there).high in omega (arith, high, at))
    | inr (inr far) ↦ absurd (let high = far.0 in omega (arith, high, at))
  ]

  -- ---- the outflow

  not_at : NotSolved 1 → SolvesNot 1 b
  not_at none at number value e same = none (record { place = at; value = value; number = number; is = e }) (sym same)

  -- it is solved, or asked for, or given
  record OutSolved : Type 0 where
    solving : Solving kind view
    here : solving.place ≡ 1

  record OutAsked : Type 0 where
    asking : Given
    asks : asked_of of view ≡ Some asking
    none : NotSolved 1

  record OutGiven : Type 0 where
    held : Given
    asks : asked_of of view ≡ None
    there : given view 1 ≡ Some held
    none : NotSolved 1

  abbrev Outflow : Type 0
  Outflow = OutSolved ⊎ (OutAsked ⊎ OutGiven)

  outflow_by : (asking : Option Given) → asked_of of view ≡ asking → NotSolved 1 → (held : Given) → outflow_of of view ≡ Some held → Outflow
  outflow_by (Some by) asks none held there = inr (inl (record { asking = by; asks = asks; none = none }))
  outflow_by None asks none held there =
      inr (inr (record { held = held; asks = asks; there = ap (λ asking. outflow_or asking (given view 1)) (sym asks) ∙ there; none = none }))

  outflow_case : Outflow
  outflow_case = elim is.ends [
    | inl holds ↦
        let held = some_there (outflow_of of view) (holds_given view (shape_of kind) is.steady (is.comes_to ∙ holds) (let_out of) (inr (inl refl))) in
        outflow_by (asked_of of view) refl (λ solving same. let no : 1 ≡ 2 = ap balanced_code (sym holds ∙ solving.is) in omega (arith, no))
        held.0 held.1
    | inr solving ↦ by solving (solving.place == 1) refl
  ]
    where
      by : (solving : Solving kind view) (test : Bool) → (solving.place == 1) ≡ test → Outflow
      by solving true here = inl (record { solving = solving; here = grind (arith, nat_tests, here) })
      by solving false apart =
          let up =
          (solving_is kind view is.steady is.comes_to shares solving).others (term_in view (let_out of)) (1, omega arith, refl)
          (λ same. absurd (grind (arith, nat_tests, apart, same))) in
          outflow_by (asked_of of view) refl
          (λ other same. let one : other.place ≡ solving.place = one_solving kind view other solving in
          absurd (grind (arith, nat_tests, apart, same, one))) up.held up.is

  past_known : is_some view.past ≡ true
  past_known = ap is_some is.is_steady

  -- over an outflow that is known the terms say how great a number may be
  up_or_others : LeftBy kind view → (content : Content) → known view 1 ≡ Some content
      → IsGivenUpTo content.number (outflow_of of view) ⊎ AreOthersUpTo content.number 1 terms
  up_or_others left content there = by (is_own view content) refl
    where
      by : (test : Bool) → is_own view content ≡ test → IsGivenUpTo content.number (outflow_of of view) ⊎ AreOthersUpTo content.number 1 terms
      by false other =
          inl (to_asked of view content.number (inr
          (record { held = given_of content; is = given_other view 1 content there other; most = omega arith })))
      by true own = elim (left.outflow content there own) [
        | inl asks ↦ inl (to_asked of view content.number (inl (past_known, asks)))
        | inr up ↦ inr up
      ]

  -- where the outflow is solved
  solved_falls : (solving : Solving kind view) → solving.place ≡ 1 → IsFalling kind view 1 solving.number
  solved_falls solving here left content there =
      let s = solving_is kind view is.steady is.comes_to shares solving in
      elim (up_or_others left content there) [
        | inl up ↦
            let at : s.term.place ≡ 1 = s.there ∙ here in
            let most = up.most in let less = s.self up.held (term_given s.term s.has at ∙ up.is) in omega (arith, most, less)
        | inr others ↦ elim s.one [
          | inl none ↦ omega (arith, none)
          | inr (other, has, apart, number) ↦
              let most = number_of_up other.given content.number (others other has (λ same. apart (same ∙ sym here))) in omega (arith, number, most)
        ]
      ]
    where
      term_given : (term : Term) → Contains terms term → term.place ≡ 1 → term.given ≡ outflow_of of view
      term_given term has at = by (among terms term has)
        where
          by : Among terms term → term.given ≡ outflow_of of view
          by (inl same) = absurd (let differ : 0 ≡ term.place = ap (λ (t : Term). t.place) same in omega (arith, differ, at))
          by (inr (inl same)) = ap (λ (t : Term). t.given) (sym same)
          by (inr (inr (inl same))) = absurd (let differ : 2 ≡ term.place = ap (λ (t : Term). t.place) same in omega (arith, differ, at))
          by (inr (inr (inr never))) = absurd never

  -- where another term is solved, and all others than the outflow are given, the request has no lower a priority than these
  request_least : (by : Given) → asked_of of view ≡ Some by → (solving : Solving kind view) → 1 ≢ solving.place → (number : ℕ)
      → AreOthersUpTo number 1 terms → by.number ≤ number
  request_least by asks solving apart number up =
      let s = solving_is kind view is.steady is.comes_to shares solving in
      let out = s.others (term_in view (let_out of)) (1, omega arith, refl) apart in
      let out_is : out.held ≡ by = same_Some _ _ (sym out.is ∙ ap (λ asking. outflow_or asking (given view 1)) asks) in
      let n : out.held.number ≡ by.number = ap (λ (g : Given). g.number) out_is in
      let given_one = up s.term s.has (λ same. apart (sym same ∙ s.there)) in
      let less = s.self given_one.held given_one.is in
      let most = given_one.most in let below = out.most in omega (arith, n, less, most, below)

  asked_falls : (by : Given) → asked_of of view ≡ Some by → NotSolved 1 → IsFalling kind view 1 (asked_number terms b by.number)
  asked_falls by asks none left content there = elim (up_or_others left content there) [
    | inl up ↦
        let same : up.held ≡ by = same_Some _ _ (sym up.is ∙ ap (λ asking. outflow_or asking (given view 1)) asks) in
        let n : up.held.number ≡ by.number = ap (λ (g : Given). g.number) same in
        let most = up.most in let least = asked_least terms b by.number in omega (arith, n, most, least)
    | inr others ↦ elim is.ends [
      | inl holds ↦
          let g = greatest_up 1 content.number terms others in
          let at : asked_number terms b by.number ≡ asked_number terms Holds by.number =
          ap (λ balanced. asked_number terms balanced by.number) holds in
          omega (arith, g, at)
      | inr solving ↦
          let least = asked_least terms b by.number in let most =
          request_least by asks solving (none solving) content.number others in omega (arith, least, most)
    ]
  ]

  flow_falls : (put : Put) → IsFlow (asked_of of view) terms b put → put.place ≡ 1 → IsFalling kind view 1 put.number
  flow_falls put (inl solves) at left content there =
      solved_falls (record { place = put.place; value = put.value; number = put.number; is = solves }) at left content there
  flow_falls put (inr asks) at left content there =
      let n : put.number ≡ asked_number terms b asks.by.number = ap (λ (p : Put). p.number) asks.same in
      let falls =
      asked_falls asks.by asks.is (λ solving same. asks.apart solving.place solving.number solving.value solving.is (sym same)) left
      content there in
      omega (arith, n, falls)

  -- ---- what each put is

  abbrev on_of : ℕ → ℕ
  on_of place = if place == 2 then 3 else (if place == 3 then 2 else 1)

  abbrev IsOne : Rest → Type 0
  IsOne pair = (pair.on ≡ on_of pair.place) × (2 ≤ pair.place)

  one_each : AllByRecursion IsOne (rests_of kind)
  one_each = ((refl, omega arith), ((refl, omega arith), ((refl, omega arith), ((refl, omega arith), ((refl, omega arith), tt)))))

  one_at : (pair : Rest) → Contains (rests_of kind) pair → IsOne pair
  one_at pair has = all_at IsOne (rests_of kind) pair one_each (among (rests_of kind) pair has)

  flow_is : (put : Put) → IsFlow (asked_of of view) terms b put → PutIs kind view puts put
  flow_is put (inl solves) = solved solves
  flow_is put (inr asks) =
      let at : put.place ≡ 1 = ap (λ (p : Put). p.place) asks.same in
      alone (λ left content there own. flow_falls put (inr asks) at left content (ap (known view) (sym at) ∙ there))
      (λ pair has same. let two = (one_at pair has).1 in omega (arith, two, same, at))

  -- what is known of the outflow where it is neither solved nor asked for
  none_flows : ((put : Put) → Among flows put → put.place ≢ 1) → (held : Given) × ((given view 1 ≡ Some held) × NotSolved 1)
  none_flows none = by outflow_case
    where
      by : Outflow → (held : Given) × ((given view 1 ≡ Some held) × NotSolved 1)
      by (inl out) = absurd (none (of_solving kind view out.solving) (solving_there out.solving) out.here)
      by (inr (inl out)) = absurd (none (asked_put terms b out.asking)
          (subst (λ asking. Among (flow_puts asking terms b) (asked_put terms b out.asking)) (sym out.asks)
          (asked_there out.asking terms b (not_at out.none))) refl)
      by (inr (inr out)) = (out.held, (out.there, out.none))

  energy_is : (put : Put) → Contains (rests_of kind) (rest put.place 1) → put.number ≡ (held_after_puts view flows 1).number
      → PutIs kind view puts put
  energy_is put has number = elim (held_cases view flows 1) [
    | inl (flow, (there, (at, same))) ↦
        beside (record {
          beside = flow;
          there = contains puts flow (flow_there flow there);
          has = subst (λ on. Contains (rests_of kind) (rest put.place on)) (sym at) has;
          number = number ∙ ap (λ (g : Given). g.number) same;
          falls = subst (λ place. IsFalling kind view place flow.number) (sym at)
              (flow_falls flow (all_at (IsFlow (asked_of of view) terms b) flows flow (flows_are (asked_of of view) terms b) there) at);
        })
    | inr (none, same) ↦
        let held = none_flows none in
        let seen = given_as_known held.0 held.1.0 in
        rests (record {
          on = 1;
          has = has;
          number =
              number ∙ ap (λ (g : Given). g.number) (same
              ∙ sym (not_solved kind (Some table) view puts is storing b refl 1 (λ solving here. held.1.1 solving (sym here))));
          base = inl seen;
        })
  ]
    where
      given_as_known : (held : Given) → given view 1 ≡ Some held → (content : Content) × (known view 1 ≡ Some content)
      given_as_known held there = let seen = given_as view 1 held there in (seen.content, seen.there)

  all_are : AllByRecursion (PutIs kind view puts) puts
  all_are =
      subst (AllByRecursion (PutIs kind view puts)) is.same (all_append (PutIs kind view puts) _ _ (all_append (PutIs kind view puts) flows level
      (weaker_all (IsFlow (asked_of of view) terms b) (PutIs kind view puts) flows flow_is (flows_are (asked_of of view) terms b))
      (all_among (PutIs kind view puts) level (λ put has. (level_put put has).is_put))) (
        energy_is _ (2, omega arith, refl) refl,
        (energy_is _ (3, omega arith, refl) refl, (energy_is _ (4, omega arith, refl) refl, tt)),
      ))

  -- ---- what isn't solved stays given

  out_stays : NotSolved 1 → (new : View) → IsAfterOwn view new puts → (number : ℕ) → IsGivenUpTo number (outflow_of of view)
      → IsGivenUpTo number (outflow_of of new)
  out_stays none new after number up = elim (from_asked of view number up) [
    | inl asks ↦ still asks
    | inr held ↦ by held (asked_of of view) refl
  ]
    where
      still : AsksUpTo number view → IsGivenUpTo number (outflow_of of new)
      still asks =
          to_asked of new number (inl (ap is_some after.past ∙ asks.0, subst (IsUpTo number) (sym (after.rest 4 no_request)) asks.1))

      by : IsGivenUpTo number (given view 1) → (asking : Option Given) → asked_of of view ≡ asking → IsGivenUpTo number (outflow_of of new)
      by held (Some asking) asks =
          let from = asking_from of view asking asks in
          let counting = counts view from.request from.is in
          let above = counting.above held.held held.is in
          let most = held.most in
          still (counting.past_is, record { content = from.request; is = counting.is; most = omega (arith, above, most) })
      by held None asks =
          to_asked of new number (inr (record {
            held = held.held;
            is = same_given view new 1 after.own (after.rest 1 no_out) ∙ held.is;
            most = held.most;
          }))
        where
          no_out : (put : Put) → Contains puts put → put.place ≢ 1
          no_out put has at = elim (out_flow put (among puts put has) at) [
            | inl solves ↦ none (record { place = put.place; value = put.value; number = put.number; is = solves }) (sym at)
            | inr other ↦ none-some other.by (sym asks ∙ other.is)
          ]

  given_stays : (new : View) → IsAfterOwn view new puts → (s : Sort) → Among (shape_of kind) s
      → ((solving : Solving kind view) → s.place ≢ solving.place)
      → (number : ℕ) → IsGivenUpTo number (given_in view s) → IsGivenUpTo number (given_in new s)
  given_stays new after s has apart number =
      by_sort (λ s. ((solving : Solving kind view) → s.place ≢ solving.place) → IsGivenUpTo number (given_in view s)
      → IsGivenUpTo number (given_in new s))
      (λ apart. subst (IsGivenUpTo number) (sym (same_given view new 0 after.own (after.rest 0 (no_inflow apart)))))
      (λ apart. out_stays apart new after number)
      (λ apart. contents_stay kind (Some table) view puts is storing apart new after number) s has apart

  falls : (solving : Solving kind view) → IsFalling kind view solving.place solving.number
  falls solving = by (solving.place == 1) refl
    where
      by : (test : Bool) → (solving.place == 1) ≡ test → IsFalling kind view solving.place solving.number
      by true here =
          let at : solving.place ≡ 1 = grind (arith, nat_tests, here) in
          subst (λ place. IsFalling kind view place solving.number) (sym at) (solved_falls solving at)
      by false apart = falls_from kind view is.steady is.comes_to shares solving
          (λ s has at held. by_sort (λ s. s.place ≡ solving.place → given_in view s ≡ Some held → IsFalling kind view s.place held.number)
          (λ at given_is left content there. given_number view 0 held content given_is there)
          (λ at. absurd (grind (arith, nat_tests, apart, at)))
          (λ at given_is left content there. contents_below kind (Some table) view puts is storing left held content given_is there) s has at)

  abbrev is_slot : Source → Bool
  is_slot slot = true
  is_slot (contents rows) = false
  is_slot (asked by) = false

  pub power_facts : DispatchFacts kind view puts
  power_facts = record {
    steady = is.steady;
    comes_to = is.comes_to;
    ends = is.ends;
    shares = shares;
    each = all_are;
    has_solved = λ solving. contains puts (of_solving kind view solving) (storing.solved solving);
    beside = λ solving on has.
        let few = few_solved solving in
        let pair = one_at (rest solving.place on) has in
        let low = pair.1 in
        let two : solving.place ≡ 2 = omega (arith, few, low) in
        let read = solved_level kind (Some table) view puts is storing solving two table refl in
        (_, (contains puts _ read.1.1, sym (pair.0 ∙ ap on_of two), refl));
    falls = falls;
    stays = given_stays;
    untouched =
        λ s has. by_sort (λ s. s.source ≡ slot → ((solving : Solving kind view) → s.place ≢ solving.place) → (put : Put) → Contains puts put
        → put.place ≢ s.place)
        (λ source. no_inflow) (λ source. absurd (let differ : false ≡ true = ap is_slot source in cc))
        (λ source. absurd (let differ : false ≡ true = ap is_slot source in cc)) s has;
    unique = λ pair other has there same. (one_at pair has).0 ∙ ap on_of same ∙ sym (one_at other there).0;
  }

  -- ---- what it holds then

  module _ (new : View) (after : IsAfterOwn view new puts) where
    pub agreed : (s : Sort) → Among (shape_of kind) s → ((solving : Solving kind view) → s.place ≢ solving.place) → (g : Given)
        → given_in view s ≡ Some g → known_value new s.place ≡ Some g.value
    agreed s has =
        by_sort (λ s. ((solving : Solving kind view) → s.place ≢ solving.place) → (g : Given) → given_in view s ≡ Some g
        → known_value new s.place ≡ Some g.value)
        (λ apart g is_given. given_held kind (Some table) view puts is storing new after 0 g is_given (no_inflow apart))
        (λ apart g is_given. by outflow_case apart g is_given)
        (contents_held kind (Some table) view puts is storing new after) s has
      where
        by : Outflow → NotSolved 1 → (g : Given) → outflow_of of view ≡ Some g → known_value new 1 ≡ Some g.value
        by (inl out) apart g is_given = absurd (apart out.solving (sym out.here))
        by (inr (inl out)) apart g is_given =
            let same : out.asking ≡ g = same_Some _ _ (ap (λ asking. outflow_or asking (given view 1)) (sym out.asks) ∙ is_given) in
            let there =
            subst (λ asking. Among (flow_puts asking terms b) (asked_put terms b out.asking)) (sym out.asks)
            (asked_there out.asking terms b (not_at out.none)) in
            put_value view new puts after (asked_put terms b out.asking)
            (contains puts (asked_put terms b out.asking) (flow_there (asked_put terms b out.asking) there))
            ∙ ap (λ (h : Given). Some h.value) same
        by (inr (inr out)) apart g is_given =
            let same : out.held ≡ g = same_Some _ _ (sym out.there ∙ ap (λ asking. outflow_or asking (given view 1)) (sym out.asks) ∙ is_given) in
            given_held kind (Some table) view puts is storing new after 1 out.held out.there
            (λ put in_puts at. elim (out_flow put (among puts put in_puts) at) [
              | inl solves ↦ out.none (record { place = put.place; value = put.value; number = put.number; is = solves }) (sym at)
              | inr other ↦ none-some other.by (sym out.asks ∙ other.is)
            ]) ∙ ap (λ (h : Given). Some h.value) same

    pub outflow_value : known_value new 1 ≡ Some (held_after_puts view flows 1).value
    outflow_value = elim (held_cases view flows 1) [
      | inl (flow, (there, (at, same))) ↦
          ap (known_value new) (sym at) ∙ put_value view new puts after flow (contains puts flow (flow_there flow there))
          ∙ ap (λ (g : Given). Some g.value) (sym same)
      | inr (none, same) ↦
          let held = none_flows none in
          let seen = given_as view 1 held.0 held.1.0 in
          rest_value view new puts after 1 (λ put has at. by put (out_flow put (among puts put has) at) at none held.1.1)
          ∙ ap (option_map (λ (content : Content). content.value)) seen.there ∙ ap (λ found. Some (held_by found).value) (sym seen.there)
          ∙ ap (λ (g : Given). Some g.value) (sym same)
    ]
      where
        by : (put : Put) → IsFlow (asked_of of view) terms b put → put.place ≡ 1 → ((put : Put) → Among flows put → put.place ≢ 1) → NotSolved 1 → ⊥
        by put (inl solves) at none apart = apart (record { place = put.place; value = put.value; number = put.number; is = solves }) (sym at)
        by put (inr asks) at none apart =
            none (asked_put terms b asks.by) (subst (λ asking. Among (flow_puts asking terms b) (asked_put terms b asks.by)) (sym asks.is)
            (asked_there asks.by terms b asks.apart)) refl

    -- ---- what is left of an outflow that the object wrote

    request_up : (by : Given) → asked_of of view ≡ Some by → (number : ℕ) → by.number ≤ number → IsUpTo number (known new 4)
    request_up by asks number most =
        let from = asking_from of view by asks in
        let counting = counts view from.request from.is in
        let n = from.number in
        record { content = from.request; is = after.rest 4 no_request ∙ counting.is; most = omega (arith, n, most) }

    others_up : (number : ℕ) → ((solving : Solving kind view) → solving.place ≡ 1) → AreOthersUpTo number 1 terms
        → AreOthersUpTo number 1 (power_balance of new).terms
    others_up number only = others_pass kind view new 1 number
        (λ r has apart. given_stays new after r has (λ solving same. apart (same ∙ only solving)) number)

    abbrev IsLeft : ℕ → Type 0
    IsLeft number = IsUpTo number (known new 4) ⊎ AreOthersUpTo number 1 (power_balance of new).terms

    -- an outflow that stays was left with its priority
    stays_left : LeftBy kind view → (content : Content) → known view 1 ≡ Some content → is_own view content ≡ true → IsLeft content.number
    stays_left left content there own = elim (left.outflow content there own) [
      | inl asks ↦ inl (subst (IsUpTo content.number) (sym (after.rest 4 no_request)) asks)
      | inr up ↦ by up outflow_case
    ]
      where
        by : AreOthersUpTo content.number 1 terms → Outflow → IsLeft content.number
        by up (inl out) = inr (others_up content.number (λ other. ap place_in (sym other.is ∙ out.solving.is) ∙ out.here) up)
        by up (inr (inl out)) = elim is.ends [
          | inl holds ↦ inr (others_up content.number
              (λ solving. absurd (let no : 1 ≡ 2 = ap balanced_code (sym holds ∙ solving.is) in omega (arith, no))) up)
          | inr solving ↦ inl (request_up out.asking out.asks content.number
              (request_least out.asking out.asks solving (out.none solving) content.number up))
        ]
        by up (inr (inr out)) =
            let seen = given_as view 1 out.held out.there in
            let same : seen.content ≡ content = same_Some _ _ (sym seen.there ∙ there) in
            absurd (let no : false ≡ true = sym seen.other ∙ ap (is_own view) same ∙ own in cc)

    put_left : (put : Put) → IsFlow (asked_of of view) terms b put → put.place ≡ 1 → IsLeft put.number
    put_left put (inl solves) at =
        let solving : Solving kind view = record { place = put.place; value = put.value; number = put.number; is = solves } in
        let s = solving_is kind view is.steady is.comes_to shares solving in
        inr (others_up put.number (λ other. ap place_in (sym other.is ∙ solves) ∙ at)
        (λ other has apart. s.others other has (λ same. apart (same ∙ at))))
    put_left put (inr asks) at = subst IsLeft (sym n) (elim is.ends [
      | inl holds ↦ subst IsLeft (sym (ap (λ balanced. asked_number terms balanced asks.by.number) holds))
          (in_balance holds (cases_lt (greatest_beside 1 terms) asks.by.number))
      | inr solving ↦
          inl (request_up asks.by asks.is (asked_number terms b asks.by.number)
          (subst (λ m. asks.by.number ≤ m) (sym (ap (λ balanced. asked_number terms balanced asks.by.number) solving.is)) (omega arith)))
    ])
      where
        n : put.number ≡ asked_number terms b asks.by.number
        n = ap (λ (p : Put). p.number) asks.same

        in_balance : b ≡ Holds → (greatest_beside 1 terms < asks.by.number) ⊎ (asks.by.number ≤ greatest_beside 1 terms)
            → IsLeft (asked_number terms Holds asks.by.number)
        in_balance holds (inr less) = inl (request_up asks.by asks.is (asked_number terms Holds asks.by.number) (omega (arith, less)))
        in_balance holds (inl more) =
            inr (others_up (asked_number terms Holds asks.by.number)
            (λ solving. absurd (let no : 1 ≡ 2 = ap balanced_code (sym holds ∙ solving.is) in omega (arith, no)))
            (λ other has apart.
            given_up_to other.given (asked_number terms Holds asks.by.number)
            (all_given holds other has)
            (let most = All-contains (λ (o : Term). o.place ≢ 1 → priority_of o.given ≤ greatest_beside 1 terms) terms other
            (is_greatest_beside 1 terms).most has apart in omega (arith, most, more))))
          where
            all_given : b ≡ Holds → (other : Term) → Contains terms other → IsSome other.given
            all_given holds other has =
                let r = term_of view (shape_of kind) other (among terms other has) in
                subst (λ (t : Term). IsSome t.given) (sym r.is) (holds_given view (shape_of kind) is.steady (is.comes_to ∙ holds) r.at r.has)

    pub outflow_left : LeftBy kind view → IsOutflowLeft kind new
    outflow_left left content there own = elim (put_or_none puts 1) [
      | inr none ↦
          let was : known view 1 ≡ Some content = sym (after.rest 1 (λ put has. none put (among puts put has))) ∙ there in
          stays_left left content was (sym (same_own view new content after.own) ∙ own)
      | inl (put, (has, at)) ↦ elim (after.put put (contains puts put has)) [
        | inl written ↦
            let same : put_content view put ≡ content = same_Some _ _ (sym written.is ∙ ap (known new) at ∙ there) in
            subst IsLeft (ap (λ (c : Content). c.number) same) (put_left put (out_flow put has at) at)
        | inr kept ↦
            let was : known view 1 ≡ Some content = ap (known view) (sym at) ∙ kept.was ∙ sym kept.is ∙ ap (known new) at ∙ there in
            stays_left left content was (sym (same_own view new content after.own) ∙ own)
      ]
    ]
