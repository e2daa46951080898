-- What a solved balance tells of its terms.
use Rattle.rw_method.proofs.Common.{All, All-contains, Balanced, Conflicts, Contains, Contains-append_cases, Contains-append_left}
use Rattle.rw_method.proofs.Common.{Contains-append_right, Decides-int_eq, Given, Holds, Idle, HasNoLowerPriority, IsShare, IsSome, HasHigherPriority}
use Rattle.rw_method.proofs.Common.{List, None}
use Rattle.rw_method.proofs.Common.{Option, Solves, Some, Term, ap, arith, cases_Bool, inl, inr, int_eq, missing, nat_le, net_of, priority_of, pos}
use Rattle.rw_method.proofs.Common.{refl, rules, solved_balance, solved_at, solves, subst, sym, value_from_others, weakest, ℕ, ℤ, ◌++◌, ◌+ℤ◌, ◌==◌}
use Rattle.rw_method.proofs.Common.{◌∙◌}
use Rattle.rw_method.proofs.Common.{◌∷◌, ◌≡◌, ◌≢◌, ◌≤◌, ◌⊎◌}
use Rattle.rw_method.proofs.GivingWay.{gives_way}
use Rattle.rw_method.proofs.SolvedTerm.{no_lower_given, number_of_solved, solved_term}
use Rattle.rw_method.specs.Left.{IsGivenUpTo}
use Rattle.rw_method.proofs.Among.{among, contains}

abbrev pub balanced_code : Balanced → ℕ
balanced_code Idle = 0
balanced_code Holds = 1
balanced_code (Solves place value number) = 2
balanced_code (Conflicts place held solved) = 3

-- ---- where a term is solved

pub record SolvedFacts (terms : List Term) (place number : ℕ) : Type 0 where
  pub term : Term
  pub has : Contains terms term
  pub there : term.place ≡ place
  pub others : (other : Term) → Contains terms other → other.place ≢ place → IsGivenUpTo number other.given
  pub self : (held : Given) → term.given ≡ Some held → number ≤ held.number
  pub one : (number ≡ 0) ⊎ ((other : Term) × Contains terms other × (other.place ≢ place) × (priority_of other.given ≡ number))

pub given_up_to : (given : Option Given) (number : ℕ) → IsSome given → priority_of given ≤ number → IsGivenUpTo number given
given_up_to None number some most = absurd (cc)
given_up_to (Some held) number some most = record { held = held; is = refl; most = most }

no_lower : (given : Option Given) (held : Given) → HasNoLowerPriority given (Some held) → priority_of given ≤ held.number
no_lower None held is = absurd is
no_lower (Some other) held is = is

higher : (given : Option Given) (held : Given) → HasHigherPriority given (Some held) → priority_of given ≤ held.number
higher None held is = absurd is
higher (Some other) held is = omega (arith, is)

-- of those around the one that gives way
beside : (P : Term → Type 0) (before after : List Term) (term other : Term) → Contains (before ++ term ∷ after) other → term.place ≢ other.place
    → (Contains before other → P other) → (Contains after other → P other) → P other
beside P before after term other has apart f g = elim (Contains-append_cases before (term ∷ after) other has) [
  | inl earlier ↦ f earlier
  | inr later ↦ elim (among (term ∷ after) other later) [
    | inl same ↦ absurd (apart (ap (λ (t : Term). t.place) same))
    | inr behind ↦ g (contains after other behind)
  ]
]

pub solved_facts : (steady : ℤ) (terms : List Term) (place number : ℕ) (value : ℤ) → All (λ (term : Term). IsShare term.share) terms
    → solved_balance (Some steady) terms ≡ Solves place value number → SolvedFacts terms place number
solved_facts steady terms place number value shares is =
    let solved = solved_term steady terms place number value shares is in
    let greatest = number_of_solved steady terms place number value is in
    let way = solved.way in
    let self : ((held : Given) → solved.term.given ≡ Some held → (other : Term) → Contains terms other → other.place ≢ place
    → priority_of other.given ≤ held.number) =
    (λ held given other has apart.
    beside (λ (o : Term). priority_of o.given ≤ held.number) way.before way.after solved.term other (subst (λ ts. Contains ts other) way.among has)
    (λ same. apart (sym same ∙ solved.there))
    (λ earlier. no_lower other.given held (subst (λ g. HasNoLowerPriority other.given g) given
    (All-contains (λ (o : Term). HasNoLowerPriority o.given solved.term.given) way.before other way.earlier earlier)))
    (λ later. higher other.given held (subst (λ g. HasHigherPriority other.given g) given
    (All-contains (λ (o : Term). HasHigherPriority o.given solved.term.given) way.after other way.later later)))) in
    record {
      term = solved.term;
      has =
          subst (λ ts. Contains ts solved.term) (sym way.among)
          (Contains-append_right way.before (solved.term ∷ way.after) solved.term (0, omega arith, refl));
      there = solved.there;
      others = λ other has apart.
          given_up_to other.given number
          (beside (λ (o : Term). IsSome o.given) way.before way.after solved.term other (subst (λ ts. Contains ts other) way.among has)
          (λ same. apart (sym same ∙ solved.there))
          (λ earlier. All-contains (λ (o : Term). IsSome o.given) (way.before ++ way.after) other solved.given
          (Contains-append_left way.before way.after other earlier))
          (λ later. All-contains (λ (o : Term). IsSome o.given) (way.before ++ way.after) other solved.given
          (Contains-append_right way.before way.after other later)))
          (All-contains (λ (o : Term). o.place ≢ place → priority_of o.given ≤ number) terms other greatest.most has apart);
      self = λ held given. elim greatest.one [
        | inl none ↦ omega (arith, none)
        | inr (other, has, apart, is_number) ↦ let below = self held given other has apart in omega (arith, below, is_number)
      ];
      one = greatest.one;
    }

-- ---- where the balance is true

pub record HoldsFacts (steady : ℤ) (terms : List Term) : Type 0 where
  pub given : (other : Term) → Contains terms other → IsSome other.given
  pub balances : steady +ℤ net_of terms ≡ pos 0

some_higher : (given : Option Given) (held : Given) → HasHigherPriority given (Some held) → IsSome given
some_higher None held is = absurd is
some_higher (Some other) held is = search rules

holds_at : (steady : ℤ) (terms : List Term) (term : Term) (given : Option Given) → solved_at steady terms term given ≡ Holds
    → (held : Given) × ((given ≡ Some held) × (steady +ℤ net_of terms ≡ pos 0))
holds_at steady terms term None is = absurd (let no = ap balanced_code is in omega (arith, no))
holds_at steady terms term (Some held) is = elim (cases_Bool (int_eq (steady +ℤ net_of terms) (pos 0))) [
  | inl balanced ↦ (held, (refl, (Decides-int_eq (steady +ℤ net_of terms) (pos 0)).0 balanced))
  | inr unbalanced ↦ elim (cases_Bool (held.number == 0)) [
    | inl zero_number ↦
        let conflict : Conflicts term.place held.value (value_from_others steady terms term) ≡ Holds = rw (unbalanced, zero_number) at is in
        absurd (let no = ap balanced_code conflict in omega (arith, no))
    | inr some_number ↦
        let solving : solves steady terms term ≡ Holds = rw (unbalanced, some_number) at is in
        absurd (let no = ap balanced_code solving in omega (arith, no))
  ]
]

holds_of : (steady : ℤ) (first : Term) (rest : List Term) → solved_balance (Some steady) (first ∷ rest) ≡ Holds
    → (held : Given) × (((weakest first rest).given ≡ Some held) × (steady +ℤ net_of (first ∷ rest) ≡ pos 0))
holds_of steady first rest is = elim (cases_Bool (nat_le 2 (missing (first ∷ rest)))) [
  | inl many ↦
      let idle : Idle ≡ Holds = rw many at is in
      absurd (let no = ap balanced_code idle in omega (arith, no))
  | inr few ↦ holds_at steady (first ∷ rest) (weakest first rest) (weakest first rest).given (rw few at is)
]

-- with a term or more
pub holds_facts : (steady : ℤ) (first : Term) (rest : List Term) → solved_balance (Some steady) (first ∷ rest) ≡ Holds
    → HoldsFacts steady (first ∷ rest)
holds_facts steady first rest is =
    let holds = holds_of steady first rest is in
    let way = gives_way first rest in
    record {
      given =
          λ other has. elim (Contains-append_cases way.before (weakest first rest ∷ way.after) other
          (subst (λ ts. Contains ts other) way.among has)) [
            | inl earlier ↦ no_lower_given other.given holds.0
                (subst (λ g. HasNoLowerPriority other.given g) holds.1.0
                (All-contains (λ (o : Term). HasNoLowerPriority o.given (weakest first rest).given) way.before other way.earlier earlier))
            | inr later ↦ elim (among (weakest first rest ∷ way.after) other later) [
              | inl same ↦ rw (← ap (λ (t : Term). t.given) same, holds.1.0) search rules
              | inr behind ↦ some_higher other.given holds.0
                  (subst (λ g. HasHigherPriority other.given g) holds.1.0
                  (All-contains (λ (o : Term). HasHigherPriority o.given (weakest first rest).given) way.after other way.later
                  (contains way.after other behind)))
            ]
          ];
      balances = holds.1.1;
    }
