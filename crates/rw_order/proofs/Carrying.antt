-- An object that has nothing to put, where all that stands in its places is given to it, has nothing to put where less is known.
use Rattle.rw_order.proofs.Common.{Bool, Given, Holds, Idle, IdleAnswer, IsSome, Kind, None, Option, Reservoir, Some, View, [], answer, ap, ap₂}
use Rattle.rw_order.proofs.Common.{arith, balance_of, balanced_of, basis_of, both_ways, contents_by, false, fault_of_contents, fits, given}
use Rattle.rw_order.proofs.Common.{if◌then◌else◌, is_some, missing, nat_le, nat_tests, puts_of, refl, solved_balance, solved_at, solve_of, subst, sym}
use Rattle.rw_order.proofs.Common.{true}
use Rattle.rw_order.proofs.Common.{weakest, ℕ, ℤ, ◌+◌, ◌==◌, ◌∙◌, ◌∷◌, ◌≡◌, ◌≤◌}
use Rattle.rw_order.specs.Free.{is_free}
use Rattle.rw_order.proofs.Held.{IsSeenOf, IsWhole, Sight, Values, given_stands}
use Rattle.rw_order.proofs.Terms.{Comes, Parts, balanced_is, comes, parts_of, sight_of, term_in, terms_of}
use Rattle.rw_order.proofs.Agreeing.{Carries, carry_steady}
use Rattle.rw_order.proofs.Missing.{is_idle}
use Rattle.rw_order.proofs.Judged.{plain_solve, idle_by}
use Rattle.rw_order.proofs.AllKinds.{AreLevelledOf}

-- ---- a balance of which less is given comes to nothing more

fewer_first : (one other : Option Given) (few many : ℕ) → (IsSome other → IsSome one) → few ≤ many
    → (if is_some one then 0 else 1) + few ≤ (if is_some other then 0 else 1) + many
fewer_first (Some a) (Some b) few many more le = omega (arith, le)
fewer_first (Some a) None few many more le = omega (arith, le)
fewer_first None None few many more le = omega (arith, le)
fewer_first None (Some b) few many more le = absurd (both_ways false refl (more refl))

fewer : (one other : Sight) (parts : Parts) → ((place : ℕ) → IsSome (other place) → IsSome (one place))
    → missing (terms_of one parts) ≤ missing (terms_of other parts)
fewer one other [] more = omega arith
fewer one other (part ∷ parts) more =
    fewer_first (one part.1) (other part.1) (missing (terms_of one parts)) (missing (terms_of other parts)) (more part.1) (fewer one other parts more)

stays_idle : (steady_one steady_other : Option ℤ) (one other : Sight) (parts : Parts) → Carries steady_other steady_one
    → ((place : ℕ) → IsSome (other place) → IsSome (one place)) → solved_balance steady_one (terms_of one parts) ≡ Idle
    → solved_balance steady_other (terms_of other parts) ≡ Idle
stays_idle steady_one None one other parts carries more idle = refl
stays_idle steady_one (Some steady) one other [] carries more idle =
    absurd (both_ways (is_idle Holds) refl (ap is_idle (ap (λ s. solved_balance s []) (sym carries) ∙ idle)))
stays_idle steady_one (Some steady) one other (part ∷ parts) carries more idle =
    let here : solved_balance (Some steady) (terms_of one (part ∷ parts)) ≡ Idle =
    ap (λ s. solved_balance s (terms_of one (part ∷ parts))) (sym carries) ∙ idle in
    let many : nat_le 2 (missing (terms_of one (part ∷ parts))) ≡ true =
    subst (Comes steady (terms_of one (part ∷ parts))) here (comes steady (term_in one part) (terms_of one parts)) in
    let le = fewer one other (part ∷ parts) more in
    let still : nat_le 2 (missing (terms_of other (part ∷ parts))) ≡ true = grind (arith, nat_tests, many, le) in
    ap (λ test. if test then Idle else solved_at steady (terms_of other (part ∷ parts)) (weakest (term_in other part) (terms_of other parts))
    (weakest (term_in other part) (terms_of other parts)).given)
    still

-- ---- whatever the kind

module _ (values : Values) (past : Option ℤ) (one other : View) (whole : IsWhole values past one) (seen : IsSeenOf values past other) where
  more_given : (place : ℕ) → IsSome (given other place) → IsSome (given one place)
  more_given place some = by (given other place) refl some
    where
      by : (found : Option Given) → given other place ≡ found → IsSome found → IsSome (given one place)
      by None is none = absurd (both_ways false refl none)
      by (Some held) is found = (whole.now place held.value (given_stands values past other seen place held is)).0

  more_in : (kind : Kind) → AreLevelledOf kind one other → (place : ℕ) → IsSome (sight_of kind other place) → IsSome (sight_of kind one place)
  more_in (Reservoir initial_storage table local_inflow diversion return_flow evaporation max_release) levelled place some = by (place == 2) some
    where
      by : (test : Bool) → IsSome (if test then contents_by table (basis_of (given other 2) (given other 3)) else given other place)
          → IsSome (if test then contents_by table (basis_of (given one 2) (given one 3)) else given one place)
      by true some = subst IsSome (ap₂ (λ a b. contents_by table (basis_of a b)) (sym levelled.storage) (sym levelled.elevation)) some
      by false some = more_given place some
  more_in kind levelled place some = more_given place some

  -- where all that stands in the places is given to one view and it has nothing to put, no other view of these values has
  pub answers_idle : (kind : Kind) → is_free kind ≡ true → AreLevelledOf kind one other → solve_of kind one ≡ IdleAnswer
      → solve_of kind other ≡ IdleAnswer
  answers_idle kind free levelled e =
      let idle : balanced_of kind other ≡ Idle =
      balanced_is kind other free
      ∙ stays_idle (balance_of kind one).steady (balance_of kind other).steady (sight_of kind one) (sight_of kind other) (parts_of kind)
      (carry_steady values past one other whole seen kind free) (more_in kind levelled) (sym (balanced_is kind one free) ∙ idle_by kind one free e) in
      plain_solve kind other free ∙ ap (λ balanced.
      answer (fits kind other) (puts_of kind other balanced) balanced (fault_of_contents kind other)) idle
