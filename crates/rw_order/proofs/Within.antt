-- What a balance comes to from less than stands in the places: nothing, or what stands there.
use Rattle.rw_order.proofs.Common.{*ℤ-zero, All, All-from_recursion, AllByRecursion, Balanced, Brings, ByRule, Canal, Conflicts, Conveys, DataObject}
use Rattle.rw_order.proofs.Common.{Decides-int_eq, Gage, Holds, Idle, IsShare, IsSolved, IsSome, Kind, List, None, Option, PowerReservoir, Reach}
use Rattle.rw_order.proofs.Common.{Request, RoutedReach, Routes, Share, Solves, Some, Takes, Term, WaterUser, [], agree, ap, arith, both_ways}
use Rattle.rw_order.proofs.Common.{brought, int_eq, ints, nat_tests, net_of, none-some, option_map, pos, recursion_from_All, refl, same_Some}
use Rattle.rw_order.proofs.Common.{solved_balance}
use Rattle.rw_order.proofs.Common.{solved_term, subst, suc, sym, true, zero, ℕ, ℤ, ◌++◌, ◌+ℤ◌, ◌∙◌, ◌∷◌, ◌≡◌}
use Rattle.rw_order.specs.Free.{is_free}
use Rattle.rw_order.proofs.Lists.{all_left, all_right}
use Rattle.rw_order.proofs.Held.{Sight, Stands, Values}
use Rattle.rw_order.proofs.Terms.{Comes, Parts, all_in, brought_in, brought_with, but_one, comes, parts_of, term_in, terms_of}
use Rattle.rw_order.proofs.Agreeing.{Agree}
use Rattle.rw_base.proofs.Lists.{mapped_all, weaker_all}

-- ---- nothing is lost

-- all that a term conveys arrives
abbrev pub KeepsAll : Share → Type 0
KeepsAll (Conveys seepage) = seepage ≡ 0
KeepsAll (Routes content release) = ⊥
KeepsAll share = Unit {0}

abbrev pub KeepAll : Parts → Type 0
KeepAll parts = AllByRecursion (λ (part : Share × ℕ). KeepsAll part.0) parts

conveyed_all : (value : ℤ) → brought (Conveys 0) value ≡ value
conveyed_all value = rw (*ℤ-zero value) omega (arith, ints)

brought_once : (share : Share) (one other : ℤ) → KeepsAll share → brought share one ≡ brought share other → one ≡ other
brought_once Brings one other keeps same = same
brought_once Takes one other keeps same = omega (arith, ints, same)
brought_once (Conveys seepage) one other keeps same = sym (conveyed_all one) ∙ (rw keeps at same) ∙ conveyed_all other
brought_once (Routes content release) one other keeps same = absurd keeps

share_of : (share : Share) → KeepsAll share → IsShare share
share_of (Conveys seepage) keeps = omega (arith, keeps)
share_of (Routes content release) keeps = absurd keeps
share_of share keeps = tt

pub shares_of : (sight : Sight) (parts : Parts) → KeepAll parts → All (λ (term : Term). IsShare term.share) (terms_of sight parts)
shares_of sight parts keep =
    All-from_recursion (λ (term : Term). IsShare term.share) (terms_of sight parts)
    (mapped_all (λ (term : Term). IsShare term.share) (term_in sight) parts
    (weaker_all (λ (part : Share × ℕ). KeepsAll part.0) (λ (part : Share × ℕ). IsShare part.0) parts (λ part keeps. share_of part.0 keeps) keep))

kept_of : (sight : Sight) (parts : Parts) (before : List Term) (term : Term) (after : List Term) → KeepAll parts
    → terms_of sight parts ≡ before ++ term ∷ after
    → KeepsAll term.share
kept_of sight parts before term after keep among =
    (all_right (λ (t : Term). KeepsAll t.share) before (term ∷ after)
    (subst (AllByRecursion (λ (t : Term). KeepsAll t.share)) among (mapped_all (λ (t : Term). KeepsAll t.share) (term_in sight) parts keep))).0

-- a kind that is free loses nothing
pub keep_parts : (kind : Kind) → is_free kind ≡ true → KeepAll (parts_of kind)
keep_parts (Canal seepage) keeps = (grind (arith, nat_tests, keeps), (tt, tt))
keep_parts (DataObject slots) keeps = tt
keep_parts Gage keeps = (tt, (tt, tt))
keep_parts (Reach zero history local_inflow diversion return_flow) keeps = (tt, (tt, tt))
keep_parts (Reach (suc lag) history local_inflow diversion return_flow) keeps = (tt, tt)
keep_parts (WaterUser depletion Request) keeps = (tt, tt)
keep_parts (WaterUser depletion ByRule) keeps = tt
keep_parts (PowerReservoir initial_storage table max_release tailwater power) keeps = tt
keep_parts (RoutedReach initial_content release) keeps = tt
keep_parts kind keeps = (tt, (tt, (tt, tt)))

-- ---- the balance is true of what stands in the places

abbrev pub IsTrueOf : Values → ℤ → Parts → Type 0
IsTrueOf values steady parts = option_map (λ total. steady +ℤ total) (brought_in values parts) ≡ Some (pos 0)

-- what a balance came to stands in the places
abbrev pub StandsIn : Values → Balanced → Type 0
StandsIn values Idle = ⊥
StandsIn values Holds = Unit {0}
StandsIn values (Solves place value number) = values place ≡ Some value
StandsIn values (Conflicts place held solved) = ⊥

-- what a balance comes to stands there, or it comes to nothing
abbrev pub IsWithin : Values → Balanced → Type 0
IsWithin values Idle = Unit {0}
IsWithin values balanced = StandsIn values balanced

module _ (values : Values) (sight : Sight) (parts : Parts) (steady : ℤ) (stands : Stands values sight) (keep : KeepAll parts) where
  -- where all but one are given, the values bring what the given ones do, with that of the one
  brought_beside : (place : ℕ) (value : ℤ) (is : IsSolved steady (terms_of sight parts) place value)
      → brought_in values parts ≡ option_map (brought_with is.way.before is.term is.way.after) (values place)
  brought_beside place value is =
      let all = recursion_from_All (λ (term : Term). IsSome term.given) (is.way.before ++ is.way.after) is.given in
      but_one values sight parts is.way.before is.term is.way.after stands is.way.among
      (all_left (λ (term : Term). IsSome term.given) is.way.before is.way.after all)
      (all_right (λ (term : Term). IsSome term.given) is.way.before is.way.after all)
      ∙ ap (λ p. option_map (brought_with is.way.before is.term is.way.after) (values p)) is.there

  true_solved : (place : ℕ) (value : ℤ) → IsSolved steady (terms_of sight parts) place value → values place ≡ Some value
      → IsTrueOf values steady parts
  true_solved place value is there =
      ap (option_map (λ total. steady +ℤ total))
      (brought_beside place value is ∙ ap (option_map (brought_with is.way.before is.term is.way.after)) there)
      ∙ ap Some is.balances

  solved_stands : (place : ℕ) (value : ℤ) (found : Option ℤ) → (is : IsSolved steady (terms_of sight parts) place value)
      → IsTrueOf values steady parts → values place ≡ found → values place ≡ Some value
  solved_stands place value None is true_here there =
      let none : brought_in values parts ≡ None =
      brought_beside place value is ∙ ap (option_map (brought_with is.way.before is.term is.way.after)) there in
      absurd (none-some _ (sym (ap (option_map (λ total. steady +ℤ total)) none) ∙ true_here))
  solved_stands place value (Some other) is true_here there =
      let all : brought_in values parts ≡ Some (brought_with is.way.before is.term is.way.after other) =
      brought_beside place value is ∙ ap (option_map (brought_with is.way.before is.term is.way.after)) there in
      let sum : steady +ℤ brought_with is.way.before is.term is.way.after other ≡ pos 0 =
      same_Some _ _ (sym (ap (option_map (λ total. steady +ℤ total)) all) ∙ true_here) in
      let balances = is.balances in
      let keeps = kept_of sight parts is.way.before is.term is.way.after keep is.way.among in
      there ∙ ap Some (brought_once is.term.share other value keeps (omega (arith, ints, sum, balances)))

-- ---- one comes to what stands there, and the other to nothing else

module _ (values : Values) (sight : Sight) (part : Share × ℕ) (parts : Parts) (steady : ℤ) (stands : Stands values sight)
    (keep : KeepAll (part ∷ parts)) where
  abbrev terms : List Term
  terms = terms_of sight (part ∷ parts)

  true_by : (balanced : Balanced) → solved_balance (Some steady) terms ≡ balanced → StandsIn values balanced → IsTrueOf values steady (part ∷ parts)
  true_by Idle is there = absurd there
  true_by (Conflicts place held solved) is there = absurd there
  true_by (Solves place value number) is there =
      true_solved values sight (part ∷ parts) steady stands keep place value
      (solved_term steady terms place number value (shares_of sight (part ∷ parts) keep) is) there
  true_by Holds is there =
      let all : Comes steady terms Holds = subst (Comes steady terms) is (comes steady (term_in sight part) (terms_of sight parts)) in
      ap (option_map (λ total. steady +ℤ total)) (all_in values sight (part ∷ parts) stands all.0)
      ∙ ap Some ((Decides-int_eq (steady +ℤ net_of terms) (pos 0)).0 all.1)

  within_by : (balanced : Balanced) → solved_balance (Some steady) terms ≡ balanced → IsTrueOf values steady (part ∷ parts) → IsWithin values balanced
  within_by Idle is true_here = tt
  within_by Holds is true_here = tt
  within_by (Solves place value number) is true_here =
      solved_stands values sight (part ∷ parts) steady stands keep place value (values place)
      (solved_term steady terms place number value (shares_of sight (part ∷ parts) keep) is) true_here refl
  within_by (Conflicts place held solved) is true_here =
      let all : Comes steady terms (Conflicts place held solved) =
      subst (Comes steady terms) is (comes steady (term_in sight part) (terms_of sight parts)) in
      let sum : steady +ℤ net_of terms ≡ pos 0 =
      same_Some _ _ (sym (ap (option_map (λ total. steady +ℤ total)) (all_in values sight (part ∷ parts) stands all.0)) ∙ true_here) in
      both_ways (int_eq (steady +ℤ net_of terms) (pos 0)) all.1 ((Decides-int_eq (steady +ℤ net_of terms) (pos 0)).1 sum)

-- where one view's balance comes to what stands there, another's does too, or comes to nothing
within : (values : Values) (one other : Sight) (parts : Parts) (steady : ℤ) → KeepAll parts → Stands values one → Stands values other
    → StandsIn values (solved_balance (Some steady) (terms_of one parts)) → IsWithin values (solved_balance (Some steady) (terms_of other parts))
within values one other [] steady keep stands_one stands_other there = tt
within values one other (part ∷ parts) steady keep stands_one stands_other there =
    within_by values other part parts steady stands_other keep (solved_balance (Some steady) (terms_of other (part ∷ parts))) refl
    (true_by values one part parts steady stands_one keep (solved_balance (Some steady) (terms_of one (part ∷ parts))) refl there)

pub solved_within : (values : Values) (one other : Sight) (parts : Parts) (steady_one steady_other : Option ℤ) → KeepAll parts → Stands values one
    → Stands values other
    → Agree steady_one steady_other → StandsIn values (solved_balance steady_one (terms_of one parts))
    → IsWithin values (solved_balance steady_other (terms_of other parts))
solved_within values one other parts None steady_other keep stands_one stands_other agree there = absurd there
solved_within values one other parts (Some s) None keep stands_one stands_other agree there = tt
solved_within values one other parts (Some s) (Some t) keep stands_one stands_other agree there =
    subst (λ steady. IsWithin values (solved_balance (Some steady) (terms_of other parts))) agree
    (within values one other parts s keep stands_one stands_other there)
