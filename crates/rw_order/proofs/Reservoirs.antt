-- What a reservoir puts beside the solved term, and that it can be held.
use Rattle.rw_order.proofs.Common.{AllByRecursion, Balanced, Bool, Given, IsSome, Kind, List, None, Option, Put, Reservoir, Row, Solved, Some, Term}
use Rattle.rw_order.proofs.Common.{View, [], and_parts, ap, ap₂, arith, balance_of, balanced_of, basis_of, both_ways, can_hold, contents_by}
use Rattle.rw_order.proofs.Common.{difference, disagreement, evaporation_of, evaporation_put, false, fault_of_basis, fault_of_contents, fault_of_past}
use Rattle.rw_order.proofs.Common.{fits, given, if◌then◌else◌, int_min, is_bounded, known_after, level_puts, nat_tests, none-some, or_else, put}
use Rattle.rw_order.proofs.Common.{put_found, refl, release_puts, same_Some, solved_balance, side_flows, solved_put, subst, known_sum, sym, true}
use Rattle.rw_order.proofs.Common.{volume_of}
use Rattle.rw_order.proofs.Common.{ℕ, ℤ, ◌&&◌, ◌++◌, ◌-ℤ◌, ◌==◌, ◌∙◌, ◌∷◌, ◌≡◌}
use Rattle.rw_order.proofs.Lists.{all_left, all_right}
use Rattle.rw_order.proofs.Held.{AreHeld, AreZero, FitsThere, IsSeenOf, Stands, Values, given_stands}
use Rattle.rw_order.proofs.Terms.{balanced_is, store_sight, terms_of}
use Rattle.rw_order.proofs.Agreeing.{agree_evaporation, agree_is, agree_past}
use Rattle.rw_order.proofs.Within.{IsWithin, StandsIn}
use Rattle.rw_order.proofs.Missing.{is_idle}
use Rattle.rw_order.proofs.Judged.{Answered, rest_of}
use Rattle.rw_order.proofs.Levels.{AreLevelled, Zero, basis_both, beside_of, contents_stand, hold_if, level_stays, store_parts, store_stands}
use Rattle.rw_order.proofs.Levels.{store_zero, third_solved, volume_held, zero_at}
use Rattle.rw_base.proofs.Lists.{all_append, weaker_all}

or_none : (a b : Option Solved) → or_else a b ≡ None → (a ≡ None) × (b ≡ None)
or_none None b e = (refl, e)
or_none (Some a) b e = absurd (none-some _ (sym e))

both_there : (a b : Option ℤ) → IsSome (difference a b) → IsSome a × IsSome b
both_there None b some = absurd (both_ways false refl some)
both_there (Some a) None some = absurd (both_ways false refl some)
both_there (Some a) (Some b) some = (refl, refl)

first_there : (a b : Option ℤ) → IsSome (known_sum a b) → IsSome a
first_there None b some = some
first_there (Some a) b some = refl

-- where a balance came to something, what else is brought is known
steady_there : (steady : Option ℤ) (terms : List Term) → is_idle (solved_balance steady terms) ≡ false → IsSome steady
steady_there None terms some = absurd (both_ways true some refl)
steady_there (Some steady) terms some = refl

release_stays : (values : Values) (most : Option ℤ) (one other : Given) → one.value ≡ other.value → AreHeld values (release_puts most one)
    → AreHeld values (release_puts most other)
release_stays values None one other same held = tt
release_stays values (Some most) one other same held =
    subst (λ v. (values 9 ≡ Some (int_min v most)) × ((values 10 ≡ Some (v -ℤ int_min v most)) × Unit {0})) same held

module _ (initial_storage : ℤ) (table : Option (List Row)) (local_inflow diversion return_flow evaporation : Bool) (max_release : Option ℤ)
    (values : Values)
    (past : Option ℤ) (one other : View) (seen_one : IsSeenOf values past one) (seen_other : IsSeenOf values past other)
    (zeros_one : AreZero (given one))
    (zeros_other : AreZero (given other)) (levelled : AreLevelled one other) where
  abbrev kind : Kind
  kind = Reservoir initial_storage table local_inflow diversion return_flow evaporation max_release

  abbrev lost : View → Option ℤ
  lost view = evaporation_of evaporation table view

  abbrev is_there : Put → Type 0
  is_there put = values put.place ≡ Some put.value

  -- the storage that stands there can be held, by what gives the contents
  holds_by : (storage elevation : Option Given) (balanced : Balanced) → given one 2 ≡ storage → given one 3 ≡ elevation → Zero storage
      → solved_balance (balance_of kind one).steady (terms_of (store_sight table one) store_parts) ≡ balanced → StandsIn values balanced
      → fault_of_basis table (basis_of storage elevation) ≡ None → AreHeld values (level_puts table storage elevation balanced)
      → AllByRecursion (λ (put : Put). put.place ≡ 2 → can_hold table put.value ≡ true)
      (solved_put balanced ++ level_puts table storage elevation balanced)
      → (value : ℤ) → values 2 ≡ Some value → can_hold table value ≡ true
  holds_by (Some storage) None balanced is_two is_three zero_storage is stands fine held holds value there =
      subst (λ v. can_hold table v ≡ true) (same_Some _ _ (sym (given_stands values past one seen_one 2 storage is_two) ∙ there))
      (hold_if (can_hold table storage.value) _ fine)
  holds_by (Some storage) (Some elevation) balanced is_two is_three zero_storage is stands fine held holds value there =
      subst (λ v. can_hold table v ≡ true) (same_Some _ _ (sym (given_stands values past one seen_one 2 storage is_two) ∙ there))
      (hold_if (can_hold table storage.value) _ (sym (ap (fault_of_basis table) (basis_both storage elevation zero_storage)) ∙ fine))
  holds_by None (Some elevation) balanced is_two is_three zero_storage is stands fine held holds value there =
      let third : store_sight table one 2 ≡ contents_by table (basis_of None (Some elevation)) =
      ap₂ (λ a b. contents_by table (basis_of a b)) is_two is_three in
      let zeros = store_zero table one zeros_one in
      let beside_held : AreHeld values (put_found 2 (volume_of table elevation.value) elevation.number) =
      beside_of table None (Some elevation) tt is_there (store_sight table one) (balance_of kind one).steady balanced zeros third is held in
      let beside_holds : AllByRecursion (λ (put : Put). put.place ≡ 2 → can_hold table put.value ≡ true)
      (put_found 2 (volume_of table elevation.value) elevation.number) =
      beside_of table None (Some elevation) tt (λ (put : Put). put.place ≡ 2 → can_hold table put.value ≡ true) (store_sight table one)
      (balance_of kind one).steady balanced zeros third
      is (all_right (λ (put : Put). put.place ≡ 2 → can_hold table put.value ≡ true) (solved_put balanced)
      (level_puts table None (Some elevation) balanced) holds) in
      volume_held values table (volume_of table elevation.value) elevation.number _ value fine beside_held beside_holds there
  holds_by None None balanced is_two is_three zero_storage is stands fine held holds value there =
      let third : store_sight table one 2 ≡ None = ap₂ (λ a b. contents_by table (basis_of a b)) is_two is_three in
      let solved_one = third_solved table None None tt (store_sight table one) (balance_of kind one).steady values balanced is stands third in
      let two : values 2 ≡ Some solved_one.0 = subst (StandsIn values) solved_one.2 stands in
      let own =
      all_left (λ (put : Put). put.place ≡ 2 → can_hold table put.value ≡ true) (solved_put balanced)
      (level_puts table None None balanced) holds in
      let first : AllByRecursion (λ (put : Put). put.place ≡ 2 → can_hold table put.value ≡ true) (put 2 solved_one.0 solved_one.1 ∷ []) =
      subst (λ b. AllByRecursion (λ (put : Put). put.place ≡ 2 → can_hold table put.value ≡ true) (solved_put b)) solved_one.2 own in
      subst (λ v. can_hold table v ≡ true) (same_Some _ _ (sym two ∙ there)) (first.0 refl)

  fit_holds : (place : ℕ) (value : ℤ) (rest : Bool) → ((if place == 2 then can_hold table value else true) && rest) ≡ true → place ≡ 2
      → can_hold table value ≡ true
  fit_holds place value rest fit at =
      let here : (place == 2) ≡ true = grind (arith, nat_tests, at) in
      (and_parts (can_hold table value) rest (sym (ap (λ test. (if test then can_hold table value else true) && rest) here) ∙ fit)).0

  module _ (answered : Answered kind values one) where
    is_settled : solved_balance (balance_of kind one).steady (terms_of (store_sight table one) store_parts) ≡ balanced_of kind one
    is_settled = sym (balanced_is kind one refl)

    level_held : AreHeld values (level_puts table (given one 2) (given one 3) (balanced_of kind one))
    level_held = all_left is_there (level_puts table (given one 2) (given one 3) (balanced_of kind one)) _ answered.held

    basis_fine : fault_of_basis table (basis_of (given one 2) (given one 3)) ≡ None
    basis_fine = (or_none _ _ (or_none _ _ answered.fine).1).0

    third_there : (held : Given) → contents_by table (basis_of (given one 2) (given one 3)) ≡ Some held → values 2 ≡ Some held.value
    third_there held is =
        contents_stand values table one (given one 2) (given one 3) held (given_stands values past one seen_one) refl
        (zero_at (given one) 2 zeros_one) basis_fine
        (beside_of table (given one 2) (given one 3) (zero_at (given one) 2 zeros_one) is_there (store_sight table one) (balance_of kind one).steady
        (balanced_of kind one)
        (store_zero table one zeros_one) refl is_settled level_held)
        is

    pub one_stands : Stands values (store_sight table one)
    one_stands = store_stands values table one (given_stands values past one seen_one) third_there

    pub other_stands : Stands values (store_sight table other)
    other_stands =
        store_stands values table other (given_stands values past other seen_other)
        (λ held is. third_there held (ap₂ (λ a b. contents_by table (basis_of a b)) levelled.storage levelled.elevation ∙ is))

    holds : (value : ℤ) → values 2 ≡ Some value → can_hold table value ≡ true
    holds =
        let level = level_puts table (given one 2) (given one 3) (balanced_of kind one) in
        let lost_puts = evaporation_put evaporation (lost one) ++ release_puts max_release (known_after one (balanced_of kind one) 1) in
        let fit_each = weaker_all (λ (put : Put). fits kind one put ≡ true) (λ (put : Put). put.place ≡ 2 → can_hold table put.value ≡ true)
        (solved_put (balanced_of kind one) ++ (level ++ lost_puts)) (λ put fit. fit_holds put.place put.value (is_bounded one put) fit)
        answered.fit_all in
        let fit_rest =
        all_right (λ (put : Put). put.place ≡ 2 → can_hold table put.value ≡ true) (solved_put (balanced_of kind one)) (level ++ lost_puts)
        fit_each in
        holds_by (given one 2) (given one 3) (balanced_of kind one) refl refl (zero_at (given one) 2 zeros_one) is_settled answered.stands
        basis_fine level_held
        (all_append (λ (put : Put). put.place ≡ 2 → can_hold table put.value ≡ true) (solved_put (balanced_of kind one)) level
        (all_left (λ (put : Put). put.place ≡ 2 → can_hold table put.value ≡ true) (solved_put (balanced_of kind one)) (level ++ lost_puts) fit_each)
        (all_left (λ (put : Put). put.place ≡ 2 → can_hold table put.value ≡ true) level lost_puts fit_rest))

    pub fits_stand : FitsThere values (is_bounded other) → FitsThere values (fits kind other)
    fits_stand can place value number there = by (place == 2) refl
      where
        by : (test : Bool) → (place == 2) ≡ test
            → ((if place == 2 then can_hold table value else true) && is_bounded other (put place value number)) ≡ true
        by true same =
            let at : place ≡ 2 = grind (arith, nat_tests, same) in
            rw (same, holds value (subst (λ p. values p ≡ Some value) at there)) (can place value number there)
        by false same = rw same (can place value number there)

    -- what is put beside the solved term stays the same, and nothing is wrong with the contents
    pub rest_stays : IsWithin values (balanced_of kind other) → is_idle (balanced_of kind one) ≡ false → is_idle (balanced_of kind other) ≡ false
        → (known_after one (balanced_of kind one) 1).value ≡ (known_after other (balanced_of kind other) 1).value
        → (fault_of_contents kind other ≡ None) × AreHeld values (rest_of kind other (balanced_of kind other))
    rest_stays within some_one some_other same_outflow =
        let known_one = both_there (known_sum one.past (side_flows one 4 local_inflow diversion return_flow)) (lost one)
        (steady_there (balance_of kind one).steady (balance_of kind one).terms some_one) in
        let known_other = both_there (known_sum other.past (side_flows other 4 local_inflow diversion return_flow)) (lost other)
        (steady_there (balance_of kind other).steady (balance_of kind other).terms some_other) in
        let same_past : one.past ≡ other.past =
        agree_is one.past other.past (agree_past values past one other seen_one seen_other) (first_there one.past _ known_one.0)
        (first_there other.past _ known_other.0) in
        let same_loss : lost one ≡ lost other =
        agree_is (lost one) (lost other) (agree_evaporation values past one other seen_one seen_other evaporation table) known_one.1
        known_other.1 in
        let same_fault : fault_of_contents kind one ≡ fault_of_contents kind other =
        ap (λ p. or_else (fault_of_past evaporation table p)
        (or_else (fault_of_basis table (basis_of (given one 2) (given one 3))) (disagreement table (given one 2) (given one 3)))) same_past
        ∙ ap₂ (λ a b. or_else (fault_of_past evaporation table other.past) (or_else (fault_of_basis table (basis_of a b)) (disagreement table a b)))
        levelled.storage levelled.elevation in
        let third_other : store_sight table other 2 ≡ contents_by table (basis_of (given one 2) (given one 3)) =
        ap₂ (λ a b. contents_by table (basis_of a b)) (sym levelled.storage) (sym levelled.elevation) in
        let level =
        level_stays table (given one 2) (given one 3) (zero_at (given one) 2 zeros_one) values (store_sight table one) (store_sight table other)
        (balance_of kind one).steady (balance_of kind other).steady (balanced_of kind one) (balanced_of kind other) (store_zero table one zeros_one)
        (store_zero table other zeros_other)
        refl third_other is_settled (sym (balanced_is kind other refl)) answered.stands within level_held in
        let level_other : AreHeld values (level_puts table (given other 2) (given other 3) (balanced_of kind other)) =
        subst (λ a. AreHeld values (level_puts table a (given other 3) (balanced_of kind other))) levelled.storage
        (subst (λ b. AreHeld values (level_puts table (given one 2) b (balanced_of kind other))) levelled.elevation level) in
        let rest_one = all_right is_there (level_puts table (given one 2) (given one 3) (balanced_of kind one)) _ answered.held in
        let lost_one : AreHeld values (evaporation_put evaporation (lost one)) =
        all_left is_there (evaporation_put evaporation (lost one)) _ rest_one in
        let lost_other : AreHeld values (evaporation_put evaporation (lost other)) =
        subst (λ a. AreHeld values (evaporation_put evaporation a)) same_loss lost_one in
        let released =
        release_stays values max_release (known_after one (balanced_of kind one) 1) (known_after other (balanced_of kind other) 1) same_outflow
        (all_right is_there (evaporation_put evaporation (lost one)) _ rest_one) in
        (sym same_fault ∙ answered.fine, all_append is_there _ _ level_other (all_append is_there _ _ lost_other released))
