-- What a dispatch answers from less than stands in its places, whatever the kind.
use Rattle.rw_order.proofs.Common.{Balanced, ByRule, Canal, Content, Given, Idle, Kind, List, None, Option, PowerReservoir, Put, Puts, Request}
use Rattle.rw_order.proofs.Common.{Reservoir, RoutedReach, Some, View, WaterUser, [], answered, ap, ap₂, balance_of, balanced_of, both_ways, false}
use Rattle.rw_order.proofs.Common.{fault_of_contents, fits, given, held_by, inl, inr, is_bounded, known, known_after, option_map, per_mille, refl}
use Rattle.rw_order.proofs.Common.{same_Some, solved_balance, solve_of, subst, sym, true, user_puts, ℕ, ℤ, ◌-ℤ◌, ◌∙◌, ◌≡◌}
use Rattle.rw_order.specs.Free.{is_free}
use Rattle.rw_order.proofs.Held.{AnswersWithin, AreHeld, AreZero, FitsThere, IsSeenOf, Stands, Values, given_stands}
use Rattle.rw_order.proofs.Terms.{balanced_is, parts_of, sight_of, terms_of}
use Rattle.rw_order.proofs.Agreeing.{agree_steady}
use Rattle.rw_order.proofs.Within.{IsWithin, KeepAll, StandsIn, keep_parts, solved_within}
use Rattle.rw_order.proofs.Missing.{IsPart, is_idle, stands_after}
use Rattle.rw_order.proofs.Judged.{Answered, answered_of, answers_by, rest_of}
use Rattle.rw_order.proofs.Levels.{AreLevelled}
use Rattle.rw_order.proofs.Reservoirs.{fits_stand, one_stands, other_stands, rest_stays}

-- of a reservoir Storage and PoolElevation are given alike
abbrev pub AreLevelledOf : Kind → View → View → Type 0
AreLevelledOf (Reservoir initial_storage table local_inflow diversion return_flow evaporation max_release) one other = AreLevelled one other
AreLevelledOf kind one other = Unit {0}

-- what a balance came to stands there, or it came to nothing; and it came to something
stands_is : (values : Values) (balanced : Balanced) → StandsIn values balanced → IsWithin values balanced × (is_idle balanced ≡ false)
stands_is values Idle stands = absurd stands
stands_is values balanced stands = (stands, refl)

user_stays : (values : Values) (depletion : ℕ) (one other : Given) → one.value ≡ other.value → AreHeld values (user_puts depletion one)
    → AreHeld values (user_puts depletion other)
user_stays values depletion one other same held =
    subst (λ v. (values 2 ≡ Some (per_mille v depletion)) × ((values 3 ≡ Some (v -ℤ per_mille v depletion)) × Unit {0})) same held

-- what stands in a place once the balance of one view of these values is solved
module _ (values : Values) (past : Option ℤ) (kind : Kind) (view : View) (free : is_free kind ≡ true) (keep : KeepAll (parts_of kind))
    (seen : IsSeenOf values past view)
    (within : IsWithin values (balanced_of kind view)) (some : is_idle (balanced_of kind view) ≡ false) where
  after_kind : (place : ℕ) → sight_of kind view place ≡ given view place → IsPart place (parts_of kind)
      → values place ≡ Some (known_after view (balanced_of kind view) place).value
  after_kind place own part =
      stands_after values past view (sight_of kind view) (parts_of kind) (balance_of kind view).steady place keep seen own part
      (balanced_of kind view)
      (sym (balanced_is kind view free)) within some

-- the diversion of a user that a rule supplies is known
rule_after : (values : Values) (past : Option ℤ) (view : View) (content : Option Content) → IsSeenOf values past view → known view 1 ≡ content
    → is_idle (solved_balance (option_map (λ (c : Content). c.value) content) []) ≡ false
    → values 1 ≡ Some (known_after view (solved_balance (option_map (λ (c : Content). c.value) content) []) 1).value
rule_after values past view None seen is some = absurd (both_ways true some refl)
rule_after values past view (Some content) seen is some = seen.now 1 content is ∙ ap (λ c. Some (held_by c).value) (sym is)

module _ (values : Values) (past : Option ℤ) (one other : View) (seen_one : IsSeenOf values past one) (seen_other : IsSeenOf values past other) where
  -- both views come to the same value in a place
  same_after : (kind : Kind) (place : ℕ) → is_free kind ≡ true → KeepAll (parts_of kind) → sight_of kind one place ≡ given one place
      → sight_of kind other place ≡ given other place
      → IsPart place (parts_of kind) → StandsIn values (balanced_of kind one) → IsWithin values (balanced_of kind other)
      → is_idle (balanced_of kind other) ≡ false
      → (known_after one (balanced_of kind one) place).value ≡ (known_after other (balanced_of kind other) place).value
  same_after kind place free keep own_one own_other part stands within some =
      let is = stands_is values (balanced_of kind one) stands in
      same_Some _ _ (sym (after_kind values past kind one free keep seen_one is.0 is.1 place own_one part)
      ∙ after_kind values past kind other free keep seen_other within some place own_other part)

  module _ (zeros_one : AreZero (given one)) (zeros_other : AreZero (given other)) where
    sights_stand : (kind : Kind) → AreLevelledOf kind one other → Answered kind values one
        → Stands values (sight_of kind one) × Stands values (sight_of kind other)
    sights_stand (Reservoir initial_storage table local_inflow diversion return_flow evaporation max_release) levelled answered = (
      one_stands initial_storage table local_inflow diversion return_flow evaporation max_release values past one other seen_one seen_other zeros_one
          zeros_other levelled answered,
      other_stands initial_storage table local_inflow diversion return_flow evaporation max_release values past one other seen_one seen_other
          zeros_one zeros_other levelled answered,
    )
    sights_stand kind levelled answered = (given_stands values past one seen_one, given_stands values past other seen_other)

    all_fit : (kind : Kind) → is_free kind ≡ true → AreLevelledOf kind one other → Answered kind values one → FitsThere values (is_bounded other)
        → FitsThere values (fits kind other)
    all_fit (Reservoir initial_storage table local_inflow diversion return_flow evaporation max_release) free levelled answered can =
        fits_stand initial_storage table local_inflow diversion return_flow evaporation max_release values past one other seen_one seen_other
        zeros_one zeros_other levelled answered can
    all_fit (PowerReservoir initial_storage table max_release tailwater power) free levelled answered can = absurd (both_ways false refl free)
    all_fit kind free levelled answered can = can

    rest_stands : (kind : Kind) → is_free kind ≡ true → KeepAll (parts_of kind) → AreLevelledOf kind one other → Answered kind values one
        → IsWithin values (balanced_of kind other)
        → is_idle (balanced_of kind other) ≡ false
        → (fault_of_contents kind other ≡ None) × AreHeld values (rest_of kind other (balanced_of kind other))
    rest_stands (Reservoir initial_storage table local_inflow diversion return_flow evaporation max_release) free keep levelled answered within some =
        let kind : Kind = Reservoir initial_storage table local_inflow diversion return_flow evaporation max_release in
        rest_stays initial_storage table local_inflow diversion return_flow evaporation max_release values past one other seen_one seen_other
        zeros_one zeros_other levelled answered
        within (stands_is values (balanced_of kind one) answered.stands).1 some
        (same_after kind 1 free keep refl refl (inr (inl refl)) answered.stands within some)
    rest_stands (WaterUser depletion Request) free keep levelled answered within some =
        let kind : Kind = WaterUser depletion Request in (
          refl,
          user_stays values depletion (known_after one (balanced_of kind one) 1) (known_after other (balanced_of kind other) 1)
              (same_after kind 1 free keep refl refl (inl refl) answered.stands within some) answered.held,
        )
    rest_stands (WaterUser depletion ByRule) free keep levelled answered within some =
        let kind : Kind = WaterUser depletion ByRule in
        let there = stands_is values (balanced_of kind one) answered.stands in (
          refl,
          user_stays values depletion (known_after one (balanced_of kind one) 1) (known_after other (balanced_of kind other) 1)
              (same_Some _ _ (sym (rule_after values past one (known one 1) seen_one refl there.1)
              ∙ rule_after values past other (known other 1) seen_other refl some)) answered.held,
        )
    rest_stands (Canal seepage) free keep levelled answered within some =
        let kind : Kind = Canal seepage in
        let inflow = same_after kind 0 free keep refl refl (inl refl) answered.stands within some in
        let outflow = same_after kind 1 free keep refl refl (inr (inl refl)) answered.stands within some in
        (refl, (answered.held.0 ∙ ap Some (ap₂ (λ a b. a -ℤ b) inflow outflow), tt))
    rest_stands (PowerReservoir initial_storage table max_release tailwater power) free keep levelled answered within some =
        absurd (both_ways false refl free)
    rest_stands (RoutedReach initial_content release) free keep levelled answered within some = absurd (both_ways false refl free)
    rest_stands kind free keep levelled answered within some = (refl, tt)

    -- where one view's puts stand in the places, another view of these values answers nothing, or puts that stand there
    pub answers_within : (kind : Kind) (puts : List Put) → is_free kind ≡ true → AreLevelledOf kind one other → FitsThere values (is_bounded other)
        → solve_of kind one ≡ Puts puts → AreHeld values puts → AnswersWithin values (solve_of kind other)
    answers_within kind puts free levelled can e held =
        let keep = keep_parts kind free in
        let answered = answered_of kind values one puts free e held in
        let sights = sights_stand kind levelled answered in
        let stands : StandsIn values (solved_balance (balance_of kind one).steady (terms_of (sight_of kind one) (parts_of kind))) =
        subst (StandsIn values) (balanced_is kind one free) answered.stands in
        let within : IsWithin values (balanced_of kind other) =
        subst (IsWithin values) (sym (balanced_is kind other free))
        (solved_within values (sight_of kind one) (sight_of kind other) (parts_of kind) (balance_of kind one).steady (balance_of kind other).steady
        keep sights.0 sights.1
        (agree_steady values past one other seen_one seen_other kind free) stands) in
        answers_by kind values other free (all_fit kind free levelled answered can) within
        (λ some. rest_stands kind free keep levelled answered within some)
