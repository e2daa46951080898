-- What else is brought: the same wherever it is known, and known where more is.
use Rattle.rw_order.proofs.Common.{Bool, ByRule, IsSome, Kind, List, None, Option, PowerReservoir, Reach, Request, Reservoir, RoutedReach, Row, Some}
use Rattle.rw_order.proofs.Common.{View, WaterUser, agree, ap, ap₂, balance_of, both_ways, value_if_chosen, difference, evaporation_from}
use Rattle.rw_order.proofs.Common.{evaporation_of, false, known_value, pos, refl, same_Some, side_flows, subst, suc, known_sum, sym, true, zero, ℕ, ℤ}
use Rattle.rw_order.proofs.Common.{◌+◌, ◌∙◌, ◌≡◌}
use Rattle.rw_order.specs.Free.{is_free}
use Rattle.rw_order.proofs.Held.{IsSeenOf, IsWhole, Values, known_stands}

-- what is made of two values is there where both are
record IsStrict (op : Option ℤ → Option ℤ → Option ℤ) : Type 0 where
  first : (b : Option ℤ) → op None b ≡ None
  second : (a : Option ℤ) → op a None ≡ None

strict_sum : IsStrict known_sum
strict_sum = record { first = λ b. refl; second = none }
  where
    none : (a : Option ℤ) → known_sum a None ≡ None
    none None = refl
    none (Some a) = refl

strict_difference : IsStrict difference
strict_difference = record { first = λ b. refl; second = none }
  where
    none : (a : Option ℤ) → difference a None ≡ None
    none None = refl
    none (Some a) = refl

strict_lost : (rows : List Row) → IsStrict (evaporation_from rows)
strict_lost rows = record { first = λ b. refl; second = none }
  where
    none : (a : Option ℤ) → evaporation_from rows a None ≡ None
    none None = refl
    none (Some a) = refl

-- ---- what holds between what two views know holds between what else is brought

module _ (R : Option ℤ → Option ℤ → Type 0) (same : (a : Option ℤ) → R a a)
    (both : (op : Option ℤ → Option ℤ → Option ℤ) → IsStrict op → (a b c d : Option ℤ) → R a b → R c d → R (op a c) (op b d)) (one other : View)
    (knows : (place : ℕ) → R (known_value one place) (known_value other place)) (past : R one.past other.past) where
  of_chosen : (choice : Bool) (place : ℕ) → R (value_if_chosen choice one place) (value_if_chosen choice other place)
  of_chosen true place = knows place
  of_chosen false place = same (Some (pos 0))

  of_sides : (place : ℕ) (local_inflow diversion return_flow : Bool)
      → R (side_flows one place local_inflow diversion return_flow) (side_flows other place local_inflow diversion return_flow)
  of_sides place local_inflow diversion return_flow =
      both difference strict_difference _ _ _ _
      (both known_sum strict_sum _ _ _ _ (of_chosen local_inflow place) (of_chosen return_flow (place + 2))) (of_chosen diversion (place + 1))

  of_evaporation : (evaporation : Bool) (table : Option (List Row))
      → R (evaporation_of evaporation table one) (evaporation_of evaporation table other)
  of_evaporation evaporation None = same (Some (pos 0))
  of_evaporation true (Some rows) = both (evaporation_from rows) (strict_lost rows) _ _ _ _ past (knows 7)
  of_evaporation false (Some rows) = same (Some (pos 0))

  of_steady : (kind : Kind) → is_free kind ≡ true → R (balance_of kind one).steady (balance_of kind other).steady
  of_steady (Reach zero history local_inflow diversion return_flow) free = of_sides 2 local_inflow diversion return_flow
  of_steady (Reach (suc lag) history local_inflow diversion return_flow) free =
      both known_sum strict_sum _ _ _ _ past (of_sides 2 local_inflow diversion return_flow)
  of_steady (Reservoir initial_storage table local_inflow diversion return_flow evaporation max_release) free =
      both difference strict_difference _ _ _ _
      (both known_sum strict_sum _ _ _ _ past (of_sides 4 local_inflow diversion return_flow)) (of_evaporation evaporation table)
  of_steady (WaterUser depletion Request) free = knows 0
  of_steady (WaterUser depletion ByRule) free = knows 1
  of_steady (PowerReservoir initial_storage table max_release tailwater power) free = absurd (both_ways false refl free)
  of_steady (RoutedReach initial_content release) free = absurd (both_ways false refl free)
  of_steady kind free = same (Some (pos 0))

-- ---- both are the same where both are there

abbrev pub Agree : Option ℤ → Option ℤ → Type 0
Agree None b = Unit {0}
Agree (Some a) None = Unit {0}
Agree (Some a) (Some b) = a ≡ b

agree_same : (a : Option ℤ) → Agree a a
agree_same None = tt
agree_same (Some a) = refl

agree_none : (a : Option ℤ) → Agree a None
agree_none None = tt
agree_none (Some a) = tt

agree_both : (op : Option ℤ → Option ℤ → Option ℤ) → IsStrict op → (a b c d : Option ℤ) → Agree a b → Agree c d → Agree (op a c) (op b d)
agree_both op strict None b c d x y = subst (λ e. Agree e (op b d)) (sym (strict.first c)) tt
agree_both op strict (Some a) None c d x y = subst (Agree (op (Some a) c)) (sym (strict.first d)) (agree_none (op (Some a) c))
agree_both op strict (Some a) (Some b) None d x y = subst (λ e. Agree e (op (Some b) d)) (sym (strict.second (Some a))) tt
agree_both op strict (Some a) (Some b) (Some c) None x y =
    subst (Agree (op (Some a) (Some c))) (sym (strict.second (Some b))) (agree_none (op (Some a) (Some c)))
agree_both op strict (Some a) (Some b) (Some c) (Some d) x y =
    subst (Agree (op (Some a) (Some c))) (ap₂ (λ u v. op (Some u) (Some v)) x y) (agree_same (op (Some a) (Some c)))

agree_found : (one other found : Option ℤ) → ((value : ℤ) → one ≡ Some value → found ≡ Some value)
    → ((value : ℤ) → other ≡ Some value → found ≡ Some value)
    → Agree one other
agree_found None other found f g = tt
agree_found (Some a) None found f g = tt
agree_found (Some a) (Some b) found f g = same_Some _ _ (sym (f a refl) ∙ g b refl)

pub agree_is : (a b : Option ℤ) → Agree a b → IsSome a → IsSome b → a ≡ b
agree_is None b agree one other = absurd (both_ways false refl one)
agree_is (Some a) None agree one other = absurd (both_ways false refl other)
agree_is (Some a) (Some b) agree one other = ap Some agree

-- two views of the same values
module _ (values : Values) (past : Option ℤ) (one other : View) (seen_one : IsSeenOf values past one) (seen_other : IsSeenOf values past other) where
  agree_known : (place : ℕ) → Agree (known_value one place) (known_value other place)
  agree_known place = agree_found (known_value one place) (known_value other place) (values place)
      (λ value is. known_stands values past one place value seen_one is) (λ value is. known_stands values past other place value seen_other is)

  pub agree_past : Agree one.past other.past
  agree_past = agree_found one.past other.past past seen_one.before seen_other.before

  pub agree_evaporation : (evaporation : Bool) (table : Option (List Row))
      → Agree (evaporation_of evaporation table one) (evaporation_of evaporation table other)
  agree_evaporation = of_evaporation Agree agree_same agree_both one other agree_known agree_past

  pub agree_steady : (kind : Kind) → is_free kind ≡ true → Agree (balance_of kind one).steady (balance_of kind other).steady
  agree_steady = of_steady Agree agree_same agree_both one other agree_known agree_past

-- ---- what is there is there in the other too

abbrev pub Carries : Option ℤ → Option ℤ → Type 0
Carries None b = Unit {0}
Carries (Some a) b = b ≡ Some a

carry_same : (a : Option ℤ) → Carries a a
carry_same None = tt
carry_same (Some a) = refl

carry_both : (op : Option ℤ → Option ℤ → Option ℤ) → IsStrict op → (a b c d : Option ℤ) → Carries a b → Carries c d → Carries (op a c) (op b d)
carry_both op strict None b c d x y = subst (λ e. Carries e (op b d)) (sym (strict.first c)) tt
carry_both op strict (Some a) b None d x y = subst (λ e. Carries e (op b d)) (sym (strict.second (Some a))) tt
carry_both op strict (Some a) b (Some c) d x y = subst (Carries (op (Some a) (Some c))) (sym (ap₂ op x y)) (carry_same (op (Some a) (Some c)))

carry_found : (a b : Option ℤ) → ((value : ℤ) → a ≡ Some value → b ≡ Some value) → Carries a b
carry_found None b f = tt
carry_found (Some a) b f = f a refl

-- to the view that knows all that another one does
pub carry_steady : (values : Values) (past : Option ℤ) (one other : View) → IsWhole values past one → IsSeenOf values past other → (kind : Kind)
    → is_free kind ≡ true
    → Carries (balance_of kind other).steady (balance_of kind one).steady
carry_steady values past one other whole seen =
    of_steady Carries carry_same carry_both other one
    (λ place. carry_found (known_value other place) (known_value one place)
    (λ value is. (whole.now place value (known_stands values past other place value seen is)).1))
    (carry_found other.past one.past (λ value is. whole.before value (seen.before value is)))
