-- The inflow for which a routed reach is solved.
use Rattle.rw_method.proofs.Common.{Bool, Given, Option, RoutedReach, Routes, Solves, Some, Takes, Term, View, ap, ap₂, arith, balanced_of}
use Rattle.rw_method.proofs.Common.{brought_by, given, gives_way_before, if◌then◌else◌, ints, least_routed, neg_ℤ, option_map, per_mille, pos}
use Rattle.rw_method.proofs.Common.{solved_balance, solves, subst, sym, unwrap_or, false, true, List, [], ◌∷◌, ℕ, ℤ, ◌+ℤ◌, ◌-ℤ◌, ◌<ℤ◌, ◌∙◌, ◌≡◌, ◌≤◌}
use Rattle.rw_method.proofs.LeastInflow.{least_of_routed, routed}
use Rattle.rw_method.proofs.SolvedTerm.{place_of, solves_of, value_of}

-- beside an outflow, what the inflow brings itself doesn't count
lacking : (own outflow : ℤ) → neg_ℤ (pos 0 +ℤ ((own +ℤ (neg_ℤ outflow +ℤ pos 0)) -ℤ own)) ≡ outflow
lacking own outflow = omega (arith, ints)

module _ (content : ℤ) (release : ℕ) where
  abbrev terms_with : Option Given → Option Given → List Term
  terms_with inflow outflow =
      record { place = 0; share = Routes content release; given = inflow } ∷ record { place = 1; share = Takes; given = outflow } ∷ []

  -- it is the least one
  solved_least : (inflow : Option Given) (outflow : Given) (value : ℤ) (number : ℕ)
      → solved_balance (Some (pos 0)) (terms_with inflow (Some outflow)) ≡ Solves 0 value number
      → value ≡ least_routed content release outflow.value
  solved_least inflow outflow value number is =
      by (gives_way_before inflow (Some outflow)) (solves_of (pos 0) first (second ∷ []) 0 number value is).1
    where
      first : Term
      first = record { place = 0; share = Routes content release; given = inflow }

      second : Term
      second = record { place = 1; share = Takes; given = Some outflow }

      by : (test : Bool) → solves (pos 0) (first ∷ second ∷ []) (if test then first else second) ≡ Solves 0 value number
          → value ≡ least_routed content release outflow.value
      by true is = sym (ap value_of is) ∙ ap (least_routed content release) (lacking (brought_by (Routes content release) inflow) outflow.value)
      by false is = absurd (let differ : 1 ≡ 0 = ap place_of is in omega (arith, differ))

-- what a solved inflow is, by the view
pub solved_inflow : (initial_content : ℤ) (release : ℕ) (view : View) (content : ℤ) (outflow : Given) (inflow : ℤ) (number : ℕ)
    → view.past ≡ Some content → given view 1 ≡ Some outflow
    → balanced_of (RoutedReach initial_content release) view ≡ Solves 0 inflow number → inflow ≡ least_routed content release outflow.value
solved_inflow initial_content release view content outflow inflow number past held is =
    solved_least content release (given view 0) outflow inflow number
    (ap₂ (λ p o. solved_balance (option_map (λ z. pos 0) p) (terms_with (unwrap_or p (pos 0)) release (given view 0) o)) (sym past) (sym held) ∙ is)

pub solved_exactly : (initial_content : ℤ) (release : ℕ) (view : View) (content : ℤ) (outflow : Given) (inflow : ℤ) (number : ℕ) → 1 ≤ release
    → release ≤ 1000 → view.past ≡ Some content
    → given view 1 ≡ Some outflow → balanced_of (RoutedReach initial_content release) view ≡ Solves 0 inflow number
    → per_mille (content +ℤ inflow) release ≡ outflow.value
solved_exactly initial_content release view content outflow inflow number some most past held is =
    ap (λ z. per_mille (content +ℤ z) release) (solved_inflow initial_content release view content outflow inflow number past held is)
    ∙ routed content release outflow.value some most

pub solved_least_of_all : (initial_content : ℤ) (release : ℕ) (view : View) (content : ℤ) (outflow : Given) (inflow : ℤ) (number : ℕ) (other : ℤ)
    → 1 ≤ release → view.past ≡ Some content
    → given view 1 ≡ Some outflow → balanced_of (RoutedReach initial_content release) view ≡ Solves 0 inflow number → other <ℤ inflow
    → per_mille (content +ℤ other) release <ℤ outflow.value
solved_least_of_all initial_content release view content outflow inflow number other some past held is less =
    least_of_routed content release outflow.value other some
    (subst (λ z. other <ℤ z) (solved_inflow initial_content release view content outflow inflow number past held is) less)
