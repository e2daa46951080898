-- Where a dispatch answers puts, the balance of what is held then is true, and each derived slot holds what is derived: every kind but the
-- reservoir.
use Rattle.rw_method.proofs.Common.{AllByRecursion, Balanced, Bifurcation, Bool, Brings, ByRule, Canal, Conflicts, Confluence, Contains, Content}
use Rattle.rw_method.proofs.Common.{Conveys, Gage, Holds, Idle, IsKind, Kind, List, None, Option, Put, Reach, Request, RoutedReach, Solves, Some}
use Rattle.rw_method.proofs.Common.{Supply, Takes, View, WaterUser, [], ap, ap₂, arith, balanced_of, value_if_chosen, content_before, content_put}
use Rattle.rw_method.proofs.Common.{difference, false, given, held_by, if◌then◌else◌, inl, inr, ints, known, known_after, known_value, nat_tests}
use Rattle.rw_method.proofs.Common.{none-some, option_map, per_mille, pos, refl, same_Some, seepage_put, side_flows, solved_put, subst, suc}
use Rattle.rw_method.proofs.Common.{known_sum, sym, true, unwrap_or, user_puts, zero, ℕ, ℤ, ◌+ℤ◌, ◌+◌, ◌-ℤ◌, ◌<◌, ◌==◌, ◌∙◌, ◌∷◌, ◌≡◌, ◌≢◌, ◌≤◌}
use Rattle.rw_method.specs.Balanced.{IsBalanced, IsHeld, IsUsed}
use Rattle.rw_method.specs.Passing.{IsAfterOwn}
use Rattle.rw_method.proofs.Answering.{Answered}
use Rattle.rw_method.proofs.LeftKept.{AreUpTo, low_solving, solved_up_to}
use Rattle.rw_method.proofs.Leaving.{DispatchFacts, IsBase, Solving, place_in}
use Rattle.rw_method.proofs.Netting.{IsAgreed, net_zero, put_value, rest_value}
use Rattle.rw_method.proofs.Among.{Among, all_at, among, among_right, contains}
use Rattle.rw_method.proofs.PlainKinds.{base_in, one_sort, solved_at}
use Rattle.rw_method.proofs.BalanceFacts.{balanced_code}
use Rattle.rw_method.proofs.Terms.{Sort, given_as, given_in, routed, shape_of, slot, some_value, sort}
use Rattle.rw_base.proofs.Lists.{all_append}

-- ---- what isn't put stays

pub slot_agreed : (old new : View) (s : Sort) → s.source ≡ slot → known new s.place ≡ known old s.place → IsAgreed old new s
slot_agreed old new s source still g is =
    let plain : given_in old s ≡ given old s.place =
    ap (λ source. given_in old (record { share = s.share; place = s.place; source = source })) source in
    let seen = given_as old s.place g (sym plain ∙ is) in
    ap (option_map (λ (content : Content). content.value)) (still ∙ seen.there) ∙ ap Some seen.value

module _ (kind : Kind) (old : View) (puts : List Put) (is : Answered kind old puts) (facts : DispatchFacts kind old puts) (new : View)
    (after : IsAfterOwn old new puts) where
  pub plain_agreed : AllByRecursion (λ (s : Sort). s.source ≡ slot) (shape_of kind) → (s : Sort) → Among (shape_of kind) s
      → ((solving : Solving kind old) → s.place ≢ solving.place) → IsAgreed old new s
  plain_agreed slots s has apart =
      let source = all_at (λ (s : Sort). s.source ≡ slot) (shape_of kind) s slots has in
      slot_agreed old new s source (after.rest s.place (facts.untouched s has source apart))

  -- what is known of a slot once the balance is solved is what it holds then
  pub after_value : (on : ℕ) → IsBase old (balanced_of kind old) on
      → (((solving : Solving kind old) → on ≢ solving.place) → (put : Put) → Contains puts put → put.place ≢ on)
      → known_value new on ≡ Some (known_after old (balanced_of kind old) on).value
  after_value on base untouched = by (balanced_of kind old) refl base
    where
      still : ((solving : Solving kind old) → on ≢ solving.place) → (content : Content) → known old on ≡ Some content
          → known_value new on ≡ Some (held_by (known old on)).value
      still none content there =
          rest_value old new puts after on (untouched none) ∙ ap (option_map (λ (content : Content). content.value)) there
          ∙ ap (λ held. Some (held_by held).value) (sym there)

      solved_here : (place : ℕ) (value : ℤ) (number : ℕ) → balanced_of kind old ≡ Solves place value number → known_value new place ≡ Some value
      solved_here place value number e =
          put_value old new puts after (record { place = place; value = value; number = number })
          (facts.has_solved (record { place = place; value = value; number = number; is = e }))

      by : (balanced : Balanced) → balanced_of kind old ≡ balanced → IsBase old balanced on
          → known_value new on ≡ Some (known_after old balanced on).value
      by Idle e (inl known_there) =
          still (λ solving same. let differ : 0 ≡ 2 = ap balanced_code (sym e ∙ solving.is) in omega (arith, differ)) known_there.0 known_there.1
      by Holds e (inl known_there) =
          still (λ solving same. let differ : 1 ≡ 2 = ap balanced_code (sym e ∙ solving.is) in omega (arith, differ)) known_there.0 known_there.1
      by (Conflicts place held found) e (inl known_there) =
          still (λ solving same. let differ : 3 ≡ 2 = ap balanced_code (sym e ∙ solving.is) in omega (arith, differ)) known_there.0 known_there.1
      by Idle e (inr solved) = absurd (let differ : 0 ≡ 2 = ap balanced_code solved.1.1 in omega (arith, differ))
      by Holds e (inr solved) = absurd (let differ : 1 ≡ 2 = ap balanced_code solved.1.1 in omega (arith, differ))
      by (Conflicts place held found) e (inr solved) = absurd (let differ : 3 ≡ 2 = ap balanced_code solved.1.1 in omega (arith, differ))
      by (Solves place value number) e base = by_place (place == on) refl base
        where
          by_place : (test : Bool) → (place == on) ≡ test → IsBase old (Solves place value number) on
              → known_value new on ≡ Some (if test then record { value = value; number = number } else held_by (known old on)).value
          by_place true same base = let at : on ≡ place = grind (arith, nat_tests, same) in ap (known_value new) at ∙ solved_here place value number e
          by_place false apart (inl known_there) =
              still (λ solving same. let at : place ≡ solving.place = ap place_in (sym e ∙ solving.is) in
              absurd (grind (arith, nat_tests, apart, at, same))) known_there.0 known_there.1
          by_place false apart (inr solved) = absurd (let at : place ≡ on = ap place_in solved.1.1 in absurd (grind (arith, nat_tests, apart, at)))

-- puts up to a place
far_from : (most place : ℕ) (puts : List Put) → AreUpTo most puts → most < place → (put : Put) → Contains puts put → put.place ≢ place
far_from most place puts all far put has same =
    let few : put.place ≤ most = all_at (λ (put : Put). put.place ≤ most) puts put all (among puts put has) in omega (arith, few, far, same)

-- ---- flows at the sides

pub same_chosen : (choice : Bool) (old new : View) (place : ℕ) → known_value new place ≡ known_value old place
    → value_if_chosen choice new place ≡ value_if_chosen choice old place
same_chosen true old new place same = same
same_chosen false old new place same = refl

pub same_sides : (old new : View) (place : ℕ) (local_inflow diversion return_flow : Bool) → known_value new place ≡ known_value old place
    → known_value new (place + 1) ≡ known_value old (place + 1)
    → known_value new (place + 2) ≡ known_value old (place + 2)
    → side_flows new place local_inflow diversion return_flow ≡ side_flows old place local_inflow diversion return_flow
same_sides old new place local_inflow diversion return_flow first second third =
    ap₂ (λ a b. difference a b)
    (ap₂ (λ a b. known_sum a b) (same_chosen local_inflow old new place first) (same_chosen return_flow old new (place + 2) third))
    (same_chosen diversion old new (place + 1) second)

pub both_there : (a b : Option ℤ) (sum : ℤ) → known_sum a b ≡ Some sum → (x : ℤ) × ((y : ℤ) × ((a ≡ Some x) × ((b ≡ Some y) × (x +ℤ y ≡ sum))))
both_there None b sum is = absurd (none-some sum is)
both_there (Some x) None sum is = absurd (none-some sum is)
both_there (Some x) (Some y) sum is = (x, (y, (refl, (refl, same_Some _ _ is))))

module _ (old : View) (puts : List Put) (new : View) (after : IsAfterOwn old new puts) where
  pub gage_balanced : Answered Gage old puts → DispatchFacts Gage old puts → IsBalanced Gage new
  gage_balanced is facts inflow outflow held_in held_out =
      let zero_sum = net_zero Gage old puts is facts new after (plain_agreed Gage old puts is facts new after (refl, (refl, tt)))
      (((λ same. omega (arith, same)), tt), (tt, tt)) (sort Brings 0) (inl refl) (inflow ∷ outflow ∷ []) (held_in, (held_out, tt)) in
      let steady : pos 0 ≡ is.steady = same_Some _ _ is.is_steady in
      omega (arith, ints, zero_sum, steady)

  pub confluence_balanced : Answered Confluence old puts → DispatchFacts Confluence old puts → IsBalanced Confluence new
  confluence_balanced is facts one two outflow held_one held_two held_out =
      let zero_sum = net_zero Confluence old puts is facts new after (plain_agreed Confluence old puts is facts new after (refl, (refl, (refl, tt))))
      (((λ same. omega (arith, same)), ((λ same. omega (arith, same)), tt)), (((λ same. omega (arith, same)), tt), (tt, tt))) (sort Brings 0)
      (inl refl) (one ∷ two ∷ outflow ∷ []) (held_one, (held_two, (held_out, tt))) in
      let steady : pos 0 ≡ is.steady = same_Some _ _ is.is_steady in
      omega (arith, ints, zero_sum, steady)

  pub bifurcation_balanced : Answered Bifurcation old puts → DispatchFacts Bifurcation old puts → IsBalanced Bifurcation new
  bifurcation_balanced is facts inflow one two held_in held_one held_two =
      let zero_sum =
      net_zero Bifurcation old puts is facts new after (plain_agreed Bifurcation old puts is facts new after (refl, (refl, (refl, tt))))
      (((λ same. omega (arith, same)), ((λ same. omega (arith, same)), tt)), (((λ same. omega (arith, same)), tt), (tt, tt))) (sort Brings 0)
      (inl refl) (inflow ∷ one ∷ two ∷ []) (held_in, (held_one, (held_two, tt))) in
      let steady : pos 0 ≡ is.steady = same_Some _ _ is.is_steady in
      omega (arith, ints, zero_sum, steady)

  pub reach_balanced : (history : List ℤ) (local_inflow diversion return_flow : Bool)
      → Answered (Reach zero history local_inflow diversion return_flow) old puts
      → DispatchFacts (Reach zero history local_inflow diversion return_flow) old puts
      → IsKind (Reach zero history local_inflow diversion return_flow)
      → IsBalanced (Reach zero history local_inflow diversion return_flow) new
  reach_balanced history local_inflow diversion return_flow is facts sound inflow outflow side held_in held_out sides =
      let kind : Kind = Reach zero history local_inflow diversion return_flow in
      let zero_sum = net_zero kind old puts is facts new after (plain_agreed kind old puts is facts new after (refl, (refl, tt)))
      (((λ same. omega (arith, same)), tt), (tt, tt)) (sort Brings 0) (inl refl) (inflow ∷ outflow ∷ []) (held_in, (held_out, tt)) in
      let up : AreUpTo 1 puts =
      subst (AreUpTo 1) is.same (solved_up_to 1 (balanced_of kind old) (low_solving kind old puts 1 (omega arith, (omega arith, tt)) sound is)) in
      let same = same_sides old new 2 local_inflow diversion return_flow (rest_value old new puts after 2 (far_from 1 2 puts up (omega arith)))
      (rest_value old new puts after 3 (far_from 1 3 puts up (omega arith))) (rest_value old new puts after 4 (far_from 1 4 puts up (omega arith))) in
      let steady : is.steady ≡ side = same_Some _ _ (sym is.is_steady ∙ sym same ∙ sides) in
      omega (arith, ints, zero_sum, steady)

  pub lagged_balanced : (lag : ℕ) (history : List ℤ) (local_inflow diversion return_flow : Bool)
      → Answered (Reach (suc lag) history local_inflow diversion return_flow) old puts
      → DispatchFacts (Reach (suc lag) history local_inflow diversion return_flow) old puts
      → IsKind (Reach (suc lag) history local_inflow diversion return_flow)
      → IsBalanced (Reach (suc lag) history local_inflow diversion return_flow) new
  lagged_balanced lag history local_inflow diversion return_flow is facts sound past outflow side past_is held_out sides =
      let kind : Kind = Reach (suc lag) history local_inflow diversion return_flow in
      let zero_sum = net_zero kind old puts is facts new after (plain_agreed kind old puts is facts new after (refl, tt))
      (tt, tt) (sort Takes 1) (inl refl) (outflow ∷ []) (held_out, tt) in
      let up : AreUpTo 1 puts =
      subst (AreUpTo 1) is.same (solved_up_to 1 (balanced_of kind old) (low_solving kind old puts 1 (omega arith, tt) sound is)) in
      let same = same_sides old new 2 local_inflow diversion return_flow (rest_value old new puts after 2 (far_from 1 2 puts up (omega arith)))
      (rest_value old new puts after 3 (far_from 1 3 puts up (omega arith))) (rest_value old new puts after 4 (far_from 1 4 puts up (omega arith))) in
      let parts = both_there old.past (side_flows old 2 local_inflow diversion return_flow) is.steady is.is_steady in
      let past_same : parts.0 ≡ past = same_Some _ _ (sym parts.1.1.0 ∙ sym after.past ∙ past_is) in
      let side_same : parts.1.0 ≡ side = same_Some _ _ (sym parts.1.1.1.0 ∙ sym same ∙ sides) in
      let sum = parts.1.1.1.1 in
      omega (arith, ints, zero_sum, past_same, side_same, sum)

  -- ---- users

  user_puts_there : (depletion : ℕ) (supply : Supply) → Answered (WaterUser depletion supply) old puts → (put : Put)
      → Among (user_puts depletion (known_after old (balanced_of (WaterUser depletion supply) old) 1)) put → Contains puts put
  user_puts_there depletion supply is put has =
      contains puts put (subst (λ ps. Among ps put) is.same
      (among_right (solved_put (balanced_of (WaterUser depletion supply) old))
      (user_puts depletion (known_after old (balanced_of (WaterUser depletion supply) old) 1)) put has))

  used_by : (depletion : ℕ) (supply : Supply) (diversion : ℤ) → Answered (WaterUser depletion supply) old puts
      → known_value new 1 ≡ Some (known_after old (balanced_of (WaterUser depletion supply) old) 1).value
      → IsHeld new 1 diversion → IsUsed depletion new diversion
  used_by depletion supply diversion is value held =
      let d = (known_after old (balanced_of (WaterUser depletion supply) old) 1).value in
      let same : d ≡ diversion = same_Some _ _ (sym value ∙ held) in
      record {
        used = put_value old new puts after _ (user_puts_there depletion supply is _ (inl refl)) ∙ ap (λ z. Some (per_mille z depletion)) same;
        back =
            put_value old new puts after _ (user_puts_there depletion supply is _ (inr (inl refl)))
            ∙ ap (λ z. Some (z -ℤ per_mille z depletion)) same;
      }

  -- where a flow isn't solved, no put is in its place
  no_flow_put : (depletion : ℕ) (supply : Supply) (place : ℕ) → place ≤ 1 → Answered (WaterUser depletion supply) old puts
      → ((solving : Solving (WaterUser depletion supply) old) → place ≢ solving.place)
      → (put : Put) → Contains puts put → put.place ≢ place
  no_flow_put depletion supply place low is none put has =
      let kind : Kind = WaterUser depletion supply in
      all_at (λ (put : Put). put.place ≢ place) puts put
      (subst (AllByRecursion (λ (put : Put). put.place ≢ place)) is.same
      (all_append (λ (put : Put). put.place ≢ place) (solved_put (balanced_of kind old))
      (user_puts depletion (known_after old (balanced_of kind old) 1)) (by (balanced_of kind old) refl)
      ((λ same. omega (arith, low, same)), ((λ same. omega (arith, low, same)), tt)))) (among puts put has)
    where
      by : (balanced : Balanced) → balanced_of (WaterUser depletion supply) old ≡ balanced
          → AllByRecursion (λ (put : Put). put.place ≢ place) (solved_put balanced)
      by (Solves at value number) e = ((λ same. none (record { place = at; value = value; number = number; is = e }) (sym same)), tt)
      by balanced e = tt

  pub request_balanced : (depletion : ℕ) → Answered (WaterUser depletion Request) old puts → DispatchFacts (WaterUser depletion Request) old puts
      → IsBalanced (WaterUser depletion Request) new
  request_balanced depletion is facts request diversion held_request held_diversion =
      let kind : Kind = WaterUser depletion Request in
      let zero_sum = net_zero kind old puts is facts new after (plain_agreed kind old puts is facts new after (refl, tt))
      (tt, tt) (sort Takes 1) (inl refl) (diversion ∷ []) (held_diversion, tt) in
      let at_one : ((solving : Solving kind old) → solving.place ≢ 0) = (λ solving same.
      let at = solved_at kind old puts facts.shares is solving in
      let one = one_sort (sort Takes 1) at.at at.has in let there = at.there in omega (arith, one, there, same)) in
      let same = rest_value old new puts after 0 (no_flow_put depletion Request 0 (omega arith) is (λ solving same. at_one solving (sym same))) in
      let steady : is.steady ≡ request = same_Some _ _ (sym is.is_steady ∙ sym same ∙ held_request) in
      let base = base_in kind old puts facts.shares is (sort Takes 1) (inl refl) refl in (
        omega (arith, ints, zero_sum, steady),
        used_by depletion Request diversion is (after_value kind old puts is facts new after 1 base
            (no_flow_put depletion Request 1 (omega arith) is)) held_diversion,
      )

  pub by_rule_balanced : (depletion : ℕ) → Answered (WaterUser depletion ByRule) old puts → DispatchFacts (WaterUser depletion ByRule) old puts
      → IsBalanced (WaterUser depletion ByRule) new
  by_rule_balanced depletion is facts diversion held_diversion =
      let kind : Kind = WaterUser depletion ByRule in
      let base : IsBase old (balanced_of kind old) 1 = inl (some_value (known old 1) is.steady is.is_steady) in
      used_by depletion ByRule diversion is (after_value kind old puts is facts new after 1 base (no_flow_put depletion ByRule 1 (omega arith) is))
      held_diversion

  -- ---- canals

  pub canal_balanced : (seepage : ℕ) → Answered (Canal seepage) old puts → DispatchFacts (Canal seepage) old puts → IsBalanced (Canal seepage) new
  canal_balanced seepage is facts inflow outflow held_in held_out =
      let kind : Kind = Canal seepage in
      let zero_sum = net_zero kind old puts is facts new after (plain_agreed kind old puts is facts new after (refl, (refl, tt)))
      (((λ same. omega (arith, same)), tt), (tt, tt)) (sort (Conveys seepage) 0) (inl refl) (inflow ∷ outflow ∷ []) (held_in, (held_out, tt)) in
      let steady : pos 0 ≡ is.steady = same_Some _ _ is.is_steady in
      let base_zero = base_in kind old puts facts.shares is (sort (Conveys seepage) 0) (inl refl) refl in
      let base_one = base_in kind old puts facts.shares is (sort Takes 1) (inr (inl refl)) refl in
      let value_zero =
      after_value kind old puts is facts new after 0 base_zero (λ none. facts.untouched (sort (Conveys seepage) 0) (inl refl) refl none) in
      let value_one = after_value kind old puts is facts new after 1 base_one (λ none. facts.untouched (sort Takes 1) (inr (inl refl)) refl none) in
      let same_zero : (known_after old (balanced_of kind old) 0).value ≡ inflow = same_Some _ _ (sym value_zero ∙ held_in) in
      let same_one : (known_after old (balanced_of kind old) 1).value ≡ outflow = same_Some _ _ (sym value_one ∙ held_out) in
      let put : Put =
      record {
        place = 2;
        value = (known_after old (balanced_of kind old) 0).value -ℤ (known_after old (balanced_of kind old) 1).value;
        number = (known_after old (balanced_of kind old) 0).number;
      } in
      let has : Contains puts put =
      contains puts put (subst (λ ps. Among ps put) is.same
      (among_right (solved_put (balanced_of kind old))
      (seepage_put (known_after old (balanced_of kind old) 0) (known_after old (balanced_of kind old) 1)) put (inl refl))) in (
        omega (arith, ints, zero_sum, steady),
        put_value old new puts after put has ∙ ap₂ (λ a b. Some (a -ℤ b)) same_zero same_one,
      )

  -- ---- routed reaches

  pub routed_balanced : (initial_content : ℤ) (release : ℕ) → Answered (RoutedReach initial_content release) old puts
      → DispatchFacts (RoutedReach initial_content release) old puts
      → IsBalanced (RoutedReach initial_content release) new
  routed_balanced initial_content release is facts past inflow outflow past_is held_in held_out =
      let kind : Kind = RoutedReach initial_content release in
      let was : old.past ≡ Some past = sym after.past ∙ past_is in
      let content : content_before old ≡ past = ap (λ p. unwrap_or p (pos 0)) was in
      let zero_sum = net_zero kind old puts is facts new after (plain_agreed kind old puts is facts new after (refl, (refl, tt)))
      (((λ same. omega (arith, same)), tt), (tt, tt)) (routed release) (inl refl) (inflow ∷ outflow ∷ []) (held_in, (held_out, tt)) in
      let steady : pos 0 ≡ is.steady = same_Some _ _ (ap (option_map (λ z. pos 0)) (sym was) ∙ is.is_steady) in
      let gone : per_mille (content_before old +ℤ inflow) release ≡ per_mille (past +ℤ inflow) release =
      ap (λ z. per_mille (z +ℤ inflow) release) content in
      let base_zero = base_in kind old puts facts.shares is (routed release) (inl refl) refl in
      let base_one = base_in kind old puts facts.shares is (sort Takes 1) (inr (inl refl)) refl in
      let value_zero = after_value kind old puts is facts new after 0 base_zero (λ none. facts.untouched (routed release) (inl refl) refl none) in
      let value_one = after_value kind old puts is facts new after 1 base_one (λ none. facts.untouched (sort Takes 1) (inr (inl refl)) refl none) in
      let came = known_after old (balanced_of kind old) 0 in
      let went = known_after old (balanced_of kind old) 1 in
      let same_zero : came.value ≡ inflow = same_Some _ _ (sym value_zero ∙ held_in) in
      let same_one : went.value ≡ outflow = same_Some _ _ (sym value_one ∙ held_out) in
      let put : Put = record { place = 2; value = content_before old +ℤ came.value -ℤ went.value; number = went.number } in
      let has : Contains puts put =
      contains puts put (subst (λ ps. Among ps put) is.same
      (among_right (solved_put (balanced_of kind old)) (content_put (content_before old) came went) put (inl refl))) in (
        omega (arith, ints, zero_sum, steady, gone),
        put_value old new puts after put has ∙ ap Some (ap₂ (λ a b. a -ℤ b) (ap₂ (λ a b. a +ℤ b) content same_zero) same_one),
      )
