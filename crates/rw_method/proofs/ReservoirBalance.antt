-- The reservoir: where a dispatch answers puts, the balance of what is held then is true, storage and elevation go together, and each
-- derived slot holds what is derived.
use Rattle.rw_method.proofs.Common.{Bool, Brings, Contains, IsStored, Kind, List, None, Option, Put, Reservoir, Row, Some, Takes, View, [], ap, ap₂}
use Rattle.rw_method.proofs.Common.{arith, balanced_of, difference, evaporation_from, evaporation_of, evaporation_put, false, given, inl, inr}
use Rattle.rw_method.proofs.Common.{int_min, ints, is_some, known_after, known_value, level_puts, none-some, pos, refl, release_puts, same_Some}
use Rattle.rw_method.proofs.Common.{side_flows, solved_put, subst, known_sum, sym, true, unwrap_or, ℕ, ℤ, ◌++◌, ◌-ℤ◌, ◌∙◌, ◌∷◌, ◌≡◌, ◌≤◌}
use Rattle.rw_method.specs.Balanced.{IsBalanced, IsHeld, IsLevel, IsLost, IsReleased}
use Rattle.rw_method.specs.Passing.{IsAfterOwn}
use Rattle.rw_method.proofs.Answering.{Answered}
use Rattle.rw_method.proofs.Balancing.{after_value, both_there, same_sides}
use Rattle.rw_method.proofs.Leaving.{DispatchFacts}
use Rattle.rw_method.proofs.Netting.{net_zero, put_value, rest_value}
use Rattle.rw_method.proofs.Among.{Among, among_left, among_right, contains}
use Rattle.rw_method.proofs.PlainKinds.{base_in}
use Rattle.rw_method.proofs.ReservoirFacts.{agreed, no_middle, past_elevation, reservoir_facts, storing}
use Rattle.rw_method.proofs.Storing.{level_held}
use Rattle.rw_method.proofs.Terms.{sort}

both_of : (a b : Option ℤ) (d : ℤ) → difference a b ≡ Some d → (x : ℤ) × ((y : ℤ) × ((a ≡ Some x) × ((b ≡ Some y) × (x -ℤ y ≡ d))))
both_of None b d is = absurd (none-some d is)
both_of (Some x) None d is = absurd (none-some d is)
both_of (Some x) (Some y) d is = (x, (y, (refl, (refl, same_Some _ _ is))))

same_evaporation : (evaporation : Bool) (table : Option (List Row)) (old new : View) → new.past ≡ old.past → known_value new 7 ≡ known_value old 7
    → evaporation_of evaporation table new ≡ evaporation_of evaporation table old
same_evaporation evaporation None old new past rate = refl
same_evaporation true (Some rows) old new past rate = ap₂ (λ p r. evaporation_from rows p r) past rate
same_evaporation false (Some rows) old new past rate = refl

module _ (initial_storage : ℤ) (table : Option (List Row)) (local_inflow diversion return_flow evaporation : Bool) (max_release : Option ℤ)
    (old : View) (puts : List Put)
    (sound : IsStored initial_storage table evaporation max_release)
    (is : Answered (Reservoir initial_storage table local_inflow diversion return_flow evaporation max_release) old puts) (new : View)
    (after : IsAfterOwn old new puts) where
  abbrev kind : Kind
  kind = Reservoir initial_storage table local_inflow diversion return_flow evaporation max_release

  facts : DispatchFacts kind old puts
  facts = reservoir_facts initial_storage table local_inflow diversion return_flow evaporation max_release old puts sound is

  middle : (place : ℕ) → 4 ≤ place → place ≤ 7 → known_value new place ≡ known_value old place
  middle place low high =
      rest_value old new puts after place (no_middle initial_storage table local_inflow diversion return_flow evaporation max_release old puts sound
      is place low high)

  evaporates_there : (put : Put) → Among (evaporation_put evaporation (evaporation_of evaporation table old)) put → Contains puts put
  evaporates_there put has = contains puts put (subst (λ ps. Among ps put) is.same
      (among_left _ (release_puts max_release (known_after old (balanced_of kind old) 1)) put
      (among_right (solved_put (balanced_of kind old) ++ level_puts table (given old 2) (given old 3) (balanced_of kind old))
      (evaporation_put evaporation (evaporation_of evaporation table old)) put has)))

  releases_there : (put : Put) → Among (release_puts max_release (known_after old (balanced_of kind old) 1)) put → Contains puts put
  releases_there put has = contains puts put (subst (λ ps. Among ps put) is.same
      (among_right ((solved_put (balanced_of kind old) ++ level_puts table (given old 2) (given old 3) (balanced_of kind old))
      ++ evaporation_put evaporation (evaporation_of evaporation table old))
      (release_puts max_release (known_after old (balanced_of kind old) 1)) put has))

  evaporated_held : (chosen : Bool) (found : Option (List Row)) → evaporation ≡ chosen → table ≡ found → (past evaporates : ℤ) → new.past ≡ Some past
      → evaporation_of chosen found new ≡ Some evaporates → IsLost chosen found new past evaporates
  evaporated_held false found choice at past evaporates past_is amount = tt
  evaporated_held true None choice at past evaporates past_is amount = tt
  evaporated_held true (Some rows) choice at past evaporates past_is amount =
      let same = same_evaporation evaporation table old new after.past (middle 7 (omega arith) (omega arith)) in
      let put : Put = record { place = 8; value = unwrap_or (evaporation_of evaporation table old) (pos 0); number = 0 } in
      let has : Among (evaporation_put evaporation (evaporation_of evaporation table old)) put =
      subst (λ c. Among (evaporation_put c (evaporation_of evaporation table old)) put) (sym choice) (inl refl) in
      let known : evaporation_of evaporation table new ≡ Some evaporates = ap₂ (λ c t. evaporation_of c t new) choice at ∙ amount in
      record {
        held = put_value old new puts after put (evaporates_there put has) ∙ ap (λ a. Some (unwrap_or a (pos 0))) (sym same ∙ known);
        elevation =
            ap is_some (past_elevation initial_storage table local_inflow diversion return_flow evaporation max_release old puts sound is rows at
            choice past (sym after.past ∙ past_is)).1;
        amount = λ rate lost rate_is lost_is.
            same_Some _ _ (sym amount ∙ ap₂ (λ p r. evaporation_from rows p r) past_is rate_is ∙ ap (λ z. Some (unwrap_or z (pos 0))) lost_is);
      }

  released_held : (most : Option ℤ) → max_release ≡ most → (outflow : ℤ) → IsHeld new 1 outflow → IsReleased most new outflow
  released_held None choice outflow held = tt
  released_held (Some most) choice outflow held =
      let base = base_in kind old puts facts.shares is (sort Takes 1) (inr (inl refl)) refl in
      let value = after_value kind old puts is facts new after 1 base (λ none. facts.untouched (sort Takes 1) (inr (inl refl)) refl none) in
      let same : (known_after old (balanced_of kind old) 1).value ≡ outflow = same_Some _ _ (sym value ∙ held) in
      let d = known_after old (balanced_of kind old) 1 in
      let release : Put = record { place = 9; value = int_min d.value most; number = d.number } in
      let spill : Put = record { place = 10; value = d.value -ℤ int_min d.value most; number = d.number } in (
        put_value old new puts after release (releases_there release (subst (λ m. Among (release_puts m d) release) (sym choice) (inl refl)))
            ∙ ap (λ z. Some (int_min z most)) same,
        put_value old new puts after spill (releases_there spill (subst (λ m. Among (release_puts m d) spill) (sym choice) (inr (inl refl))))
            ∙ ap (λ z. Some (z -ℤ int_min z most)) same,
      )

  level_is : (found : Option (List Row)) → table ≡ found → (stores : ℤ) → IsHeld new 2 stores → IsLevel found new stores
  level_is None at stores held = tt
  level_is (Some rows) at stores held =
      level_held kind table old puts is (storing initial_storage table local_inflow diversion return_flow evaporation max_release old puts sound is)
      new after rows at stores held

  pub reservoir_balanced : IsBalanced kind new
  reservoir_balanced past inflow outflow stores side evaporates past_is held_in held_out held_storage sides evaporates_is =
      let zero_sum = net_zero kind old puts is facts new after
      (agreed initial_storage table local_inflow diversion return_flow evaporation max_release old puts sound is new after)
      (((λ same. omega (arith, same)), ((λ same. omega (arith, same)), tt)), (((λ same. omega (arith, same)), tt), (tt, tt)))
      (sort Brings 0) (inl refl) (inflow ∷ outflow ∷ stores ∷ []) (held_in, (held_out, (held_storage, tt))) in
      let same_side =
      same_sides old new 4 local_inflow diversion return_flow (middle 4 (omega arith) (omega arith)) (middle 5 (omega arith) (omega arith))
      (middle 6 (omega arith) (omega arith)) in
      let same_lost = same_evaporation evaporation table old new after.past (middle 7 (omega arith) (omega arith)) in
      let parts =
      both_of (known_sum old.past (side_flows old 4 local_inflow diversion return_flow)) (evaporation_of evaporation table old) is.steady
      is.is_steady in
      let sums = both_there old.past (side_flows old 4 local_inflow diversion return_flow) parts.0 parts.1.1.0 in
      let p : sums.0 ≡ past = same_Some _ _ (sym sums.1.1.0 ∙ sym after.past ∙ past_is) in
      let f : sums.1.0 ≡ side = same_Some _ _ (sym sums.1.1.1.0 ∙ sym same_side ∙ sides) in
      let e : parts.1.0 ≡ evaporates = same_Some _ _ (sym parts.1.1.1.0 ∙ sym same_lost ∙ evaporates_is) in
      let sum = sums.1.1.1.1 in let less = parts.1.1.1.1 in
      record {
        balance = omega (arith, ints, zero_sum, p, f, e, sum, less);
        level = level_is table refl stores held_storage;
        evaporated = evaporated_held evaporation table refl refl past evaporates past_is evaporates_is;
        released = released_held max_release refl outflow held_out;
      }
