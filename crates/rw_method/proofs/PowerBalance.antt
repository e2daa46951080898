-- The power reservoir: where a dispatch answers puts, the balance of what is held then is true, storage and elevation go together, and
-- energy, release and spill are what the outflow gives.
use Rattle.rw_method.proofs.Common.{Brings, Kind, List, Plant, PowerReservoir, Put, Row, Some, View, [], ap, ap₂, arith, balanced_of, elev_of}
use Rattle.rw_method.proofs.Common.{energy_of, energy_puts, head_from, head_of, held_after_puts, inl, inr, int_min, ints, known_value}
use Rattle.rw_method.proofs.Common.{option_and_then, option_map, plant, pos, power_flows, refl, same_Some, sym, unwrap_or, ℕ, ℤ, ◌-ℤ◌, ◌∙◌, ◌∷◌, ◌≡◌}
use Rattle.rw_method.specs.Balanced.{IsBalanced}
use Rattle.rw_method.specs.Passing.{IsAfterOwn}
use Rattle.rw_method.proofs.Among.{Among, contains}
use Rattle.rw_method.proofs.Answering.{Answered}
use Rattle.rw_method.proofs.Netting.{net_zero, put_value}
use Rattle.rw_method.proofs.PowerFacts.{agreed, clean, energy_there, outflow_value, power_facts, storing}
use Rattle.rw_method.proofs.Storing.{level_held, past_held}
use Rattle.rw_method.proofs.Terms.{sort}

module _ (initial_storage : ℤ) (table : List Row) (max_release tailwater : ℤ) (power : ℕ) (old : View) (puts : List Put)
    (is : Answered (PowerReservoir initial_storage table max_release tailwater power) old puts) (new : View) (after : IsAfterOwn old new puts) where
  abbrev kind : Kind
  kind = PowerReservoir initial_storage table max_release tailwater power

  abbrev of : Plant
  of = plant table max_release tailwater power

  pub power_balanced : IsBalanced kind new
  power_balanced past inflow outflow stores past_is held_in held_out held_storage =
      let zero_sum = net_zero kind old puts is (power_facts initial_storage table max_release tailwater power old puts is) new after
      (agreed initial_storage table max_release tailwater power old puts is new after)
      (((λ same. omega (arith, same)), ((λ same. omega (arith, same)), tt)), (((λ same. omega (arith, same)), tt), (tt, tt)))
      (sort Brings 0) (inl refl) (inflow ∷ outflow ∷ stores ∷ []) (held_in, (held_out, (held_storage, tt))) in
      let was : old.past ≡ Some past = sym after.past ∙ past_is in
      let p : is.steady ≡ past = same_Some _ _ (sym is.is_steady ∙ was) in
      let stood = past_held (Some table) table old.past refl (clean initial_storage table max_release tailwater power old puts is).0 past was in
      let head : head_of of old ≡ head_from stood.0 tailwater =
      ap (λ found. unwrap_or (option_map (λ e. head_from e tailwater) (option_and_then (elev_of table) found)) (pos 0)) was
      ∙ ap (λ found. unwrap_or (option_map (λ e. head_from e tailwater) found) (pos 0)) stood.1 in
      let value : (held_after_puts old (power_flows of old (balanced_of kind old)) 1).value ≡ outflow =
      same_Some _ _ (sym (outflow_value initial_storage table max_release tailwater power old puts is new after) ∙ held_out) in
      record {
        balance = omega (arith, ints, zero_sum, p);
        level =
            level_held kind (Some table) old puts is (storing initial_storage table max_release tailwater power old puts is) new after table refl
            stores held_storage;
        stood = stood.0;
        elevation = stood.1;
        energy = derived _ (inl refl) ∙ ap₂ (λ fall out. Some (energy_of power fall (int_min out max_release))) head value;
        released = (
          derived _ (inr (inl refl)) ∙ ap (λ out. Some (int_min out max_release)) value,
          derived _ (inr (inr (inl refl))) ∙ ap (λ out. Some (out -ℤ int_min out max_release)) value,
        );
      }
    where
      derived : (put : Put) → Among (energy_puts of (head_of of old) (held_after_puts old (power_flows of old (balanced_of kind old)) 1)) put
          → known_value new put.place ≡ Some put.value
      derived put has =
          put_value old new puts after put (contains puts put (energy_there initial_storage table max_release tailwater power old puts is put has))
