-- A request that puts the outflow gets its energy, from the least release.
use Rattle.rw_method.proofs.Common.{Balanced, Contains, Content, Given, HasNoRelease, IsKind, IsLeastRelease, List, None, Option, OutOfRange, Plant}
use Rattle.rw_method.proofs.Common.{PowerReservoir, Put, Puts, Row, Some, View, ap, arith, asked_of, ap₂, asked_put, balanced_of, energy_of}
use Rattle.rw_method.proofs.Common.{fault_of_request, flow_puts, head_of, held_after_puts, if◌then◌else◌, inl, inr, int_min, ints, is_some, none-some}
use Rattle.rw_method.proofs.Common.{not, option_map, plant, pos, power_balance, power_flows, put, refl, release_for, request_of, requested, same_Some}
use Rattle.rw_method.proofs.Common.{solve_of, subst, sym, true, unwrap_or, ℕ, ℤ, ◌==◌, ◌∙◌, ◌≡◌, ◌≤ℤ◌, false}
use Rattle.rw_base.proofs.Common.{MatchOption, int_min_is}
use Rattle.rw_method.specs.Puts.{GivesRequest, is_put_by_request}
use Rattle.rw_method.proofs.Answering.{answered}
use Rattle.rw_method.proofs.Among.{Among, all_at, contains}
use Rattle.rw_method.proofs.LeastRelease.{least_is}
use Rattle.rw_method.proofs.PowerFacts.{IsFlow, SolvesNot, asked_there, clean, energy_there, flow_there, flows_are, held_cases}

-- a request puts the outflow where that isn't solved
by_request : (balanced : Balanced) → is_put_by_request balanced ≡ true → SolvesNot 1 balanced
by_request balanced by at number value is same = absurd (let no : false ≡ true = sym (other at same) ∙ ap is_put_by_request (sym is) ∙ by in cc)
  where
    other : (at : ℕ) → at ≡ 1 → not (at == 1) ≡ false
    other at same = rw same refl

-- a release that is found is the least one
found : (of : Plant) (view : View) (request : Content) (o : Option ℕ) → (if is_some o then None else Some (OutOfRange 4 request.value)) ≡ None
    → MatchOption o (HasNoRelease of.power (head_of of view) of.max_release request.value)
    (IsLeastRelease of.power (head_of of view) of.max_release request.value)
    → IsLeastRelease of.power (head_of of view) of.max_release request.value (unwrap_or o 0)
found of view request None is none = absurd (none-some _ (sym is))
found of view request (Some release) is least = least

pub gives_request : (initial_storage : ℤ) (table : List Row) (max_release tailwater : ℤ) (power : ℕ) (view : View) (request : Content)
    (puts : List Put)
    → IsKind (PowerReservoir initial_storage table max_release tailwater power) → request_of view ≡ Some request
    → is_put_by_request (balanced_of (PowerReservoir initial_storage table max_release tailwater power) view) ≡ true
    → solve_of (PowerReservoir initial_storage table max_release tailwater power) view ≡ Puts puts
    → GivesRequest (plant table max_release tailwater power) view request puts
gives_request initial_storage table max_release tailwater power view request puts sound counts by answers =
    let of : Plant = plant table max_release tailwater power in
    let is = answered (PowerReservoir initial_storage table max_release tailwater power) view puts answers in
    let b = balanced_of (PowerReservoir initial_storage table max_release tailwater power) view in
    let terms = (power_balance of view).terms in
    let asking : Given = requested of view request in
    let asks : asked_of of view ≡ Some asking = ap (option_map (requested of view)) counts in
    let apart = by_request b by in
    let fine : fault_of_request of view (Some request) ≡ None =
    ap (fault_of_request of view) (sym counts) ∙ (clean initial_storage table max_release tailwater power view puts is).1 in
    let least =
    found of view request (release_for of view request) fine (least_is power (head_of of view) max_release request.value sound.release.low) in
    let release : ℕ = unwrap_or (release_for of view request) 0 in
    let out : Put = asked_put terms b asking in
    let there : Among (power_flows of view b) out = subst (λ a. Among (flow_puts a terms b) out) (sym asks) (asked_there asking terms b apart) in
    let held = out_held of view b asking asks apart there in
    let energy : Put =
    put 5 (energy_of power (head_of of view) (int_min (held_after_puts view (power_flows of view b) 1).value max_release))
    (held_after_puts view (power_flows of view b) 1).number in
    let value : (held_after_puts view (power_flows of view b) 1).value ≡ pos release = ap (λ (g : Given). g.value) held in
    let number : (held_after_puts view (power_flows of view b) 1).number ≡ out.number = ap (λ (g : Given). g.number) held in
    let inside = least.inside in
    let whole : int_min (held_after_puts view (power_flows of view b) 1).value max_release ≡ pos release =
    ap (λ v. int_min v max_release) value ∙ within (pos release) max_release inside in
    record {
      release = release;
      number = out.number;
      least = least;
      outflow = contains puts out (flow_there initial_storage table max_release tailwater power view puts is out there);
      energy = subst (λ p. Contains puts p) (ap₂ (λ v n. put 5 (energy_of power (head_of of view) v) n) whole number)
          (contains puts energy (energy_there initial_storage table max_release tailwater power view puts is energy (inl refl)));
    }
  where
    within : (a m : ℤ) → a ≤ℤ m → int_min a m ≡ a
    within a m low = omega (arith, ints, low, int_min_is)

    -- the outflow that is asked for is held
    out_held : (of : Plant) (view : View) (b : Balanced) (asking : Given) → asked_of of view ≡ Some asking → SolvesNot 1 b
        → Among (power_flows of view b) (asked_put (power_balance of view).terms b asking)
        → held_after_puts view (power_flows of view b) 1
        ≡ record { value = asking.value; number = (asked_put (power_balance of view).terms b asking).number }
    out_held of view b asking asks apart there = elim (held_cases view (power_flows of view b) 1) [
      | inr (none, same) ↦ absurd (none (asked_put (power_balance of view).terms b asking) there refl)
      | inl (flow, (has, (at, same))) ↦
          elim (all_at (IsFlow (asked_of of view) (power_balance of view).terms b) (power_flows of view b) flow
          (flows_are (asked_of of view) (power_balance of view).terms b) has) [
            | inl solves ↦ absurd (apart flow.place flow.number flow.value solves at)
            | inr asked ↦
                let one : asked.by ≡ asking = same_Some _ _ (sym asked.is ∙ asks) in
                same ∙ ap (λ (p : Put). record { value = p.value; number = p.number })
                (asked.same ∙ ap (asked_put (power_balance of view).terms b) one)
          ]
    ]
