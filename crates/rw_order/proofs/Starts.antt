-- The log of the inputs, with which every log begins.
use Rattle.rw_order.proofs.Common.{All-append, All-cons, All-nil, AllByRecursion, Bool, Bounds, Cell, Content, Decides-int_le, Draft, Input, Inputs}
use Rattle.rw_order.proofs.Common.{IsBasin, IsBetween, IsInputsOf, List, Log, None, Option, Shared-of, Some, [], all_known, all_quantities, all_slots}
use Rattle.rw_order.proofs.Common.{ap, ap₂, arith, bounds-shared, bounds_in, bounds_in-quantities, cell_at, cells_of, false, given_to, placings}
use Rattle.rw_order.proofs.Common.{placings_of, placings_to, if_placed, if◌then◌else◌, inl, input_content, ints, is_between, is_shared, last_closed}
use Rattle.rw_order.proofs.Common.{length, none-some, option_or, with_inputs, recursion_from_All, refl, rests, same_Some, slot_numbers, standing}
use Rattle.rw_order.proofs.Common.{subst}
use Rattle.rw_order.proofs.Common.{suc, sym, true, value_at, value_in, zero, ℕ, ℤ, ◌&&◌, ◌∷◌, ◌≡◌, ◌≤ℤ◌}
use Rattle.rw_order.specs.AnyRun.{IsAnyRun, IsSettledLog}
use Rattle.rw_order.specs.Inside.{AreInside, CanHave}
use Rattle.rw_order.proofs.Writing.{AreShared}
use Rattle.rw_order.proofs.Sounds.{IsLaidOut, in_bounds}
use Rattle.rw_order.proofs.Turns.{opening}
use Rattle.rw_order.proofs.Orderly.{IsOrderly, StandsAt}
use Rattle.rw_order.proofs.AnyOrder.{any_order}
use Rattle.rw_order.proofs.Links.{among_known}

between_tests : (bounds : Bounds) (value : ℤ) → bounds.0 ≤ℤ value → value ≤ℤ bounds.1 → is_between bounds value ≡ true
between_tests bounds value low high = ap₂ (λ a b. a && b) ((Decides-int_le bounds.0 value).1 low) ((Decides-int_le value bounds.1).1 high)

-- what was given to a cell can stand in each that shares its value with it
shared_inside : (basin : Draft) (at cell : Cell) (value : ℤ) → IsBasin basin → is_shared basin at cell ≡ true → CanHave basin (at, value)
    → in_bounds basin cell.slot.0 value ≡ true
shared_inside basin at cell value valid shares between =
    let known_slot =
    among_known basin.objects (slot_numbers basin.objects) cell.slot.0 (all_known basin.objects) (Shared-of basin at cell shares).known in
    let wide = bounds_in-quantities basin cell.slot.0 valid known_slot in
    let here : IsBetween (bounds_in basin.objects basin.links basin.bounds cell.slot.0) value =
    subst (λ b. IsBetween b value) (bounds-shared basin at cell shares) between in
    let low = here.low in
    let high = here.high in
    let least = wide.low in
    let most = wide.high in
    ap₂ (λ a b. a && b) (between_tests (bounds_in basin.objects basin.links basin.bounds cell.slot.0) value low high)
    (between_tests all_quantities value (omega (arith, ints, low, least)) (omega (arith, ints, high, most)))

record IsBegun (basin : Draft) (log : Log) : Type 0 where
  opens : opening log ≡ 0
  stands : standing log ≡ rests 0
  each : (cell : Cell) (content : Content) → cells_of basin log cell ≡ Some content
      → (content.number ≡ 0) × (content.writer ≡ Input) × (in_bounds basin cell.slot.0 content.value ≡ true)
  shared : AreShared basin (cells_of basin log)

module _ (basin : Draft) (valid : IsBasin basin) (laid : IsLaidOut basin) where
  begun_more : (log : Log) (at : Cell) (value : ℤ) → CanHave basin (at, value) → IsBegun basin log → IsBegun basin (given_to at value ∷ log)
  begun_more log at value can begun = record {
    opens = begun.opens;
    stands = refl;
    each = λ cell content e. by cell content (is_shared basin at cell) refl e;
    shared = λ cell other shares.
        ap₂ option_or (ap (λ test. if test then Some (input_content value) else None) (laid.same_group at cell other shares))
        (begun.shared cell other shares);
  }
    where
      by : (cell : Cell) (content : Content) (test : Bool) → is_shared basin at cell ≡ test
          → option_or (if test then Some (input_content value) else None) (cells_of basin log cell) ≡ Some content
          → (content.number ≡ 0) × (content.writer ≡ Input) × (in_bounds basin cell.slot.0 content.value ≡ true)
      by cell content true shares e =
          subst (λ (c : Content). (c.number ≡ 0) × (c.writer ≡ Input) × (in_bounds basin cell.slot.0 c.value ≡ true)) (same_Some _ _ e)
          (refl, refl, shared_inside basin at cell value valid shares can)
      by cell content false apart e = begun.each cell content e

  begun_by : (log : Log) (inputs : List (Cell × ℤ)) → AllByRecursion (CanHave basin) inputs → IsBegun basin log
      → IsBegun basin (with_inputs log inputs)
  begun_by log [] can begun = begun
  begun_by log (input ∷ inputs) can begun = begun_by (given_to input.0 input.1 ∷ log) inputs can.1 (begun_more log input.0 input.1 can.0 begun)

  begun_of : (inputs : List (Cell × ℤ)) → AreInside basin inputs → IsBegun basin (with_inputs [] inputs)
  begun_of inputs inside =
      begun_by [] inputs (recursion_from_All (CanHave basin) inputs inside)
      (record { opens = refl; stands = refl; each = λ cell content e. absurd (none-some _ e); shared = λ cell other shares. refl })

  first_orderly : (log : Log) → IsBegun basin log → IsOrderly basin (cells_of basin log) log
  first_orderly log begun =
      let opens = begun.opens in
      record {
        sound = record {
          zeros = λ cell content is. (begun.each cell content is).0;
          kept = λ cell content is. is;
          made = λ cell content is. inl is;
          inside = λ cell content is. (begun.each cell content is).2;
          shared = begun.shared;
        };
        stands = subst (StandsAt basin log) (sym begun.stands) (sym opens, (omega arith, λ object found some. absurd (omega (arith, some))));
        said = λ object at found there ready low high. absurd (omega (arith, low, high, opens));
        rest = λ object at found there ready low high. absurd (omega (arith, low, high, opens));
        few = λ object found there ready some. absurd (omega (arith, some, opens));
      }

  pub orders_agree : (inputs : List (Cell × ℤ)) (log other : Log) → AreInside basin inputs → IsAnyRun basin inputs log → IsSettledLog log
      → IsAnyRun basin inputs other
      → IsSettledLog other × (last_closed other ≡ basin.control.stamps.count)
      × ((cell : Cell) → value_in (cells_of basin log) cell ≡ value_in (cells_of basin other) cell)
  orders_agree inputs log other inside one settled_one two =
      let begun = begun_of inputs inside in
      any_order basin (cells_of basin (with_inputs [] inputs)) laid (λ cell content is. (begun.each cell content is).1)
      valid.whole.control.least_object
      (with_inputs [] inputs) one.events
      two.events log other valid.whole.control.timesteps.some (first_orderly (with_inputs [] inputs) begun) (λ cell. refl) one.leads one.end
      settled_one
      two.leads two.end

-- ---- what is read as inputs

module _ (basin : Draft) (inputs : Inputs) (made : IsInputsOf basin inputs) where
  if_inside : (slot step : ℕ) (found : Option ℤ) → value_at inputs slot step ≡ found → AreInside basin (if_placed slot step found)
  if_inside slot step None is = All-nil (CanHave basin)
  if_inside slot step (Some value) is =
      All-cons (CanHave basin) (cell_at slot step, value) [] (made.sound slot step value is).within (All-nil (CanHave basin))

  of_inside : (slot steps : ℕ) → AreInside basin (placings_of inputs slot steps)
  of_inside slot zero = All-nil (CanHave basin)
  of_inside slot (suc step) =
      All-append (CanHave basin) (placings_of inputs slot step) (if_placed slot (suc step) (value_at inputs slot (suc step))) (of_inside slot step)
      (if_inside slot (suc step) (value_at inputs slot (suc step)) refl)

  to_inside : (slots steps : ℕ) → AreInside basin (placings_to inputs slots steps)
  to_inside zero steps = All-nil (CanHave basin)
  to_inside (suc slot) steps =
      All-append (CanHave basin) (placings_to inputs slot steps) (placings_of inputs (suc slot) steps) (to_inside slot steps)
      (of_inside (suc slot) steps)

  pub givens_inside : AreInside basin (placings basin inputs)
  givens_inside = to_inside (length (all_slots basin.objects)) basin.control.stamps.count
