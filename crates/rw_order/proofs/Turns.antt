-- Who waits, and what a dispatch changes of that, of counts, and of where the log stands.
use Rattle.rw_order.proofs.Common.{Bool, Contains, Draft, Event, Log, None, Object, Option, Some, [], any-times, ap, ap₂, arith, both_ways, code_of}
use Rattle.rw_order.proofs.Common.{cond, dispatches, ends_wait, false, fired, idle, if◌then◌else◌, inl, inr, inside, is_data, is_put_at, is_some}
use Rattle.rw_order.proofs.Common.{length, list_any, list_any-from_Contains, nat_eq_equiv, nat_le, nat_lt, nat_tests, none-some, not, not-true}
use Rattle.rw_order.proofs.Common.{numbers, object_at, opened, option_map, option_or, put, refl, since, slice_get, slice_get_within, solved, standing}
use Rattle.rw_order.proofs.Common.{subst, sym, times, times-numbers, times-waiting, true, unwrap_or, waiting, wakes, written_by, ℕ, ◌&&◌, ◌+◌, ◌-◌}
use Rattle.rw_order.proofs.Common.{◌<◌, ◌==◌, ◌∙◌, ◌∷◌, ◌≡◌, ◌≢◌, ◌≤◌, ◌⊎◌}
use Rattle.rw_order.proofs.Leaving.{IsAsked}
use Rattle.rw_order.proofs.Counting.{one_if}
use Rattle.rw_base.proofs.Lists.{neither_there}

-- the timestep that was opened last, 0 where none was
abbrev pub opening : Log → ℕ
opening [] = 0
opening (opened step ∷ log) = step
opening (event ∷ log) = opening log

-- ---- who waits

-- an object with a method is there
pub ready_object : (basin : Draft) (object : ℕ) → is_data basin object ≡ false → (there : Object) × (object_at basin.objects object ≡ Some there)
ready_object basin object ready = by (object_at basin.objects object) refl
  where
    by : (found : Option Object) → object_at basin.objects object ≡ found → (there : Object) × (object_at basin.objects object ≡ Some there)
    by None is =
        absurd (both_ways (is_data basin object) ready
        (ap (λ (o : Option Object). unwrap_or (option_map (λ (f : Object). code_of f.kind) o) 0 == 0) is))
    by (Some there) is = (there, is)

pub in_range : (basin : Draft) (object : ℕ) (found : Object) → object_at basin.objects object ≡ Some found
    → (1 ≤ object) × (object ≤ length basin.objects)
in_range basin object found is = by (nat_le 1 object) refl is
  where
    by : (test : Bool) → nat_le 1 object ≡ test → (if test then slice_get basin.objects (object - 1) else None) ≡ Some found
        → (1 ≤ object) × (object ≤ length basin.objects)
    by false low e = absurd (none-some _ e)
    by true low e =
        let first : 1 ≤ object = grind (arith, nat_tests, low) in
        let within = slice_get_within basin.objects (object - 1) found e in
        (first, omega (arith, first, within))

first_of_two : (a b : Bool) → (not a && b) ≡ true → a ≡ false
first_of_two true b e = absurd (both_ways false refl e)
first_of_two false b e = refl

wakes_ready : (basin : Draft) (event : Event) (object : ℕ) → wakes basin event object ≡ true → is_data basin object ≡ false
wakes_ready basin (opened step) object e = not-true (is_data basin object) e
wakes_ready basin (solved dispatch) object e = first_of_two (is_data basin object) _ e
wakes_ready basin (fired firing) object e = first_of_two (is_data basin object) _ e
wakes_ready basin event object e = absurd (both_ways false refl e)

pub since_ready : (basin : Draft) (log : Log) (object : ℕ) → is_some (since basin log object) ≡ true → is_data basin object ≡ false
since_ready basin [] object e = absurd (both_ways false refl e)
since_ready basin (event ∷ log) object e =
    by (ends_wait event object) (since basin log object) (wakes basin event object) refl e (λ some. since_ready basin log object some)
  where
    by : (ends : Bool) (before : Option ℕ) (woken : Bool) → wakes basin event object ≡ woken
        → is_some (option_or (if ends then None else before) (if woken then Some (length log) else None)) ≡ true
        → (is_some before ≡ true → is_data basin object ≡ false)
        → is_data basin object ≡ false
    by ends before true is some rest = wakes_ready basin event object is
    by true before false is some rest = absurd (both_ways false refl some)
    by false (Some place) false is some rest = rest refl
    by false None false is some rest = absurd (both_ways false refl some)

some_of_times : (test : Bool) (n m : ℕ) → m ≡ cond test n 0 → 0 < m → test ≡ true
some_of_times true n m e lt = refl
some_of_times false n m e lt = absurd (omega (arith, e, lt))

pub waits_since : (basin : Draft) (log : Log) (object : ℕ) → Contains (waiting basin log) object → is_some (since basin log object) ≡ true
waits_since basin log object is =
    let listed : list_any (λ x. object == x) (waiting basin log) ≡ true = list_any-from_Contains nat_eq_equiv object (waiting basin log) is in
    let more : nat_lt 0 (times object (waiting basin log)) ≡ true = sym (any-times object (waiting basin log)) ∙ listed in
    some_of_times (is_some (since basin log object)) (times object (numbers (length basin.objects))) (times object (waiting basin log))
    (times-waiting basin log object)
    (grind (arith, nat_tests, more))

none_of_times : (found : Option ℕ) (n m : ℕ) → m ≡ cond (is_some found) n 0 → m ≡ 0 → 1 ≤ n → found ≡ None
none_of_times (Some x) n m e zero_times some = absurd (omega (arith, e, zero_times, some))
none_of_times None n m e zero_times some = refl

pub nobody_waits : (basin : Draft) (log : Log) (object : ℕ) (found : Object) → waiting basin log ≡ [] → object_at basin.objects object ≡ Some found
    → since basin log object ≡ None
nobody_waits basin log object found empty is =
    let range = in_range basin object found is in
    let first = range.0 in
    let final = range.1 in
    let low : nat_lt 0 object ≡ true = grind (arith, nat_tests, first) in
    let high : nat_lt object (length basin.objects + 1) ≡ true = grind (arith, nat_tests, final) in
    let one : times object (numbers (length basin.objects)) ≡ 1 =
    times-numbers object (length basin.objects) ∙ ap₂ (λ a b. cond (a && b) 1 0) low high in
    none_of_times (since basin log object) (times object (numbers (length basin.objects))) (times object (waiting basin log))
    (times-waiting basin log object)
    (ap (times object) empty) (omega (arith, one))

-- ---- what a dispatch changes

record IsTurn (basin : Draft) (log : Log) (object step : ℕ) (event : Event) : Type 0 where
  opens : opening (event ∷ log) ≡ opening log
  stands : standing (event ∷ log) ≡ inside step
  own_ends : ends_wait event object ≡ true
  own_sleeps : wakes basin event object ≡ false
  own_count : dispatches (event ∷ log) object ≡ dispatches log object + 1
  other_waits : (other : ℕ) → other ≢ object → ends_wait event other ≡ false
  other_wakes : (other : ℕ) → other ≢ object → is_data basin other ≡ false → wakes basin event other ≡ is_put_at basin other step (written_by event)
  other_count : (other : ℕ) → other ≢ object → dispatches (event ∷ log) other ≡ dispatches log other

not_own : (a b c : Bool) → b ≡ true → (not a && (not b && c)) ≡ false
not_own true b c e = refl
not_own false true c e = refl
not_own false false c e = absurd (both_ways false refl e)

turn_of : (basin : Draft) (log : Log) (object step : ℕ) (event : Event) → IsAsked object step event → IsTurn basin log object step event
turn_of basin log object step (idle asked at looked) is =
    let same = is.0 in
    let own : (asked == object) ≡ true = grind (arith, nat_tests, same) in
    let differs : (other : ℕ) → other ≢ object → (asked == other) ≡ false = λ other apart. grind (arith, nat_tests, same, apart) in
    record {
      opens = refl;
      stands = ap inside is.1;
      own_ends = own;
      own_sleeps = refl;
      own_count = ap (λ test. if test then dispatches log object + 1 else dispatches log object) own;
      other_waits = differs;
      other_wakes = λ other apart ready. refl;
      other_count = λ other apart. ap (λ test. if test then dispatches log other + 1 else dispatches log other) (differs other apart);
    }
turn_of basin log object step (solved dispatch) is =
    let same = is.0 in
    let own : (dispatch.object == object) ≡ true = grind (arith, nat_tests, same) in
    let differs : (other : ℕ) → other ≢ object → (dispatch.object == other) ≡ false = λ other apart. grind (arith, nat_tests, same, apart) in
    record {
      opens = refl;
      stands = ap inside is.1;
      own_ends = own;
      own_sleeps = not_own (is_data basin object) (dispatch.object == object) (is_put_at basin object dispatch.step dispatch.written) own;
      own_count = ap (λ test. if test then dispatches log object + 1 else dispatches log object) own;
      other_waits = differs;
      other_wakes = λ other apart ready.
          ap₂ (λ a b. not a && (not b && is_put_at basin other dispatch.step dispatch.written)) ready (differs other apart)
          ∙ ap (λ t. is_put_at basin other t dispatch.written) is.1;
      other_count = λ other apart. ap (λ test. if test then dispatches log other + 1 else dispatches log other) (differs other apart);
    }
turn_of basin log object step event is = absurd is

if_none : (test : Bool) (place : ℕ) → (if test then Some place else None) ≡ None → test ≡ false
if_none true place e = absurd (none-some _ (sym e))
if_none false place e = refl

woken_or_not : (before : Option ℕ) (put : Bool) (place : ℕ)
    → (one_if (is_some (option_or before (if put then Some place else None))) ≤ one_if (is_some before))
    ⊎ ((before ≡ None) × (put ≡ true))
woken_or_not (Some at) put place = inl (omega arith)
woken_or_not None true place = inr (refl, refl)
woken_or_not None false place = inl (omega arith)

module _ (basin : Draft) (log : Log) (object step : ℕ) (event : Event) (asked : IsAsked object step event) where
  turn : IsTurn basin log object step event
  turn = turn_of basin log object step event asked

  pub still_opened : opening (event ∷ log) ≡ opening log
  still_opened = turn.opens

  pub still_inside : standing (event ∷ log) ≡ inside step
  still_inside = turn.stands

  pub counts_own : dispatches (event ∷ log) object ≡ dispatches log object + 1
  counts_own = turn.own_count

  pub counts_other : (other : ℕ) → other ≢ object → dispatches (event ∷ log) other ≡ dispatches log other
  counts_other = turn.other_count

  -- the object waits no more
  pub own_rests : since basin (event ∷ log) object ≡ None
  own_rests =
      ap₂ (λ ends woken. option_or (if ends then None else since basin log object) (if woken then Some (length log) else None)) turn.own_ends
      turn.own_sleeps

  -- another waits since it did, or is woken by a put that reaches it
  since_other : (other : ℕ) → other ≢ object → is_data basin other ≡ false
      → since basin (event ∷ log) other ≡ option_or (since basin log other)
      (if is_put_at basin other step (written_by event) then Some (length log) else None)
  since_other other apart ready =
      ap₂ (λ ends woken. option_or (if ends then None else since basin log other) (if woken then Some (length log) else None))
      (turn.other_waits other apart)
      (turn.other_wakes other apart ready)

  pub other_rests : (other : ℕ) → other ≢ object → is_data basin other ≡ false → since basin (event ∷ log) other ≡ None
      → (since basin log other ≡ None) × (is_put_at basin other step (written_by event) ≡ false)
  other_rests other apart ready none =
      let parts = neither_there (since basin log other) _ (sym (since_other other apart ready) ∙ none) in
      (parts.0, if_none (is_put_at basin other step (written_by event)) (length log) parts.1)

  pub other_woken : (other : ℕ) → other ≢ object → is_data basin other ≡ false
      → (one_if (is_some (since basin (event ∷ log) other)) ≤ one_if (is_some (since basin log other)))
      ⊎ ((since basin log other ≡ None) × (is_put_at basin other step (written_by event) ≡ true))
  other_woken other apart ready =
      subst (λ s. (one_if (is_some s) ≤ one_if (is_some (since basin log other)))
      ⊎ ((since basin log other ≡ None) × (is_put_at basin other step (written_by event) ≡ true)))
      (sym (since_other other apart ready)) (woken_or_not (since basin log other) (is_put_at basin other step (written_by event)) (length log))
