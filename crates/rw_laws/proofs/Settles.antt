-- An object that doesn't wait is balanced; where a timestep is closed none waits.
use Rattle.rw_laws.proofs.Common.{All, AllByRecursion, Bool, CanAsk, Cell, Done, Draft, Event, Fire, FireEnd, Firing, IsBalanced, IsBasin, IsFault}
use Rattle.rw_laws.proofs.Common.{IsLed, IsPolicyOf, Kind, List, Log, None, Object, Option, Policy, Some, Standing, Unknown, [], ap, arith, asked_for}
use Rattle.rw_laws.proofs.Common.{asked_of_rule, before_closing, cells_of, code_of, cond, data_balanced, due_is_rule, ended, ends_wait, false, fault}
use Rattle.rw_laws.proofs.Common.{fired, idle, idle_balanced, inl, inr, inside, is_data, is_put_at, is_some, last_ones}
use Rattle.rw_laws.proofs.Common.{length, looks_at, looks_of, nat_tests, none-some, none_bits, not, numbers, object_at, opened, option_map, over}
use Rattle.rw_laws.proofs.Common.{with_inputs, puts_written, refl, rests, same_Some, since, solve_of, solved_balanced, solved_by, standing}
use Rattle.rw_laws.proofs.Common.{standing-placed, subst, sym, times, times-numbers, times-waiting, true, unwrap_or, value_in, view_of, waiting}
use Rattle.rw_laws.proofs.Common.{wakes, written_by, ℕ, ℤ, ◌&&◌, ◌+◌, ◌-◌, ◌==◌, ◌∙◌, ◌∷◌, ◌≡◌, ◌≤◌, ◌⊎◌}
use Rattle.rw_method.specs.declared.solved.Solved.TheVariants.{Idle}
use Rattle.rw_laws.specs.Balances.{AllBalanced}
use Rattle.rw_laws.proofs.Came.{Came, Closes, asks, closes, ends, fires, opens}
use Rattle.rw_laws.proofs.Closing.{IsWithin, begin_within, next_within}
use Rattle.rw_laws.proofs.Dispatches.{Asked_of, Solves, asked_of, idles, solves, stops}
use Rattle.rw_laws.proofs.OwnPuts.{later_all}
use Rattle.rw_laws.proofs.Staying.{AreLater, view_stays}
use Rattle.rw_laws.proofs.Steps.{KindIs, LeftIn, dispatch_does, of_same, solving}
use Rattle.rw_laws.proofs.Writings.{IsObjectOf, IsRuleWriting, fired_writings, is_object_of, rule_later}
use Rattle.rw_laws.proofs.Along.{all_closed}

code_same : (found : Option Object) (kind : Kind) → option_map (λ (found : Object). found.kind) found ≡ Some kind
    → unwrap_or (option_map (λ (found : Object). code_of found.kind) found) 0 ≡ code_of kind
code_same None kind is = absurd (none-some kind is)
code_same (Some found) kind is = ap code_of (same_Some _ _ is)

data_is : (basin : Draft) (object : ℕ) (kind : Kind) → KindIs basin object kind → is_data basin object ≡ (code_of kind == 0)
data_is basin object kind is = ap (λ n. n == 0) (code_same (object_at basin.objects object) kind is)

-- ---- since when an object waits

none_since : (basin : Draft) (event : Event) (log : Log) (object : ℕ) → since basin (event ∷ log) object ≡ None
    → (wakes basin event object ≡ false) × ((ends_wait event object ≡ true) ⊎ (since basin log object ≡ None))
none_since basin event log object e =
    none_bits (ends_wait event object) (wakes basin event object) (since basin log object) (length log) (since basin log object ≡ None)
    (λ none. none) e

not_both : (keeps put : Bool) → (not keeps && put) ≡ false → (keeps ≡ true) ⊎ (put ≡ false)
not_both true put e = inl refl
not_both false put e = inr e

abbrev SettledIn : Draft → Log → ℕ → Type 0
SettledIn basin log step =
    (object : ℕ) (kind : Kind) → KindIs basin object kind → since basin log object ≡ None
    → IsBalanced kind (view_of basin (cells_of basin log) object step)

abbrev SettledAt : Draft → Log → Standing → Type 0
SettledAt basin log (rests step) = Unit {0}
SettledAt basin log (inside step) = SettledIn basin log step
SettledAt basin log over = Unit {0}

-- an object that no put reaches stays balanced
stays_balanced : (basin : Draft) (log : Log) (event : Event) (object step : ℕ) (kind : Kind) → is_put_at basin object step (written_by event) ≡ false
    → AreLater step (written_by event)
    → IsBalanced kind (view_of basin (cells_of basin log) object step) → IsBalanced kind (view_of basin (cells_of basin (event ∷ log)) object step)
stays_balanced basin log event object step kind none later is = subst (IsBalanced kind) (sym (view_stays basin log event object step none later)) is

module _ (basin : Draft) (valid : IsBasin basin) (policy : Policy) (promise : IsPolicyOf basin policy) where
  opens_settled : (log : Log) (step : ℕ) → SettledIn basin (opened (step + 1) ∷ log) (step + 1)
  opens_settled log step object kind is none =
      let awake = (none_since basin (opened (step + 1)) log object none).0 in
      data_balanced kind (view_of basin (cells_of basin (opened (step + 1) ∷ log)) object (step + 1))
      (sym (data_is basin object kind is) ∙ not_false (is_data basin object) awake)
    where
      not_false : (b : Bool) → not b ≡ false → b ≡ true
      not_false true e = refl
      not_false false e = absurd (cc)

  -- ---- a dispatch that was idle

  idle_answer : (log : Log) (step object : ℕ) (kind : Kind) → KindIs basin object kind → solved_by basin (cells_of basin log) object step ≡ Idle
      → solve_of kind (view_of basin (cells_of basin log) object step) ≡ Idle
  idle_answer log step object kind is answers = by (object_at basin.objects object) is answers
    where
      by : (found : Option Object) → option_map (λ (found : Object). found.kind) found ≡ Some kind
          → unwrap_or (option_map (λ (found : Object). solve_of found.kind (view_of basin (cells_of basin log) object step)) found) Idle ≡ Idle
          → solve_of kind (view_of basin (cells_of basin log) object step) ≡ Idle
      by None is answers = absurd (none-some kind is)
      by (Some found) is answers = ap (λ k. solve_of k (view_of basin (cells_of basin log) object step)) (sym (same_Some _ _ is)) ∙ answers

  idle_settled : (log : Log) (step object : ℕ) → LeftIn basin (cells_of basin log) (inside step) → SettledIn basin log step
      → solved_by basin (cells_of basin log) object step ≡ Idle
      → SettledIn basin (idle object step (looks_of basin (cells_of basin log) object step) ∷ log) step
  idle_settled log step object left before answers other kind is none =
      elim (none_since basin (idle object step (looks_of basin (cells_of basin log) object step)) log other none).1 [
        | inr still ↦ stays_balanced basin log (idle object step (looks_of basin (cells_of basin log) object step)) other step kind refl tt
            (before other kind is still)
        | inl here ↦
            let same : object ≡ other = grind (arith, nat_tests, here) in
            let answers_other : solved_by basin (cells_of basin log) other step ≡ Idle =
            subst (λ o. solved_by basin (cells_of basin log) o step ≡ Idle) same answers in
            stays_balanced basin log (idle object step (looks_of basin (cells_of basin log) object step)) other step kind refl tt
            (idle_balanced kind (view_of basin (cells_of basin log) other step) (left other kind is)
            (idle_answer log step other kind is answers_other))
      ]

  -- ---- a dispatch that put

  solved_settled : (log : Log) (step object : ℕ) (event : Event) → LeftIn basin (cells_of basin log) (inside step) → SettledIn basin log step
      → (at : Solves basin (cells_of basin log) object step event) → SettledIn basin (solving basin log object step at.puts ∷ log) step
  solved_settled log step object event left before at other kind is none =
      by (object == other) refl (none_since basin (solving basin log object step at.puts) log other none)
    where
      by : (test : Bool) → (object == other) ≡ test → (wakes basin (solving basin log object step at.puts) other ≡ false)
          × ((ends_wait (solving basin log object step at.puts) other ≡ true) ⊎ (since basin log other ≡ None))
          → IsBalanced kind (view_of basin (cells_of basin (solving basin log object step at.puts ∷ log)) other step)
      by true same quiet =
          let does = dispatch_does basin valid log object step event left at in
          of_same IsBalanced basin (solving basin log object step at.puts ∷ log) object other step at.kind kind same at.own is
          (solved_balanced at.kind (view_of basin (cells_of basin log) object step) _ at.puts does.sound at.answers does.leaves)
      by false apart quiet =
          let still : since basin log other ≡ None =
          elim quiet.1 [ inl here ↦ absurd (let differ : true ≡ false = sym here ∙ apart in cc) | inr still ↦ still ] in
          let bits : (not (is_data basin other) && (not (object == other)
          && is_put_at basin other step (puts_written (cells_of basin log) (asked_for basin object step at.puts)))) ≡ false = quiet.0 in
          elim (not_both (is_data basin other) (not (object == other)
          && is_put_at basin other step (puts_written (cells_of basin log) (asked_for basin object step at.puts))) bits) [
            | inl keeps ↦ data_balanced kind _ (sym (data_is basin other kind is) ∙ keeps)
            | inr none ↦
                stays_balanced basin log (solving basin log object step at.puts) other step kind
                (ap (λ (test : Bool). not test && is_put_at basin other step
                (puts_written (cells_of basin log) (asked_for basin object step at.puts))) (sym apart) ∙ none)
                (later_all basin (cells_of basin log) object step at.puts) (before other kind is still)
          ]

  -- ---- a firing

  fired_settled : (log : Log) (step rule : ℕ) (firing : Firing) → firing.step ≡ step → SettledIn basin log step
      → AllByRecursion (IsRuleWriting basin step (cells_of basin log) rule step) firing.written
      → SettledIn basin (fired firing ∷ log) step
  fired_settled log step rule firing at before wrote other kind is none =
      let quiet = none_since basin (fired firing) log other none in
      let still : since basin log other ≡ None = elim quiet.1 [ inl here ↦ absurd (cc) | inr still ↦ still ] in
      elim (not_both (is_data basin other) (is_put_at basin other firing.step firing.written) quiet.0) [
        | inl keeps ↦ data_balanced kind _ (sym (data_is basin other kind is) ∙ keeps)
        | inr none_put ↦
            stays_balanced basin log (fired firing) other step kind (ap (λ s. is_put_at basin other s firing.written) (sym at) ∙ none_put)
            (rule_later basin (cells_of basin log) step rule step firing.written wrote) (before other kind is still)
      ]

  ended_settled : (log : Log) (step rule : ℕ) (fire : Fire) (end : FireEnd) → SettledIn basin log step → 1 ≤ rule → All (CanAsk basin) fire.puts
      → SettledAt basin (ended basin (cells_of basin log) rule step fire end ∷ log)
      (standing (ended basin (cells_of basin log) rule step fire end ∷ log))
  ended_settled log step rule fire Unknown before first asked =
      fired_settled log step rule (record {
        rule = rule;
        step = step;
        is_done = false;
        looked = looks_at (cells_of basin log) fire.looked;
        asked = [];
        written = [];
        count = fire.count;
      }) refl before (fired_writings basin policy step rule step (cells_of basin log) fire Unknown first asked)
  ended_settled log step rule fire Done before first asked =
      fired_settled log step rule (record {
        rule = rule;
        step = step;
        is_done = true;
        looked = looks_at (cells_of basin log) fire.looked;
        asked = asked_of_rule basin rule step fire.puts;
        written = puts_written (cells_of basin log) (last_ones basin (asked_of_rule basin rule step fire.puts));
        count = fire.count;
      }) refl before (fired_writings basin policy step rule step (cells_of basin log) fire Done first asked)
  ended_settled log step rule fire end before first asked = tt

  -- ---- events

  over_settled : (log : Log) (event : Event) → IsFault event → SettledAt basin (event ∷ log) (standing (event ∷ log))
  over_settled log (fault why) over_by = tt
  over_settled log event over_by = absurd over_by

  asks_settled : (log : Log) (event : Event) (step object : ℕ) → LeftIn basin (cells_of basin log) (inside step) → SettledIn basin log step
      → Asked_of basin (cells_of basin log) object step event
      → SettledAt basin (event ∷ log) (standing (event ∷ log))
  asks_settled log event step object left before (idles at) =
      subst (λ e. SettledAt basin (e ∷ log) (standing (e ∷ log))) (sym at.is) (idle_settled log step object left before at.answers)
  asks_settled log event step object left before (solves at) =
      subst (λ e. SettledAt basin (e ∷ log) (standing (e ∷ log))) (sym at.is) (solved_settled log step object event left before at)
  asks_settled log event step object left before (stops why) = over_settled log event why

  next_settled : (log : Log) (event : Event) → IsWithin basin policy log → SettledAt basin log (standing log) → Came basin policy log event
      → SettledAt basin (event ∷ log) (standing (event ∷ log))
  next_settled log event within before (opens at) =
      subst (λ e. SettledAt basin (e ∷ log) (standing (e ∷ log))) (sym at.is) (opens_settled log at.step)
  next_settled log event within before (closes at) = subst (λ e. SettledAt basin (e ∷ log) (standing (e ∷ log))) (sym at.is) tt
  next_settled log event within before (fires at) =
      let rule = due_is_rule basin policy (cells_of basin log) log at.rule at.due in
      subst (λ e. SettledAt basin (e ∷ log) (standing (e ∷ log))) (sym at.is)
      (ended_settled log at.step at.rule at.fire at.fire.end (subst (SettledAt basin log) at.stands before) rule.first
      (promise.asks at.rule at.step (value_in (cells_of basin log)) at.fire at.does))
  next_settled log event within before (asks at) =
      asks_settled log event at.step at.object (subst (LeftIn basin (cells_of basin log)) at.stands within.holds.left)
      (subst (SettledAt basin log) at.stands before)
      (asked_of basin (cells_of basin log) at.object at.step event at.is)
  next_settled log event within before (ends why) = over_settled log event why

  -- ---- where none waits

  no_since : (log : Log) (object : ℕ) (kind : Kind) → KindIs basin object kind → waiting basin log ≡ [] → since basin log object ≡ None
  no_since log object kind is none = by (since basin log object) refl
    where
      of : IsObjectOf basin object kind
      of = is_object_of basin object kind valid is

      listed : times object (numbers (length basin.objects)) ≡ 1
      listed = let counted = times-numbers object (length basin.objects) in let low = of.first in let high =
          of.last in grind (arith, nat_tests, counted, low, high)

      counted : 0 ≡ cond (is_some (since basin log object)) (times object (numbers (length basin.objects))) 0
      counted = ap (times object) (sym none) ∙ times-waiting basin log object

      by : (found : Option ℕ) → since basin log object ≡ found → since basin log object ≡ None
      by None at = at
      by (Some place) at =
          let one : 0 ≡ 1 =
          counted ∙ ap (λ z. cond (is_some z) (times object (numbers (length basin.objects))) 0) at ∙ listed in absurd (omega (arith, one))

  closes_balanced : (log : Log) (event : Event) → IsWithin basin policy log → (at : Closes basin policy log event)
      → SettledAt basin log (standing log) → AllBalanced basin at.step (cells_of basin log)
  closes_balanced log event within at settled object kind is =
      let here : SettledIn basin log at.step =
      subst (SettledAt basin log) at.stands settled in here object kind is (no_since log object kind is at.none_waits)

  pub balances : (inputs : List (Cell × ℤ)) (log : Log) → IsLed basin policy inputs log → (step : ℕ) (before : Log)
      → before_closing step log ≡ Some before
      → AllBalanced basin step (cells_of basin before)
  balances inputs log run = all_closed basin policy (λ log. IsWithin basin policy log × SettledAt basin log (standing log))
      (λ log event comes both. (next_within basin valid policy promise log event comes both.0, next_settled log event both.0 both.1 comes))
      (λ step log. AllBalanced basin step (cells_of basin log)) (λ log event both at. closes_balanced log event both.0 at both.1) inputs log run
      (begin_within basin valid policy promise inputs, subst (SettledAt basin (with_inputs [] inputs)) (sym (standing-placed [] inputs refl)) tt)
