-- What a timestep that was closed holds stays so to the end of the run.
use Rattle.rw_laws.proofs.Common.{All, Bool, CanAsk, Cell, DividesByZero, Done, Draft, EndsOutside, Event, Fire, FireEnd, IsBasin, IsFault}
use Rattle.rw_laws.proofs.Common.{IsLed, IsPolicyOf, List, Log, Policy, Some, Standing, Unknown, [], ap, arith, before_closing, cells_of, closed}
use Rattle.rw_laws.proofs.Common.{closed-placed, due_is_rule, ended, false, fault, if◌then◌else◌, inl, inr, inside, is_closing, last_closed}
use Rattle.rw_laws.proofs.Common.{nat_tests, none-some, opened, option_or, over, with_inputs, refl, rests, same_Some, standing, standing-placed}
use Rattle.rw_laws.proofs.Common.{subst}
use Rattle.rw_laws.proofs.Common.{sym, true, value_in, written_by, ℕ, ℤ, ◌+◌, ◌<◌, ◌==◌, ◌∙◌, ◌∷◌, ◌≡◌, ◌≢◌, ◌≤◌, ◌⊎◌}
use Rattle.rw_laws.proofs.Came.{Came, asks, closes, ends, fires, opens}
use Rattle.rw_laws.proofs.Dispatches.{Asked_of, asked_of, idles, solves, stops}
use Rattle.rw_laws.proofs.Staying.{AreLater, earlier_stays}
use Rattle.rw_laws.proofs.Writings.{fired_writings, rule_later}
use Rattle.rw_laws.proofs.Along.{along, none_closed}
use Rattle.rw_laws.proofs.OwnPuts.{later_all}

-- a log whose closed timesteps hold what they held when they were closed, all of them before where it stands
abbrev IsAfter : ℕ → Standing → Type 0
IsAfter step (rests at) = step ≤ at
IsAfter step (inside at) = step < at
IsAfter step over = Unit {0}

record IsPast (basin : Draft) (log : Log) (step : ℕ) (before : Log) : Type 0 where
  after : IsAfter step (standing log)
  same : (cell : Cell) → cell.step.0 ≤ step → cells_of basin log cell ≡ cells_of basin before cell

-- by where it stands, the last timestep that was closed
abbrev IsLast : Standing → ℕ → Type 0
IsLast (rests at) last = at ≡ last
IsLast (inside at) last = at ≡ last + 1
IsLast over last = Unit {0}

record ArePast (basin : Draft) (log : Log) : Type 0 where
  each : (step : ℕ) (before : Log) → before_closing step log ≡ Some before → IsPast basin log step before
  last : IsLast (standing log) (last_closed log)
  all : (step : ℕ) → 1 ≤ step → step ≤ last_closed log → (before : Log) × (before_closing step log ≡ Some before)

module _ (basin : Draft) (valid : IsBasin basin) (policy : Policy) (promise : IsPolicyOf basin policy) where
  -- an event that is no closing, and writes to no earlier timestep
  goes_on : (log : Log) (event : Event) (at : ℕ) → standing log ≡ inside at → (standing (event ∷ log) ≡ inside at) ⊎ (standing (event ∷ log) ≡ over)
      → ((step : ℕ) → is_closing step event ≡ false) → last_closed (event ∷ log) ≡ last_closed log → AreLater at (written_by event)
      → ArePast basin log → ArePast basin (event ∷ log)
  goes_on log event at stands next open_still last later past = record { each = each; last = last_is; all = all }
    where
      closing : (step : ℕ) → before_closing step (event ∷ log) ≡ before_closing step log
      closing step = ap (λ (test : Bool). if test then Some log else before_closing step log) (open_still step)

      each : (step : ℕ) (before : Log) → before_closing step (event ∷ log) ≡ Some before → IsPast basin (event ∷ log) step before
      each step before is =
          let was = past.each step before (sym (closing step) ∙ is) in
          let below : step < at = subst (IsAfter step) stands was.after in
          record {
            after = elim next [ inl still ↦ subst (IsAfter step) (sym still) below | inr ended_by ↦ subst (IsAfter step) (sym ended_by) tt ];
            same = λ cell low.
                ap (λ found. option_or found (cells_of basin log cell))
                (earlier_stays basin at (written_by event) cell later (omega (arith, low, below))) ∙ was.same cell low;
          }

      last_is : IsLast (standing (event ∷ log)) (last_closed (event ∷ log))
      last_is =
          let before : at ≡ last_closed log + 1 = subst (λ s. IsLast s (last_closed log)) stands past.last in
          elim next [
            | inl still ↦ subst (λ s. IsLast s (last_closed (event ∷ log))) (sym still) (omega (arith, before, last))
            | inr ended_by ↦ subst (λ s. IsLast s (last_closed (event ∷ log))) (sym ended_by) tt
          ]

      all : (step : ℕ) → 1 ≤ step → step ≤ last_closed (event ∷ log) → (before : Log) × (before_closing step (event ∷ log) ≡ Some before)
      all step first near = let was = past.all step first (omega (arith, near, last)) in (was.0, closing step ∙ was.1)

  ends_past : (log : Log) (event : Event) → IsFault event → ArePast basin log → ArePast basin (event ∷ log)
  ends_past log (fault why) over_by past =
      record { each = λ step before is. record { after = tt; same = (past.each step before is).same }; last = tt; all = past.all }
  ends_past log event over_by past = absurd over_by

  fired_past : (log : Log) (step rule : ℕ) (fire : Fire) (end : FireEnd) → standing log ≡ inside step → 1 ≤ rule → All (CanAsk basin) fire.puts
      → ArePast basin log
      → ArePast basin (ended basin (cells_of basin log) rule step fire end ∷ log)
  fired_past log step rule fire DividesByZero stands first asked past =
      ends_past log (ended basin (cells_of basin log) rule step fire DividesByZero) tt past
  fired_past log step rule fire (EndsOutside value) stands first asked past =
      ends_past log (ended basin (cells_of basin log) rule step fire (EndsOutside value)) tt past
  fired_past log step rule fire Unknown stands first asked past =
      goes_on log (ended basin (cells_of basin log) rule step fire Unknown) step stands (inl refl) (λ at. refl) refl tt past
  fired_past log step rule fire Done stands first asked past =
      goes_on log (ended basin (cells_of basin log) rule step fire Done) step stands (inl refl) (λ at. refl) refl
      (rule_later basin (cells_of basin log) step rule step (written_by (ended basin (cells_of basin log) rule step fire Done))
      (fired_writings basin policy step rule step (cells_of basin log) fire Done first asked)) past

  asked_past : (log : Log) (event : Event) (step object : ℕ) → standing log ≡ inside step → Asked_of basin (cells_of basin log) object step event
      → ArePast basin log → ArePast basin (event ∷ log)
  asked_past log event step object stands (idles at) past =
      subst (λ e. ArePast basin (e ∷ log)) (sym at.is) (goes_on log _ step stands (inl refl) (λ t. refl) refl tt past)
  asked_past log event step object stands (solves at) past =
      subst (λ e. ArePast basin (e ∷ log)) (sym at.is)
      (goes_on log _ step stands (inl refl) (λ t. refl) refl (later_all basin (cells_of basin log) object step at.puts) past)
  asked_past log event step object stands (stops why) past = ends_past log event why past

  closed_past : (log : Log) (at : ℕ) → standing log ≡ inside at → ArePast basin log → ArePast basin (closed at ∷ log)
  closed_past log at stands past = record {
    each = λ step before is. each step before (at == step) refl is;
    last = refl;
    all = λ step first near. all step first near (at == step) refl;
  }
    where
      each : (step : ℕ) (before : Log) (test : Bool) → (at == step) ≡ test → (if test then Some log else before_closing step log) ≡ Some before
          → IsPast basin (closed at ∷ log) step before
      each step before true same is =
          let one : step ≡ at = grind (arith, nat_tests, same) in
          record { after = omega (arith, one); same = λ cell low. ap (λ l. cells_of basin l cell) (same_Some _ _ is) }
      each step before false apart is =
          let was = past.each step before is in
          let below : step < at = subst (IsAfter step) stands was.after in record { after = omega (arith, below); same = was.same }

      all : (step : ℕ) → 1 ≤ step → step ≤ at → (test : Bool) → (at == step) ≡ test
          → (before : Log) × ((if test then Some log else before_closing step log) ≡ Some before)
      all step first near true same = (log, refl)
      all step first near false apart =
          let last : at ≡ last_closed log + 1 = subst (λ s. IsLast s (last_closed log)) stands past.last in
          let differ : at ≢ step = grind (arith, nat_tests, apart) in past.all step first (grind (arith, near, last, differ))

  opened_past : (log : Log) (at : ℕ) → standing log ≡ rests at → ArePast basin log → ArePast basin (opened (at + 1) ∷ log)
  opened_past log at stands past = record {
    each = λ step before is.
        let was = past.each step before is in
        let below : step ≤ at = subst (IsAfter step) stands was.after in record { after = omega (arith, below); same = was.same };
    last = let last : at ≡ last_closed log = subst (λ s. IsLast s (last_closed log)) stands past.last in ap (λ n. n + 1) last;
    all = past.all;
  }

  next_past : (log : Log) (event : Event) → Came basin policy log event → ArePast basin log → ArePast basin (event ∷ log)
  next_past log event (opens at) past = subst (λ e. ArePast basin (e ∷ log)) (sym at.is) (opened_past log at.step at.stands past)
  next_past log event (closes at) past = subst (λ e. ArePast basin (e ∷ log)) (sym at.is) (closed_past log at.step at.stands past)
  next_past log event (fires at) past =
      let rule = due_is_rule basin policy (cells_of basin log) log at.rule at.due in
      subst (λ e. ArePast basin (e ∷ log)) (sym at.is)
      (fired_past log at.step at.rule at.fire at.fire.end at.stands rule.first
      (promise.asks at.rule at.step (value_in (cells_of basin log)) at.fire at.does) past)
  next_past log event (asks at) past =
      asked_past log event at.step at.object at.stands (asked_of basin (cells_of basin log) at.object at.step event at.is) past
  next_past log event (ends why) past = ends_past log event why past

  past_run : (inputs : List (Cell × ℤ)) (log : Log) → IsLed basin policy inputs log → ArePast basin log
  past_run inputs log run = along basin policy (ArePast basin) next_past inputs log run (record {
    each = λ at early is. absurd (none-some early (sym (none_closed [] inputs (λ t. refl) at) ∙ is));
    last = subst (λ s. IsLast s (last_closed (with_inputs [] inputs))) (sym (standing-placed [] inputs refl)) (sym (closed-placed [] inputs));
    all = λ step first near. let none = closed-placed [] inputs in absurd (omega (arith, first, near, none));
  })

  -- a cell of a timestep that was closed, or of an earlier one, holds at the end what it held just before the closing
  pub stays : (inputs : List (Cell × ℤ)) (log : Log) → IsLed basin policy inputs log → (step : ℕ) (before : Log)
      → before_closing step log ≡ Some before
      → (cell : Cell) → cell.step.0 ≤ step → cells_of basin log cell ≡ cells_of basin before cell
  stays inputs log run step before is = ((past_run inputs log run).each step before is).same

  -- each timestep up to the last one that is closed was closed
  pub closings : (inputs : List (Cell × ℤ)) (log : Log) → IsLed basin policy inputs log → (step : ℕ) → 1 ≤ step → step ≤ last_closed log
      → (before : Log) × (before_closing step log ≡ Some before)
  closings inputs log run = (past_run inputs log run).all
