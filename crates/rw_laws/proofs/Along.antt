-- What is so of a run's inputs and stays so with each event is so of the run, and what follows from it where a timestep is closed is so just
-- before each closing.
use Rattle.rw_laws.proofs.Common.{Bool, Cell, Draft, Done, Event, FireEnd, IsFault, IsLed, List, Log, MayLead, None, Policy, Some, [], ap, arith}
use Rattle.rw_laws.proofs.Common.{before_closing, cells_of, ended, false, fault, if◌then◌else◌, is_closing, nat_tests, none-some, with_inputs, refl}
use Rattle.rw_laws.proofs.Common.{same_Some, subst, sym, true, ℕ, ℤ, ◌==◌, ◌∙◌, ◌∷◌, ◌≡◌}
use Rattle.rw_run.specs.Log.{placed}
use Rattle.rw_laws.proofs.Came.{Came, Closes, asks, came, closes, ends, fires, opens}
use Rattle.rw_laws.proofs.Dispatches.{Asked_of, asked_of, idles, solves, stops}

module _ (basin : Draft) (policy : Policy) (P : Log → Type 0)
    (next : (log : Log) (event : Event) → Came basin policy log event → P log → P (event ∷ log)) where
  lead : (old : Log) (events : List Event) (new : Log) → MayLead basin policy old events new → P old → P new
  lead old [] new leads is = subst P (sym leads) is
  lead old (event ∷ events) new leads is = lead (event ∷ old) events new leads.1 (next old event (came basin policy old event leads.0) is)

  pub along : (inputs : List (Cell × ℤ)) (log : Log) → IsLed basin policy inputs log → P (with_inputs [] inputs) → P log
  along inputs log run begun = lead (with_inputs [] inputs) run.events log run.leads begun

-- ---- closings

pub none_closed : (log : Log) (inputs : List (Cell × ℤ)) → ((step : ℕ) → before_closing step log ≡ None) → (step : ℕ)
    → before_closing step (with_inputs log inputs) ≡ None
none_closed log [] none step = none step
none_closed log (input ∷ inputs) none step = none_closed (placed input.0 input.1 ∷ log) inputs none step

no_closing : (event : Event) (step : ℕ) → IsFault event → is_closing step event ≡ true → ⊥
no_closing (fault why) step over_by is = absurd (grind (arith, is))
no_closing event step over_by is = absurd over_by

closing_of : (basin : Draft) (policy : Policy) (Q : ℕ → Type 0) (log : Log) (event : Event) (step : ℕ)
    → ((at : Closes basin policy log event) → Q at.step)
    → Came basin policy log event → is_closing step event ≡ true → Q step
closing_of basin policy Q log event step f (opens at) is = absurd (let no : false ≡ true = ap (is_closing step) (sym at.is) ∙ is in cc)
closing_of basin policy Q log event step f (closes at) is =
    let here : (at.step == step) ≡ true = ap (is_closing step) (sym at.is) ∙ is in
    let same : at.step ≡ step = grind (arith, nat_tests, here) in subst Q same (f at)
closing_of basin policy Q log event step f (fires at) is = absurd (by at.fire.end (ap (is_closing step) (sym at.is) ∙ is))
  where
    by : (end : FireEnd) → is_closing step (ended basin (cells_of basin log) at.rule at.step at.fire end) ≡ true → ⊥
    by Done e = absurd (grind (arith, e))
    by end e = absurd (grind (arith, e))
closing_of basin policy Q log event step f (asks at) is = absurd (by (asked_of basin (cells_of basin log) at.object at.step event at.is))
  where
    by : Asked_of basin (cells_of basin log) at.object at.step event → ⊥
    by (idles of) = absurd (let no : false ≡ true = ap (is_closing step) (sym of.is) ∙ is in cc)
    by (solves of) = absurd (let no : false ≡ true = ap (is_closing step) (sym of.is) ∙ is in cc)
    by (stops why) = no_closing event step why is
closing_of basin policy Q log event step f (ends why) is = absurd (no_closing event step why is)

module _ (basin : Draft) (policy : Policy) (P : Log → Type 0)
    (next : (log : Log) (event : Event) → Came basin policy log event → P log → P (event ∷ log))
    (Q : ℕ → Log → Type 0) (f : (log : Log) (event : Event) → P log → (at : Closes basin policy log event) → Q at.step log) where
  abbrev AllClosed : Log → Type 0
  AllClosed log = (step : ℕ) (before : Log) → before_closing step log ≡ Some before → Q step before

  next_closed : (log : Log) (event : Event) → Came basin policy log event → P log × AllClosed log → P (event ∷ log) × AllClosed (event ∷ log)
  next_closed log event comes both = (next log event comes both.0, λ step before is. by step before (is_closing step event) refl is)
    where
      by : (step : ℕ) (before : Log) (test : Bool) → is_closing step event ≡ test → (if test then Some log else before_closing step log) ≡ Some before
          → Q step before
      by step before true here is =
          subst (Q step) (same_Some _ _ is) (closing_of basin policy (λ s. Q s log) log event step (f log event both.0) comes here)
      by step before false there is = both.1 step before is

  pub all_closed : (inputs : List (Cell × ℤ)) (log : Log) → IsLed basin policy inputs log → P (with_inputs [] inputs)
      → (step : ℕ) (before : Log) → before_closing step log ≡ Some before → Q step before
  all_closed inputs log run begun =
      (along basin policy (λ log. P log × AllClosed log) next_closed inputs log run
      (begun, λ step before is. absurd (none-some before (sym (none_closed [] inputs (λ t. refl) step) ∙ is)))).1
