-- How many timesteps a run has opened.
use Rattle.rw_base.proofs.Common.{◌≡◌, ◌∙◌, ◌∷◌, ◌+◌, ℕ, ℤ, List, [], ap, arith, refl, subst, sym}
use Rattle.rw_base.specs.declared.number.Cell.{Cell}
use Rattle.rw_model.specs.Draft.{Draft}
use Rattle.rw_run.specs.Log.{Event, Log, placed, opened, closed, idle, solved, fired, fault}
use Rattle.rw_run.specs.Next.{Policy}
use Rattle.rw_run.specs.RunOf.{end_of, last_closed, opened_by, opened_in}
use Rattle.rw_run.specs.Runs.{IsOver, IsRun, Leads, Standing, rests, inside, over, with_inputs, standing}
use Rattle.rw_run.proofs.Placed.{closed-placed, standing-placed}
use Rattle.rw_run.proofs.StepEvents.{IsAfter, IsWithin, is_after}

-- what a log that stands so has opened, by its last closed timestep
abbrev HasOpened : Standing → ℕ → ℕ → Type 0
HasOpened (rests step) count last = (count ≡ step) × (last ≡ step)
HasOpened (inside step) count last = (count ≡ step) × (step ≡ last + 1)
HasOpened over count last = count ≡ last + 1

abbrev Has : Log → Type 0
Has log = HasOpened (standing log) (opened_in log) (last_closed log)

has_within : (step : ℕ) (event : Event) (log : Log) → IsWithin step event → HasOpened (inside step) (opened_in log) (last_closed log)
    → Has (event ∷ log)
has_within step (closed k) log is has = (has.0 ∙ sym is, refl)
has_within step (idle object k looked) log is has = (has.0 ∙ sym is, is ∙ has.1)
has_within step (solved dispatch) log is has = (has.0 ∙ sym is, is ∙ has.1)
has_within step (fired firing) log is has = (has.0 ∙ sym is, is ∙ has.1)
has_within step (fault why) log is has = has.0 ∙ has.1
has_within step event log is has = absurd is

has_next : (at : Standing) (event : Event) (log : Log) → IsAfter at event → HasOpened at (opened_in log) (last_closed log) → Has (event ∷ log)
has_next (rests step) event log after has =
    subst (λ e. Has (e ∷ log)) (sym after) (ap (λ n. n + 1) has.0, ap (λ n. n + 1) (sym has.1))
has_next (inside step) event log after has = has_within step event log after has
has_next over event log after has = absurd after

has_led : (basin : Draft) (policy : Policy) (old : Log) (events : List Event) (new : Log) → Leads basin policy old events new → Has old → Has new
has_led basin policy old [] new leads has = subst Has (sym leads) has
has_led basin policy old (event ∷ events) new leads has =
    has_led basin policy (event ∷ old) events new leads.1
    (has_next (standing old) event old (is_after basin policy old event (standing old) leads.0) has)

opened-placed : (log : Log) (inputs : List (Cell × ℤ)) → opened_in (with_inputs log inputs) ≡ opened_in log
opened-placed log [] = refl
opened-placed log (input ∷ inputs) = opened-placed (placed input.0 input.1 ∷ log) inputs

has_begun : (inputs : List (Cell × ℤ)) → Has (with_inputs [] inputs)
has_begun inputs =
    subst (λ at. HasOpened at (opened_in (with_inputs [] inputs)) (last_closed (with_inputs [] inputs)))
    (sym (standing-placed [] inputs refl)) (opened-placed [] inputs, closed-placed [] inputs)

at_end : (basin : Draft) (log : Log) → Has log → IsOver basin (standing log) → opened_in log ≡ opened_by (end_of log) (last_closed log)
at_end basin [] has is = refl
at_end basin (placed cell value ∷ log) has is = has.0 ∙ sym has.1
at_end basin (closed step ∷ log) has is = has.0 ∙ sym has.1
at_end basin (fault why ∷ log) has is = has
at_end basin (event ∷ log) has is = absurd is

pub opened_steps : (basin : Draft) (policy : Policy) (inputs : List (Cell × ℤ)) (log : Log) → IsRun basin policy inputs log
    → opened_in log ≡ opened_by (end_of log) (last_closed log)
opened_steps basin policy inputs log run =
    at_end basin log (has_led basin policy (with_inputs [] inputs) run.events log run.leads (has_begun inputs)) run.end
