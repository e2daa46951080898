-- The event that follows is one that may.
use Rattle.std.proofs.Common.{◌≡◌, ℕ, ◌≤◌, zero, suc, List, [], ◌∷◌, length, Option, None, Some, refl, sym, ap, subst, arith}
use Rattle.rw_model.specs.Draft.{Draft}
use Rattle.rw_run.specs.Choice.{CanBeChosen, MayFollow, MayLead}
use Rattle.rw_run.specs.Log.{Event, Log}
use Rattle.rw_run.specs.Next.{Policy}
use Rattle.rw_run.specs.Runs.{Leads, follows, follows_by, standing}
use Rattle.rw_run.specs.Waiting.{first_of, first_waiting, waiting}

first_chosen : (waits : List ℕ) → CanBeChosen waits (first_of waits)
first_chosen [] = refl
first_chosen (first ∷ rest) = (0, omega arith, refl)

pub may_follow : (basin : Draft) (policy : Policy) (log : Log) (event : Event) → follows basin policy log ≡ Some event
    → MayFollow basin policy log event
may_follow basin policy log event is =
    record { object = first_waiting basin log; waits = first_chosen (waiting basin log); is = is }

pub may_lead : (basin : Draft) (policy : Policy) (old : Log) (events : List Event) (new : Log) → Leads basin policy old events new
    → MayLead basin policy old events new
may_lead basin policy old [] new leads = leads
may_lead basin policy old (event ∷ events) new leads =
    (may_follow basin policy old event leads.0, may_lead basin policy (event ∷ old) events new leads.1)

-- where one waits at most, there is no choice
chosen_is_first : (waits : List ℕ) (object : Option ℕ) → length waits ≤ 1 → CanBeChosen waits object → object ≡ first_of waits
chosen_is_first waits None few is = ap first_of (sym is)
chosen_is_first [] (Some object) few (k, less, same) = absurd (omega (arith, less))
chosen_is_first (first ∷ []) (Some object) few (zero, less, same) = ap Some (sym same)
chosen_is_first (first ∷ []) (Some object) few (suc k, less, same) = absurd (omega (arith, less))
chosen_is_first (first ∷ second ∷ rest) (Some object) few is = absurd (omega (arith, few))

pub no_choice : (basin : Draft) (policy : Policy) (log : Log) (event : Event) → length (waiting basin log) ≤ 1 → MayFollow basin policy log event
    → follows basin policy log ≡ Some event
no_choice basin policy log event few may =
    subst (λ o. follows_by basin policy log o (standing log) ≡ Some event) (chosen_is_first (waiting basin log) may.object few may.waits) may.is
