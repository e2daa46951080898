-- Where one of those that wait is picked each time, the log is one in any order.
use Rattle.std.specs.Prelude.{◌-◌, slice_get}
use Rattle.std.proofs.lemmas.Option.{slice_get-get_or}
use Rattle.rw_base.proofs.Common.{get_or_from_slice_get, slice_get_within}
use Rattle.rw_run.specs.Choice.{CanBeChosen, MayFollow, MayLead}
use Rattle.rw_run.specs.Runs.{Standing, follows_by, over, rests}
use Rattle.rw_dispatch.specs.Pick.{Picking, picked_at}
use Rattle.rw_engine.specs.Picked.{LeadsBy, PicksAt, turn_after}
use Rattle.rw_engine.proofs.Common.{Draft, Event, List, Log, None, Option, Policy, Some, [], ap, arith, inside, length, none-some, refl, standing}
use Rattle.rw_engine.proofs.Common.{sym, waiting, ℕ, ◌<◌, ◌∙◌, ◌∷◌, ◌≡◌, ◌≤◌}

pub chosen_at : (waits : List ℕ) (place : ℕ) (found : Option ℕ) → slice_get waits place ≡ found → (1 ≤ length waits → place < length waits)
    → CanBeChosen waits found
chosen_at [] place None is one = refl
chosen_at (first ∷ rest) place None is one =
    absurd (none-some _ (sym is ∙ slice_get-get_or (first ∷ rest) place first (one (omega arith))))
chosen_at waits place (Some object) is one = (place, slice_get_within waits place object is, get_or_from_slice_get waits place object object is)

-- some one of those that wait
some_chosen : (waits : List ℕ) → (found : Option ℕ) × CanBeChosen waits found
some_chosen [] = (None, refl)
some_chosen (first ∷ rest) = (Some first, (0, omega arith, refl))

module _ (basin : Draft) (policy : Policy) (rule : Picking) where
  may_follow : (turn : ℕ) (log : Log) (event : Event) (stands : Standing) → standing log ≡ stands
      → follows_by basin policy log (picked_at rule turn (waiting basin log)) stands ≡ Some event → PicksAt rule turn (waiting basin log) stands
      → MayFollow basin policy log event
  may_follow turn log event (rests step) at follow picks =
      let one = some_chosen (waiting basin log) in record { object = one.0; waits = one.1; is = ap (follows_by basin policy log one.0) at ∙ follow }
  may_follow turn log event (inside step) at follow picks = record {
    object = picked_at rule turn (waiting basin log);
    waits = chosen_at (waiting basin log) (rule turn (waiting basin log)) (picked_at rule turn (waiting basin log)) refl picks;
    is = ap (follows_by basin policy log (picked_at rule turn (waiting basin log))) at ∙ follow;
  }
  may_follow turn log event over at follow picks = absurd (none-some _ follow)

  pub may_lead : (turn : ℕ) (old : Log) (events : List Event) (new : Log) → LeadsBy basin policy rule turn old events new
      → MayLead basin policy old events new
  may_lead turn old [] new leads = leads
  may_lead turn old (event ∷ events) new leads =
      (may_follow turn old event (standing old) refl leads.0 leads.1, may_lead (turn_after turn event) (event ∷ old) events new leads.2)
