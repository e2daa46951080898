-- Where the one that has waited longest is picked, a picked run is a run.
use Rattle.std.specs.Prelude.{Err, IfOk, Ok, Result, slice_get}
use Rattle.rw_base.specs.declared.memory.NoMemory.{NoMemory}
use Rattle.rw_base.specs.declared.number.Cell.{Cell}
use Rattle.rw_dispatch.specs.Pick.{IsPickedRun, LeadsPicked, Picking, oldest}
use Rattle.rw_run.specs.Frame.{log_after}
use Rattle.rw_run.specs.Runs.{IsRun, follows_by, standing}
use Rattle.rw_run.specs.declared.run.Run.{Run}
use Rattle.rpl_verify.specs.Verified.{Accepted}
use Rattle.rw_rules.specs.Rules.{policy_in}
use Rattle.rw_engine.specs.Passing.{EndsStep, RunsStep}
use Rattle.rw_engine.specs.Picked.{EndsStepBy, ComesToPicked, LeadsBy, PassesBy, RunsStepBy, turn_after}
use Rattle.rw_engine.specs.declared.step_end.StepEnd.{StepEnd}
use Rattle.rw_engine.specs.declared.step_end.StepEnd.TheVariants.{Closed as IsClosed, Fault as IsFaulted}
use Rattle.rw_engine.proofs.Common.{ComesTo, Draft, Engine, Event, Inputs, Leads, List, Log, Passes, Policy, [], ap, first_of, follows, opened}
use Rattle.rw_engine.proofs.Common.{with_inputs, refl, sym, waiting, ℕ, ℤ, ◌∙◌, ◌∷◌, ◌≡◌}

first_is : (waits : List ℕ) → first_of waits ≡ slice_get waits 0
first_is [] = refl
first_is (first ∷ rest) = refl

module _ (basin : Draft) (policy : Policy) where
  follows_oldest : (log : Log) → follows basin policy log ≡ follows_by basin policy log (slice_get (waiting basin log) 0) (standing log)
  follows_oldest log = ap (λ object. follows_by basin policy log object (standing log)) (first_is (waiting basin log))

  oldest_leads : (turn : ℕ) (old : Log) (events : List Event) (new : Log) → LeadsBy basin policy oldest turn old events new
      → Leads basin policy old events new
  oldest_leads turn old [] new leads = leads
  oldest_leads turn old (event ∷ events) new leads =
      (follows_oldest old ∙ leads.0, oldest_leads (turn_after turn event) (event ∷ old) events new leads.2)

  picked_leads : (old : Log) (events : List Event) (new : Log) → LeadsPicked basin policy oldest old events new → Leads basin policy old events new
  picked_leads old [] new leads = leads
  picked_leads old (event ∷ events) new leads = (follows_oldest old ∙ leads.0, picked_leads (event ∷ old) events new leads.1)

  leads_picked : (old : Log) (events : List Event) (new : Log) → Leads basin policy old events new → LeadsPicked basin policy oldest old events new
  leads_picked old [] new leads = leads
  leads_picked old (event ∷ events) new leads = (sym (follows_oldest old) ∙ leads.0, leads_picked (event ∷ old) events new leads.1)

  pub oldest_is_run : (inputs : List (Cell × ℤ)) (log : Log) → IsPickedRun basin policy oldest inputs log → IsRun basin policy inputs log
  oldest_is_run inputs log run = record { events = run.events; leads = picked_leads (with_inputs [] inputs) run.events log run.leads; end = run.end }

  pub run_is_oldest : (inputs : List (Cell × ℤ)) (log : Log) → IsRun basin policy inputs log → IsPickedRun basin policy oldest inputs log
  run_is_oldest inputs log run = record { events = run.events; leads = leads_picked (with_inputs [] inputs) run.events log run.leads; end = run.end }

  -- what it comes to is what the run does
  pub comes_oldest : (inputs : Inputs) (run : Run) → ComesToPicked basin policy oldest inputs run → ComesTo basin policy inputs run
  comes_oldest inputs run comes = record { log = comes.log; whole = oldest_is_run _ comes.log comes.whole; is = comes.is }

  pub comes_run : (inputs : Inputs) (result : Result Run NoMemory) → IfOk result (ComesToPicked basin policy oldest inputs)
      → IfOk result (ComesTo basin policy inputs)
  comes_run inputs (Ok run) comes = comes_oldest inputs run comes
  comes_run inputs (Err want) comes = tt

  closes : (turn step : ℕ) (end : StepEnd) (old new : Log) (engine : Engine) → EndsStepBy basin policy oldest turn end step old new engine
      → EndsStep basin policy end step old new engine
  closes turn step (IsFaulted why) old new engine closing = tt
  closes turn step IsClosed old new engine closing = record {
    first = closing.first;
    events = closing.events;
    timestep = record {
      last = closing.last;
      rest = closing.rest;
      next_one = closing.next_one;
      goes = closing.goes;
      leads =
          oldest_leads turn (opened step ∷ old) (closing.first ∷ closing.events) (log_after (closing.first ∷ closing.events) (opened step ∷ old))
          closing.leads;
    };
    is = closing.is;
    noted = closing.noted;
  }

  -- and so with a timestep
  passes : (turn step : ℕ) (end : StepEnd) (log : Log) (engine : Engine) → PassesBy basin policy oldest turn log end engine step
      → Passes basin policy log end engine step
  passes turn step end log engine by = record {
    events = by.events;
    last = by.last;
    before = by.before;
    leads = oldest_leads turn log by.events (by.last ∷ by.before) by.leads;
    within = by.within;
    ends = by.ends;
    shows = by.shows;
    closes = closes turn step end log (by.last ∷ by.before) engine by.closes;
  }

pub runs_oldest : (basin : Draft) (policy : Accepted) (step : ℕ) (old new : Engine) (result : Result StepEnd NoMemory)
    → RunsStepBy basin policy oldest step old new result
    → RunsStep basin policy step old new result
runs_oldest basin policy step old new (Ok end) runs = record {
  made = runs.made;
  passes = λ log shows before. passes basin (policy_in basin policy) old.turns step end log new (runs.passes log shows before);
  before = λ log shows. tt;
  untold = tt;
  kept = runs.kept;
  closed_steps = runs.closed_steps;
}
runs_oldest basin policy step old new (Err fault) runs = record {
  made = runs.made;
  passes = λ log shows before. tt;
  before = runs.before;
  untold = runs.untold;
  kept = runs.kept;
  closed_steps = tt;
}
