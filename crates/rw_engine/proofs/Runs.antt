-- A run, timestep by timestep.
use Rattle.rw_engine.proofs.Common.{ComesTo, Draft, Engine, Event, Inputs, IsBefore, IsOver, IsRunOf, List, Log, RunFault, Shows, [], ap, arith}
use Rattle.rw_engine.proofs.Common.{placings, Policy, with_inputs, refl, rests, standing, subst, sym, ℕ, ◌++◌, ◌+◌, ◌<◌, ◌∙◌, ◌∷◌, ◌≡◌}
use Rattle.std.specs.Prelude.{Err, IsErrAnd, MatchResult, Ok, Result, ◌-◌, ◌^◌, ◌≤◌}
use Rattle.rw_base.specs.declared.memory.NoMemory.{NoMemory}
use Rattle.rpl_verify.specs.Verified.{Accepted}
use Rattle.rw_dispatch.specs.Pick.{IsPickedRun, Picking}
use Rattle.rw_engine.specs.Picked.{ComesToPicked, Finishes, LeadsBy, PassesBy, RunsAllBy, StandsPicked, turns_after}
use Rattle.rw_run.specs.declared.run.Run.{Run}
use Rattle.rw_engine.specs.declared.step_end.StepEnd.TheVariants.{Closed as IsClosed, Fault as IsFault}
use Rattle.rw_run.specs.declared.run.RunEnd.{RunEnd}
use Rattle.rw_run.proofs.SameRuns.{same_runs}
use Rattle.rw_run.specs.Next.{no_rules}
use Rattle.rw_run.specs.RunOf.{opened_by}
use Rattle.rw_rules.specs.Rules.{policy_in}
use Rattle.rw_engine.proofs.Common.{Fault, ap₂, end_of}
use Rattle.rw_run.proofs.Placed.{settled_at_rest, standing-placed}
use Rattle.rw_engine.proofs.Steps.{leads_on}
use Rattle.rw_engine.proofs.Anyhow.{may_lead}
use Rattle.rw_engine.proofs.Turns.{leads_picked, turns_more, turns_placed}

pub before_step : (basin : Draft) (log : Log) (step : ℕ) → standing log ≡ rests step → step < basin.control.stamps.count
    → IsBefore basin (step + 1) log
before_step basin log step rest near = record { last = step; rest = rest; next_one = refl; exists = omega arith }

module _ (basin : Draft) (policy : Policy) (rule : Picking) (inputs : Inputs) where
  pub stands_first : (engine : Engine) → Shows basin engine (with_inputs [] (placings basin inputs)) → engine.turns ≡ 0
      → StandsPicked basin policy rule inputs engine 0
  stands_first engine shows none = record {
    log = with_inputs [] (placings basin inputs);
    events = [];
    leads = refl;
    shows = shows;
    rest = standing-placed [] (placings basin inputs) refl;
    turned = none;
  }

  -- a closed timestep leads on
  pub stands_next : (old new : Engine) (step : ℕ) → (stands : StandsPicked basin policy rule inputs old step)
      → PassesBy basin policy rule old.turns stands.log IsClosed new (step + 1) → StandsPicked basin policy rule inputs new (step + 1)
  stands_next old new step stands passes = record {
    log = passes.last ∷ passes.before;
    events = stands.events ++ passes.events;
    leads =
        leads_on basin policy rule 0 (with_inputs [] (placings basin inputs)) stands.events passes.events stands.log (passes.last ∷ passes.before)
        stands.leads
        (subst (λ turn. LeadsBy basin policy rule turn stands.log passes.events (passes.last ∷ passes.before)) stands.turned passes.leads);
    shows = passes.shows;
    rest = ap (λ event. standing (event ∷ passes.before)) passes.ends;
    turned = passes.turned.same refl ∙ ap (λ turn. turns_after turn passes.events) stands.turned ∙ sym (turns_more 0 stands.events passes.events);
  }

  -- events that the inputs led to are those of the picked run
  abbrev whole : (events : List Event) (log : Log) → LeadsBy basin policy rule 0 (with_inputs [] (placings basin inputs)) events log
      → turns_after 0 events < 2 ^ 64 - 1
      → IsOver basin (standing log) → IsPickedRun basin policy rule (placings basin inputs) log
  whole events log leads few over = record {
    events = events;
    leads =
        leads_picked basin policy rule 0 (with_inputs [] (placings basin inputs)) events log (sym (turns_placed [] (placings basin inputs)))
        (omega arith) few leads;
    end = over;
  }

  -- after the last timestep the run is whole
  pub comes_settled : (engine : Engine) (step : ℕ) (run : Run) → (stands : StandsPicked basin policy rule inputs engine step)
      → step ≡ basin.control.stamps.count → engine.turns < 2 ^ 64 - 1 → IsRunOf basin stands.log run → ComesToPicked basin policy rule inputs run
  comes_settled engine step run stands last few is = record {
    log = stands.log;
    any = may_lead basin policy rule 0 (with_inputs [] (placings basin inputs)) stands.events stands.log stands.leads;
    whole = whole stands.events stands.log stands.leads (subst (λ turn. turn < 2 ^ 64 - 1) stands.turned few)
        (subst (IsOver basin) (sym (stands.rest ∙ ap rests last)) (omega arith));
    is = is;
  }

  -- and after a fault
  pub comes_faulted : (old new : Engine) (step at : ℕ) (why : RunFault) (run : Run) → (stands : StandsPicked basin policy rule inputs old step)
      → (passes : PassesBy basin policy rule old.turns stands.log (IsFault why) new at) → new.turns < 2 ^ 64 - 1
      → IsRunOf basin (passes.last ∷ passes.before) run
      → ComesToPicked basin policy rule inputs run
  comes_faulted old new step at why run stands passes few is =
      let least = passes.turned.least in
      let all : turns_after 0 (stands.events ++ passes.events) ≡ turns_after old.turns passes.events =
      turns_more 0 stands.events passes.events ∙ ap (λ turn. turns_after turn passes.events) (sym stands.turned) in
      let leads =
      leads_on basin policy rule 0 (with_inputs [] (placings basin inputs)) stands.events passes.events stands.log (passes.last ∷ passes.before)
      stands.leads
      (subst (λ turn. LeadsBy basin policy rule turn stands.log passes.events (passes.last ∷ passes.before)) stands.turned passes.leads) in record {
        log = passes.last ∷ passes.before;
        any =
            may_lead basin policy rule 0 (with_inputs [] (placings basin inputs)) (stands.events ++ passes.events)
            (passes.last ∷ passes.before) leads;
        whole = whole (stands.events ++ passes.events) (passes.last ∷ passes.before) leads
            (omega (arith, all, least, few))
            (subst (λ event. IsOver basin (standing (event ∷ passes.before))) (sym passes.ends) tt);
        is = is;
      }

-- ---- how many timesteps were opened

pub counted_settled : (old new before : ℕ) (end : RunEnd) (closed : ℕ) (log : Log) → standing log ≡ rests before → end ≡ end_of log → closed ≡ before
    → new ≡ old + before → new ≡ old + opened_by end closed
counted_settled old new before end closed log rest is last counted =
    counted ∙ ap (λ n. old + n) (sym (ap₂ opened_by (is ∙ settled_at_rest log before rest) last))

pub counted_fault : (old new before : ℕ) (end : RunEnd) (closed : ℕ) (why : RunFault) {mid : ℕ} → end ≡ Fault why → closed ≡ before
    → mid ≡ old + before → new ≡ mid + 1
    → new ≡ old + opened_by end closed
counted_fault old new before end closed why is last were more =
    let all : new ≡ old + (before + 1) = omega (arith, were, more) in all ∙ ap (λ n. old + n) (sym (ap₂ opened_by is last))

-- ---- without rules

-- a run of code in which no rule is is a run of no rules
pub without_rules : (basin : Draft) (inputs : Inputs) (run : Run)
    → ComesTo basin (policy_in basin (record { blocks = []; budgets = []; resolved = [] })) inputs run
    → ComesTo basin no_rules inputs run
without_rules basin inputs run comes = record {
  log = comes.log;
  whole = same_runs basin (policy_in basin (record { blocks = []; budgets = []; resolved = [] })) no_rules (placings basin inputs) comes.log
      (record { rules = refl; same = λ rule step values is. absurd (omega (arith, is.first, is.last)) }) comes.whole;
  is = comes.is;
}

-- memory wants for the rest of a run
pub unrun : (basin : Draft) (policy : Accepted) (rule : Picking) (engine : Engine) (before after : ℕ) (result : Result Run NoMemory) (why : NoMemory)
    → IsErrAnd result (λ fault. fault ≡ why) → before ≤ after → after ≤ before + basin.control.stamps.count
    → RunsAllBy basin policy rule engine before after result
unrun basin policy rule engine before after (Ok run) why is rises few = absurd is
unrun basin policy rule engine before after (Err fault) why is rises few = record {
  comes = λ inputs shows. tt;
  opened_steps = λ inputs shows. tt;
  closed_steps = tt;
  kept = λ kept. tt;
  rises = rises;
  few = few;
}

-- no engine is left of which a run could be handed out
pub unpassed : (basin : Draft) (policy : Accepted) (rule : Picking) (old new : Engine) (before after : ℕ) (result : Result (Unit {0}) NoMemory)
    (why : NoMemory) → IsErrAnd result (λ fault. fault ≡ why) → before ≤ after → after ≤ before + basin.control.stamps.count
    → MatchResult result (λ done. (run : Run) → Finishes new run → RunsAllBy basin policy rule old before after (Ok run))
    (λ fault. RunsAllBy basin policy rule old before after (Err fault))
unpassed basin policy rule old new before after (Ok done) why is rises few = absurd is
unpassed basin policy rule old new before after (Err fault) why is rises few =
    unrun basin policy rule old before after (Err fault) fault refl rises few
