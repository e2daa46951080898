-- The sections of a session's runs.
use Rattle.rw_commands.proofs.Common.{Change, IfOk, IsSome, List, Err, None, Ok, Option, Result, RunEnd, Refusal, SinkView, Some, [], change, false}
use Rattle.rw_commands.proofs.Common.{if◌then◌else◌, length, nat_tests, refl, subst, sym, true, ℕ, ◌+◌, ◌==◌, ◌∷◌, ◌≡◌}
use Rattle.rw_base.proofs.Common.{Bool, IsTrue, arith, length-map}
use Rattle.rw_base.specs.declared.number.StepNo.{StepNo}
use Rattle.rw_engine.specs.Passing.{ComesTo}
use Rattle.rw_inputs.specs.Edits.{Batch, after_batch}
use Rattle.rw_inputs.specs.Placings.{placings}
use Rattle.rw_inputs.specs.Inputs.{Inputs, value_at}
use Rattle.rw_model.proofs.Common.{Draft}
use Rattle.rw_report.specs.Outcome.{outcome_of}
use Rattle.rw_report.specs.Whole.{whole_of}
use Rattle.rw_run.proofs.OneRun.{one_run}
use Rattle.rw_run.specs.Runs.{IsRun}
use Rattle.rw_run.specs.declared.run.Run.{Run}
use Rattle.rw_rules.specs.Rules.{policy_in}
use Rattle.rpl_verify.specs.Verified.{Accepted}
use Rattle.rw_rerun.specs.Session.{Applies, IsSessionOf, IsStarted, Session, numbers_of_steps}
use Rattle.rw_commands.specs.Policy.{PolicyFile as Rules}
use Rattle.rw_commands.specs.Reused.{IsNextSection, WritesFrom, told_of}
use Rattle.rw_commands.specs.RunText.{ComesBy, CountsRun, CountsSections, IsCodeOf, IsRerun, IsRulesText, policy_in_run}
use Rattle.rw_commands.specs.Sections.{AppendsOne, CountsAll, GivenInputs, edited_given, first_given}
use Rattle.rw_commands.specs.declared.extras.Extras.{Extras}
use Rattle.rw_commands.proofs.AskedText.{reused_silent}
use Rattle.rw_commands.proofs.RulesText.{TextsOfRuns, section_by}
use Rattle.rw_commands.proofs.SectionLemmas.{goes_on, last_section}

-- ---- what is told, and counted

later_told : (first : Bool) (reran : List StepNo) → first ≡ false → (if first then None else Some reran) ≡ Some reran
later_told false reran is = refl
later_told true reran is = absurd cc

-- a section behind another isn't the first one
pub later_number : (number : ℕ) → (number + 1 == 0) ≡ false
later_number number = grind (arith, nat_tests)

length_numbers : (steps : List StepNo) → length steps ≡ length (numbers_of_steps steps)
length_numbers steps = sym (length-map steps (λ (step : StepNo). step.0))

-- the inputs after a batch
pub values_from : (basin : Draft) (code : Accepted) (given : GivenInputs) (batch : Batch) (old new : Session) → given.inputs ≡ old.inputs
    → Applies basin code batch old new → value_at new.inputs ≡ after_batch batch (value_at given.inputs)
values_from basin code given batch old new same applies = subst (λ i. value_at new.inputs ≡ after_batch batch (value_at i)) (sym same) applies.values

module _ (basin : Draft) (policy : Rules) (code : Accepted) (means : IsCodeOf basin policy code) where
  -- a session that was started
  pub first_next : (inputs : Inputs) (session : Session) → IsStarted basin code inputs session
      → IsNextSection basin policy 0 (first_given inputs) session
  first_next inputs session started = record {
    inputs_are = sym started.inputs_are;
    log = started.is.log;
    run =
        means.runs inputs started.is.log (subst (λ i. IsRun basin (policy_in basin code) (placings basin i) started.is.log) started.inputs_are
        started.is.whole);
    rerun = refl;
    count = (numbers_of_steps session.reran, started.opened_steps, length_numbers session.reran);
  }

  -- and one to which a batch was applied
  pub later_next : (number : ℕ) (given : GivenInputs) (batch : Batch) (old new : Session) → (number == 0) ≡ false → given.inputs ≡ old.inputs
      → IsSessionOf basin code old → Applies basin code batch old new → IsNextSection basin policy number (edited_given given new.inputs) new
  later_next number given batch old new later same was applies =
      let before : IsRun basin (policy_in_run basin policy) (placings basin given.inputs) was.log =
      subst (λ i. IsRun basin (policy_in_run basin policy) (placings basin i) was.log) (sym same) (means.runs old.inputs was.log was.whole) in
      let rerun = applies.rerun was.log was.whole in
      record {
        inputs_are = refl;
        log = applies.is.log;
        run = means.runs new.inputs applies.is.log applies.is.whole;
        rerun = subst (IsRerun basin (policy_in_run basin policy) true (edited_given given new.inputs) applies.is.log)
            (sym (later_told (number == 0) new.reran later)) (was.log, before, rerun);
        count = (was.log, numbers_of_steps new.reran, before, rerun, length_numbers new.reran);
      }

  -- the section of its run
  pub next_section : TextsOfRuns → (extras : Extras) (number : ℕ) (given : GivenInputs) (session : Session) (run : Run)
      (reran : Option (List StepNo)) (text : List ℕ)
      → extras.reuse ≡ true → ComesTo basin (policy_in basin code) session.inputs run → (IsTrue extras.trace → IsSome run.trace)
      → IsNextSection basin policy number given session
      → reran ≡ told_of number session.reran → text ≡ whole_of basin number (outcome_of run) reran extras.flags extras.trace
      → IsRulesText basin policy extras number given run.end text
  next_section texts extras number given session run reran text reuses comes kept next told is =
      let by : ComesBy basin policy given.inputs run =
      means.comes given.inputs run (subst (λ i. ComesTo basin (policy_in basin code) i run) (sym next.inputs_are) comes) in
      let same : next.log ≡ by.log = one_run basin (policy_in_run basin policy) (placings basin given.inputs) next.log by.log next.run by.whole in
      section_by texts basin policy extras reran number given run text by kept (reused_silent extras.asked extras.reuse reuses)
      (subst (λ reuse. IsRerun basin (policy_in_run basin policy) reuse given by.log reran) (sym reuses)
      (subst (λ log. IsRerun basin (policy_in_run basin policy) true given log reran) same
      (subst (IsRerun basin (policy_in_run basin policy) true given next.log) (sym told) next.rerun)))
      is

-- ---- the sections from one on

module _ (basin : Draft) (policy : Rules) (extras : Extras) (number : ℕ) (given : GivenInputs) (session : Session)
    (next : IsNextSection basin policy number given session) where
  counts : CountsRun basin (policy_in_run basin policy) given (length session.reran)
  counts = (next.log, next.run, next.count)

  -- it is the last one
  pub writes_last : (batches : List Batch) (out : Change SinkView) (steps : ℕ) (end : RunEnd) → batches ≡ []
      → AppendsOne (IsRulesText basin policy extras) number given out end
      → WritesFrom basin policy extras number given batches (length session.reran) out (change steps steps) (Ok end)
  writes_last batches out steps end none one =
      subst (λ bs. WritesFrom basin policy extras number given bs (length session.reran) out (change steps steps) (Ok end)) (sym none)
      (record {
        text = last_section (IsRulesText basin policy extras) number given out end one;
        counted = (0, omega arith, subst (CountsRun basin (policy_in_run basin policy) given) (omega arith) counts);
      })

  -- or more follow
  module _ (batch : Batch) (rest : List Batch) (edited : Inputs) (old now after : SinkView) (end : RunEnd)
      (one : AppendsOne (IsRulesText basin policy extras) number given (change old now) end)
      (values : value_at edited ≡ after_batch batch (value_at given.inputs)) (again before mid last : ℕ) (counted : mid ≡ before + again) where
    rest_counted : (result : Result RunEnd Refusal)
        → IfOk result (λ end. (more : ℕ) × (last ≡ mid + more)
        × CountsAll (CountsRun basin (policy_in_run basin policy)) (edited_given given edited) rest (again + more))
        → IfOk result (λ end. (more : ℕ) × (last ≡ before + more)
        × CountsAll (CountsRun basin (policy_in_run basin policy)) given (batch ∷ rest) (length session.reran + more))
    rest_counted (Ok end) more = (
      again + more.0,
      let all = more.1 in omega (arith, all, counted),
      (length session.reran, again + more.0, refl, counts, (edited, values, more.2)),
    )
    rest_counted (Err why) more = tt

    pub writes_more : (result : Result RunEnd Refusal)
        → WritesFrom basin policy extras (number + 1) (edited_given given edited) rest again (change now after) (change mid last) result
        → WritesFrom basin policy extras number given (batch ∷ rest) (length session.reran) (change old after) (change before last) result
    writes_more result more = record {
      text = goes_on (IsRulesText basin policy extras) number given edited batch rest old now after end one values result more.text;
      counted = rest_counted result more.counted;
    }

-- all of them
pub all_counted : (basin : Draft) (policy : Rules) (inputs : Inputs) (batches : List Batch) (first before mid last : ℕ)
    (result : Result RunEnd Refusal) → mid ≡ before + first
    → IfOk result (λ end. (rest : ℕ) × (last ≡ mid + rest)
    × CountsAll (CountsRun basin (policy_in_run basin policy)) (first_given inputs) batches (first + rest))
    → IfOk result (λ end. CountsSections basin policy inputs batches (change before last))
all_counted basin policy inputs batches first before mid last (Ok end) counted all =
    (first + all.0, let rest = all.1 in omega (arith, rest, counted), all.2)
all_counted basin policy inputs batches first before mid last (Err why) counted all = tt
