-- Runs of scenarios, one after another, and the summary of all.
use Rattle.rw_commands.proofs.Common.{Change, Err, MatchResult, Ok, Result, FilesRead, GrowsBy, GrowsBy-trans, IsSomeAnd, List, None, Option, PrefixGrew, PrefixGrew-right, Refusal}
use Rattle.rw_commands.proofs.Common.{Rose, RunEnd, Settled, Fault, SinkView, Some, [], ap, ap₂, arith, change, inl, inr, length, refl, subst, sym}
use Rattle.rw_commands.proofs.Common.{take_all, true, false, zero, suc, ℕ, ◌++◌, ◌+◌, ◌∙◌, ◌∷◌, ◌≡◌, ◌≤◌, ◌<◌, if◌then◌else◌}
use Rattle.rw_base.proofs.Common.{Bool, append-nil, append_assoc, length-append, length-map, length-take-le, map, map-append, get_or, take, take_more}
use Rattle.rw_model.proofs.Common.{Draft}
use Rattle.rw_inputs.specs.Edits.{Batch}
use Rattle.rw_inputs.specs.Inputs.{Inputs}
use Rattle.rw_report.specs.Outcome.{outcome_by, outcome_of}
use Rattle.rw_report.specs.Section.{trace_heading, columns, rows, values_in}
use Rattle.rw_report.specs.Whole.{trace_of_run}
use Rattle.rw_run.specs.Log.{Cells, Log, cells_of}
use Rattle.rw_run.specs.RunOf.{IsRunOf, end_of}
use Rattle.rw_run.specs.declared.run.Run.{Run}
use Rattle.rw_series.specs.Series.{held}
use Rattle.rw_mrm.specs.Summary.{Ended, IsTallyOf, summary_of}
use Rattle.rw_mrm.specs.Tally.{IsTallyFor, Tally, is_settled, no_runs, with_run}
use Rattle.rw_commands.specs.Many.{AppendsMany, AreFirstPieces, AreScenarioRuns, IsScenarioRun, as_ended, many_texts, scenario_texts, status_of_runs}
use Rattle.rw_commands.specs.Policy.{PolicyFile as Rules}
use Rattle.rw_commands.specs.RunText.{ComesBy, IsCodeOf}
use Rattle.rw_commands.specs.Scenarios.{ComesAfter, StopsAtScenario, StopsAtText, WritesScenario, WritesScenarios}
use Rattle.rw_commands.specs.Sections.{StopsAmongPieces, joined_sections}
use Rattle.rw_commands.specs.Written.{Appends, OfBoth, Stops, scenarios_in}
use Rattle.rw_words.specs.declared.job.Job.TheVariants.{Mrm}
use Rattle.rw_commands.specs.declared.extras.Extras.{Extras}
use Rattle.rw_commands.specs.declared.refusal.Refusal.TheVariants.{CannotWrite, NoMemory}
use Rattle.rw_commands.proofs.BalanceText.{told_alike}
use Rattle.rw_commands.proofs.SampleText.{of_both}
use Rattle.rw_commands.proofs.SectionLemmas.{pieces_stopped, still}

-- ---- lists

-- one piece more
pub joined_more : (texts : List (List ℕ)) (text : List ℕ) → joined_sections (texts ++ text ∷ []) ≡ joined_sections texts ++ text
joined_more [] text = append-nil text
joined_more (first ∷ texts) text =
    ap (λ t. first ++ t) (joined_more texts text) ∙ sym (append_assoc first (joined_sections texts) text)

texts_more : (basin : Draft) (number : ℕ) (logs : List Log) (log : Log) → scenario_texts basin number (logs ++ log ∷ [])
    ≡ scenario_texts basin number logs ++ trace_of_run basin (number + length logs) (outcome_by basin log) ∷ []
texts_more basin number [] log =
    let same : number ≡ number + 0 = omega arith in ap (λ n. trace_of_run basin n (outcome_by basin log) ∷ []) same
texts_more basin number (first ∷ logs) log =
    let same : number + 1 + length logs ≡ number + suc (length logs) = omega arith in
    ap (λ texts. trace_of_run basin number (outcome_by basin first) ∷ texts)
    (texts_more basin (number + 1) logs log
    ∙ ap (λ n. scenario_texts basin (number + 1) logs ++ trace_of_run basin n (outcome_by basin log) ∷ []) same)

length-texts : (basin : Draft) (number : ℕ) (logs : List Log) → length (scenario_texts basin number logs) ≡ length logs
length-texts basin number [] = refl
length-texts basin number (log ∷ logs) = ap suc (length-texts basin (number + 1) logs)

runs_more : (basin : Draft) (policy : Rules) (inputs : Inputs) (batches : List Batch) (logs : List Log) (batch : Batch) (log : Log)
    → AreScenarioRuns basin policy inputs batches logs → IsScenarioRun basin policy inputs batch log
    → AreScenarioRuns basin policy inputs (batches ++ batch ∷ []) (logs ++ log ∷ [])
runs_more basin policy inputs [] [] batch log are is = (is, tt)
runs_more basin policy inputs [] (first ∷ logs) batch log are is = absurd are
runs_more basin policy inputs (one ∷ batches) [] batch log are is = absurd are
runs_more basin policy inputs (one ∷ batches) (first ∷ logs) batch log are is = (are.0, runs_more basin policy inputs batches logs batch log are.1 is)

length-runs : (basin : Draft) (policy : Rules) (inputs : Inputs) (batches : List Batch) (logs : List Log)
    → AreScenarioRuns basin policy inputs batches logs → length logs ≡ length batches
length-runs basin policy inputs [] [] are = refl
length-runs basin policy inputs [] (log ∷ logs) are = absurd are
length-runs basin policy inputs (batch ∷ batches) [] are = absurd are
length-runs basin policy inputs (batch ∷ batches) (log ∷ logs) are = ap suc (length-runs basin policy inputs batches logs are.1)

status_more : (logs : List Log) (log : Log) → status_of_runs (logs ++ log ∷ []) ≡ (if is_settled (end_of log) then status_of_runs logs else 1)
status_more [] log = refl
status_more (first ∷ logs) log =
    ap (λ rest. if is_settled (end_of first) then rest else 1) (status_more logs log)
    ∙ swap (is_settled (end_of first)) (is_settled (end_of log)) (status_of_runs logs)
  where
    swap : (one other : Bool) (rest : ℕ) → (if one then (if other then rest else 1) else 1) ≡ (if other then (if one then rest else 1) else 1)
    swap true other rest = refl
    swap false true rest = refl
    swap false false rest = refl

-- ---- a run

-- the run of the scenario, by its events
pub its_log : (basin : Draft) (policy : Rules) (inputs : Inputs) (batch : Batch) (run : Run)
    → (after : ComesAfter basin policy inputs batch run) → IsScenarioRun basin policy inputs batch after.comes.log
its_log basin policy inputs batch run after =
    record { edited = after.edited; values = after.values; run = after.comes.whole; verified = after.comes.verified }

abbrev section_by : Draft → ℕ → RunEnd → ℕ → Cells → List ℕ
section_by basin number end closed cells = trace_heading basin number end ++ (columns basin ++ rows basin (values_in cells) closed)

its_text : (basin : Draft) (number : ℕ) (log : Log) (run : Run) → IsRunOf basin log run
    → trace_of_run basin number (outcome_of run) ≡ trace_of_run basin number (outcome_by basin log)
its_text basin number log run is = told_alike basin log run is (section_by basin number)

its_cells : (basin : Draft) (log : Log) (run : Run) → IsRunOf basin log run → held run.series ≡ cells_of basin log
its_cells basin log run is = λ i cell. is.cells cell i

-- a tally of no runs is one for the basin
pub empty_for : (basin : Draft) (room : ℕ) (tally : Tally) → tally ≡ no_runs basin room → IsTallyFor basin tally
empty_for basin room tally is = record { slots = ap (λ (t : Tally). t.slots) is; steps = ap (λ (t : Tally). t.steps) is }

-- a tally for the basin stays one
pub stays_for : (basin : Draft) (settled : Bool) (cells : Cells) (tally next : Tally) → next ≡ with_run basin settled cells tally
    → IsTallyFor basin tally → IsTallyFor basin next
stays_for basin settled cells tally next is made = subst (IsTallyFor basin) (sym is) (by settled)
  where
    by : (b : Bool) → IsTallyFor basin (with_run basin b cells tally)
    by true = record { slots = made.slots; steps = made.steps }
    by false = record { slots = made.slots; steps = made.steps }

-- it has one run more, and the same room
pub counts_more : (basin : Draft) (settled : Bool) (cells : Cells) (tally next : Tally) → next ≡ with_run basin settled cells tally
    → (next.runs ≡ tally.runs + 1) × (next.room ≡ tally.room)
counts_more basin true cells tally next is = (ap (λ (t : Tally). t.runs) is, ap (λ (t : Tally). t.room) is)
counts_more basin false cells tally next is = (ap (λ (t : Tally). t.runs) is, ap (λ (t : Tally). t.room) is)

-- ---- one after another

module _ (basin : Draft) (policy : Rules) (inputs : Inputs) (batches : List Batch) where
  -- nothing was written
  pub none_written : (out : SinkView) (tally : Tally) → IsTallyFor basin tally → IsTallyOf basin [] tally
      → WritesScenarios basin policy inputs batches 0 (change out out) tally 0
  none_written out tally made none = record {
    logs = [];
    are = tt;
    grew = still out.contents out.contents refl;
    later = omega arith;
    made = made;
    kept = none;
    status_is = refl;
  }

  module _ (count : ℕ) (old now after : SinkView) (tally : Tally) (status : ℕ) (so_far : WritesScenarios basin policy inputs batches count (change old now) tally status)
      (within : count < length batches) (batch : Batch) (there : batch ≡ get_or batches count batch) where
    abbrev logs : List Log
    logs = so_far.logs

    counted : length logs ≡ count
    counted = length-runs basin policy inputs (take count batches) logs so_far.are ∙ length-take-le count batches (omega (arith, within))

    one_more : (log : Log) → IsScenarioRun basin policy inputs batch log
        → AreScenarioRuns basin policy inputs (take (count + 1) batches) (logs ++ log ∷ [])
    one_more log is =
        subst (λ bs. AreScenarioRuns basin policy inputs bs (logs ++ log ∷ []))
        (ap (λ b. take count batches ++ b ∷ []) there ∙ sym (take_more batches count batch within))
        (runs_more basin policy inputs (take count batches) logs batch log so_far.are is)

    text_more : (log : Log) → joined_sections (scenario_texts basin 1 (logs ++ log ∷ []))
        ≡ joined_sections (scenario_texts basin 1 logs) ++ trace_of_run basin (count + 1) (outcome_by basin log)
    text_more log =
        let at : 1 + length logs ≡ count + 1 = let same = counted in omega (arith, same) in
        ap joined_sections (texts_more basin 1 logs log)
        ∙ joined_more (scenario_texts basin 1 logs) (trace_of_run basin (1 + length logs) (outcome_by basin log))
        ∙ ap (λ n. joined_sections (scenario_texts basin 1 logs) ++ trace_of_run basin n (outcome_by basin log)) at

    -- one more was
    pub more_written : (run : Run) (next : Tally) → WritesScenario basin policy inputs batch (count + 1) (change now after) run
        → ((runs : List Ended) (t : Tally) (r : Ended) → IsTallyOf basin runs t → IsTallyOf basin (runs ++ r ∷ []) (with_run basin r.settled r.cells t))
        → next ≡ with_run basin (is_settled run.end) (held run.series) tally
        → WritesScenarios basin policy inputs batches (count + 1) (change old after) next (if is_settled run.end then status else 1)
    more_written run next wrote goes_on is =
        let log = wrote.after.comes.log in
        let its = wrote.after.comes.is in
        let tallied : next ≡ with_run basin (is_settled (end_of log)) (cells_of basin log) tally =
        is ∙ ap₂ (λ end cells. with_run basin (is_settled end) cells tally) its.end (its_cells basin log run its) in
        record {
          logs = logs ++ log ∷ [];
          are = one_more log (its_log basin policy inputs batch run wrote.after);
          grew = subst (λ t. GrowsBy old.contents after.contents t) (sym (text_more log))
              (GrowsBy-trans old.contents now.contents after.contents (joined_sections (scenario_texts basin 1 logs))
              (trace_of_run basin (count + 1) (outcome_by basin log)) so_far.grew
              (subst (λ t. GrowsBy now.contents after.contents t) (its_text basin (count + 1) log run its) wrote.grew));
          later = let first = so_far.later in let second = wrote.later in omega (arith, first, second);
          made = stays_for basin (is_settled run.end) (held run.series) tally next is so_far.made;
          kept = subst (λ (t : Tally). IsTallyOf basin (map (as_ended basin) (logs ++ log ∷ [])) t) (sym tallied)
              (subst (λ runs. IsTallyOf basin runs (with_run basin (is_settled (end_of log)) (cells_of basin log) tally))
              (sym (map-append (as_ended basin) logs (log ∷ [])))
              (goes_on (map (as_ended basin) logs) tally (as_ended basin log) so_far.kept));
          status_is = ap₂ (λ end s. if is_settled end then s else 1) its.end so_far.status_is ∙ sym (status_more logs log);
        }

    -- or it stops there
    pub stops_at : (why : Refusal) → StopsAtScenario basin policy inputs batch (count + 1) (change now after) why
        → StopsAmongPieces (AreFirstPieces basin policy inputs batches) (length batches) (change old after) why
    stops_at NoMemory stops = record {
      texts = scenario_texts basin 1 logs;
      are = inl (count, logs, so_far.are, refl);
      fewer = let same = length-texts basin 1 logs in let all = counted in omega (arith, same, all, within);
      grew = subst (λ o. GrowsBy old.contents o (joined_sections (scenario_texts basin 1 logs))) (sym stops) so_far.grew;
    }
    stops_at CannotWrite stops =
        let log = stops.1.comes.log in
        let its = stops.1.comes.is in
        let at : 1 + length logs ≡ count + 1 = let same = counted in omega (arith, same) in
        record {
          done = scenario_texts basin 1 logs;
          text = trace_of_run basin (count + 1) (outcome_by basin log);
          are = inl (
            count + 1,
            logs ++ log ∷ [],
            one_more log (its_log basin policy inputs batch stops.0 stops.1),
            sym (texts_more basin 1 logs log
                ∙ ap (λ n. scenario_texts basin 1 logs ++ trace_of_run basin n (outcome_by basin log) ∷ []) at),
          );
          grew = PrefixGrew-right old.contents now.contents after.contents (joined_sections (scenario_texts basin 1 logs))
              (trace_of_run basin (count + 1) (outcome_by basin log)) so_far.grew
              (subst (λ t. PrefixGrew now.contents after.contents t) (its_text basin (count + 1) log stops.0 its) stops.2);
          rose = let least = so_far.later in let rose = stops.3 in omega (arith, least, rose);
        }
    stops_at why stops = absurd stops

  -- the summary stands behind all of them
  module _ (old now after : SinkView) (tally : Tally) (status : ℕ) (all : WritesScenarios basin policy inputs batches (length batches) (change old now) tally status)
      (text : List ℕ) (text_is : text ≡ summary_of basin (map (as_ended basin) all.logs)) where
    abbrev ran : List Log
    ran = all.logs

    every : AreScenarioRuns basin policy inputs batches ran
    every = subst (λ bs. AreScenarioRuns basin policy inputs bs ran) (take_all (length batches) batches (omega arith)) all.are

    whole : joined_sections (many_texts basin ran) ≡ joined_sections (scenario_texts basin 1 ran) ++ text
    whole = joined_more (scenario_texts basin 1 ran) (summary_of basin (map (as_ended basin) ran))
        ∙ ap (λ t. joined_sections (scenario_texts basin 1 ran) ++ t) (sym text_is)

    pub all_written : GrowsBy now.contents after.contents text → AppendsMany basin policy inputs batches (change old after) status
    all_written grew = record {
      logs = ran;
      are = every;
      status_is = all.status_is;
      grew = subst (λ t. GrowsBy old.contents after.contents t) (sym whole)
          (GrowsBy-trans old.contents now.contents after.contents (joined_sections (scenario_texts basin 1 ran)) text all.grew grew);
    }

    pub stops_last : (why : Refusal) → StopsAtText text (change now after) why
        → StopsAmongPieces (AreFirstPieces basin policy inputs batches) (length batches) (change old after) why
    stops_last NoMemory stops = record {
      texts = scenario_texts basin 1 ran;
      are = inl (length batches, ran, all.are, refl);
      fewer = let same = length-texts basin 1 ran in let counted = length-runs basin policy inputs batches ran every in omega (arith, same, counted);
      grew = subst (λ o. GrowsBy old.contents o (joined_sections (scenario_texts basin 1 ran))) (sym stops) all.grew;
    }
    stops_last CannotWrite stops = record {
      done = scenario_texts basin 1 ran;
      text = text;
      are = inr (ran, every, ap (λ t. scenario_texts basin 1 ran ++ t ∷ []) text_is);
      grew = PrefixGrew-right old.contents now.contents after.contents (joined_sections (scenario_texts basin 1 ran)) text all.grew stops.0;
      rose = let least = all.later in let rose = stops.1 in omega (arith, least, rose);
    }
    stops_last why stops = absurd stops

  -- memory is wanting before the first
  pub none_stops : (out : SinkView) → StopsAmongPieces (AreFirstPieces basin policy inputs batches) (length batches) (change out out) NoMemory
  none_stops out = record { texts = []; are = inl (0, [], tt, refl); fewer = omega arith; grew = still out.contents out.contents refl }

-- ---- of the files of a command

module _ (files : FilesRead) (policy : Rules) (inputs : Inputs) (scenarios : List Batch) (has_policy : files.policy ≡ Some policy)
    (has_inputs : files.inputs ≡ Some inputs) (has_scenarios : scenarios_in files ≡ scenarios) (extras : Extras) (out : Change SinkView) where
  pub many_appended : (status : ℕ) → AppendsMany files.basin policy inputs scenarios out status → Appends Mrm extras files out status
  many_appended status all = record {
    texts = many_texts files.basin all.logs;
    is = of_both files policy inputs has_policy has_inputs
        (λ p i. (logs : List Log) × AreScenarioRuns files.basin p i (scenarios_in files) logs × (status ≡ status_of_runs logs)
        × (many_texts files.basin all.logs ≡ many_texts files.basin logs))
        (all.logs, subst (λ bs. AreScenarioRuns files.basin policy inputs bs all.logs) (sym has_scenarios) all.are, all.status_is, refl);
    grew = all.grew;
  }

  pub many_stopped : (why : Refusal) → StopsAmongPieces (AreFirstPieces files.basin policy inputs scenarios) (length scenarios) out why
      → Stops Mrm extras files out why
  many_stopped why stops =
      pieces_stopped Mrm extras files out (AreFirstPieces files.basin policy inputs (scenarios_in files)) (inr refl)
      (λ texts are. of_both files policy inputs has_policy has_inputs (λ p i. AreFirstPieces files.basin p i (scenarios_in files) texts) are) why
      (subst (λ bs. StopsAmongPieces (AreFirstPieces files.basin policy inputs bs) (length bs) out why) (sym has_scenarios) stops)

  pub many_done : (result : Result ℕ Refusal) → MatchResult result (AppendsMany files.basin policy inputs scenarios out)
      (StopsAmongPieces (AreFirstPieces files.basin policy inputs scenarios) (length scenarios) out)
      → MatchResult result (Appends Mrm extras files out) (Stops Mrm extras files out)
  many_done (Ok status) all = many_appended status all
  many_done (Err why) stops = many_stopped why stops
