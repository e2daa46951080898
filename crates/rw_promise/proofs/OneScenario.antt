-- A scenario has one run, by its own batch alone.
use Rattle.rw_commands.proofs.Common.{IsSomeAnd, List, Some, [], ap, ap₂, inl, inr, refl, subst, sym, zero, suc, ℕ, ℤ, ◌++◌, ◌+◌, ◌∙◌, ◌∷◌, ◌≡◌}
use Rattle.std.specs.Prelude.{map, slice_get, take}
use Rattle.std.proofs.Common.{append-nil, append_assoc}
use Rattle.rw_report.specs.Outcome.{outcome_by}
use Rattle.rw_report.specs.Whole.{trace_of_run}
use Rattle.rw_mrm.specs.Summary.{summary_of}
use Rattle.rw_base.specs.declared.number.Cell.{Cell}
use Rattle.rw_model.proofs.Common.{Draft}
use Rattle.rw_inputs.specs.Edits.{Batch, after_batch}
use Rattle.rw_inputs.specs.Inputs.{Inputs, value_at}
use Rattle.rw_run.proofs.Common.{IsRun, Log, Policy}
use Rattle.rw_commands.specs.Many.{AreFirstPieces, AreScenarioRuns, IsScenarioRun, as_ended, many_texts, scenario_texts}
use Rattle.rw_commands.specs.Policy.{PolicyFile as Rules}
use Rattle.rw_commands.specs.RunText.{policy_in_run}
use Rattle.rw_promise.proofs.OneAnswer.{one_log}

module _ (one_run : (basin : Draft) (policy : Policy) (inputs : List (Cell × ℤ)) (log other : Log) → IsRun basin policy inputs log
    → IsRun basin policy inputs other → log ≡ other) (basin : Draft) (policy : Rules) (inputs others : Inputs)
    (same : (slot step : ℕ) → value_at inputs slot step ≡ value_at others slot step) where
  pub one_scenario : (batch : Batch) (log other : Log) → IsScenarioRun basin policy inputs batch log → IsScenarioRun basin policy others batch other
      → log ≡ other
  one_scenario batch log other left right =
      let given : value_at inputs ≡ value_at others = λ i slot step. (same slot step) i in
      let edited : value_at left.edited ≡ value_at right.edited = left.values ∙ ap (after_batch batch) given ∙ sym right.values in
      one_log one_run basin (policy_in_run basin policy) left.edited right.edited log other edited left.run right.run

  pub one_many : (batches : List Batch) (logs more : List Log) → AreScenarioRuns basin policy inputs batches logs
      → AreScenarioRuns basin policy others batches more → logs ≡ more
  one_many [] [] [] left right = refl
  one_many [] [] (other ∷ more) left right = absurd right
  one_many [] (log ∷ logs) more left right = absurd left
  one_many (batch ∷ batches) [] more left right = absurd left
  one_many (batch ∷ batches) (log ∷ logs) [] left right = absurd right
  one_many (batch ∷ batches) (log ∷ logs) (other ∷ more) left right =
      ap₂ (λ l ls. l ∷ ls) (one_scenario batch log other left.0 right.0) (one_many batches logs more left.1 right.1)

  -- the sections of the first runs are the first sections
  first_runs : (number count : ℕ) (batches : List Batch) (logs more : List Log) → AreScenarioRuns basin policy inputs batches logs
      → AreScenarioRuns basin policy others (take count batches) more
      → (rest : List (List ℕ)) × (scenario_texts basin number logs ≡ scenario_texts basin number more ++ rest)
  first_runs number zero batches logs [] left right = (scenario_texts basin number logs, refl)
  first_runs number zero batches logs (other ∷ more) left right = absurd right
  first_runs number (suc count) [] logs [] left right = (scenario_texts basin number logs, refl)
  first_runs number (suc count) [] logs (other ∷ more) left right = absurd right
  first_runs number (suc count) (batch ∷ batches) [] more left right = absurd left
  first_runs number (suc count) (batch ∷ batches) (log ∷ logs) [] left right = absurd right
  first_runs number (suc count) (batch ∷ batches) (log ∷ logs) (other ∷ more) left right =
      let same_log = one_scenario batch log other left.0 right.0 in
      let rest = first_runs (number + 1) count batches logs more left.1 right.1 in
      (rest.0, ap₂ (λ (l : Log) (ts : List (List ℕ)). trace_of_run basin number (outcome_by basin l) ∷ ts) same_log rest.1)

  pub many_front : (batches : List Batch) (logs : List Log) (texts front : List (List ℕ)) → AreScenarioRuns basin policy inputs batches logs
      → texts ≡ many_texts basin logs → AreFirstPieces basin policy others batches front → (rest : List (List ℕ)) × (texts ≡ front ++ rest)
  many_front batches logs texts front are is (inl first) =
      let begun = first_runs 1 first.0 batches logs first.1 are first.2 in
      let tail : List (List ℕ) = summary_of basin (map (as_ended basin) logs) ∷ [] in (
        begun.0 ++ tail,
        is ∙ ap (λ (t : List (List ℕ)). t ++ tail) begun.1
            ∙ append_assoc (scenario_texts basin 1 first.1) begun.0 tail
            ∙ ap (λ (f : List (List ℕ)). f ++ (begun.0 ++ tail)) (sym first.3),
      )
  many_front batches logs texts front are is (inr whole) =
      let same_logs = one_many batches logs whole.0 are whole.1 in
      ([], is ∙ ap (many_texts basin) same_logs ∙ sym whole.2 ∙ sym (append-nil front))

-- what stands in a place is the run of the batch there
pub in_place : (basin : Draft) (policy : Rules) (inputs : Inputs) (batches : List Batch) (logs : List Log) (place : ℕ) (batch : Batch)
    → AreScenarioRuns basin policy inputs batches logs → slice_get batches place ≡ Some batch
    → IsSomeAnd (slice_get logs place) (IsScenarioRun basin policy inputs batch)
in_place basin policy inputs [] [] place batch are there = absurd cc
in_place basin policy inputs [] (log ∷ logs) place batch are there = absurd are
in_place basin policy inputs (first ∷ batches) [] place batch are there = absurd are
in_place basin policy inputs (first ∷ batches) (log ∷ logs) zero batch are there =
    let same : first ≡ batch = cc in subst (λ b. IsScenarioRun basin policy inputs b log) same are.0
in_place basin policy inputs (first ∷ batches) (log ∷ logs) (suc place) batch are there =
    in_place basin policy inputs batches logs place batch are.1 there
