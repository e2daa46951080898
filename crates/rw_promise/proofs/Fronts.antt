-- What was written before a call broke off begins the text of the command.
use Rattle.rw_commands.proofs.Common.{FilesRead, IsSomeAnd, List, None, Option, RunEnd, Some, [], ap, refl, sym, ℕ, ℤ, ◌++◌, ◌+◌, ◌∙◌, ◌∷◌, ◌≡◌}
use Rattle.rw_base.specs.declared.number.Cell.{Cell}
use Rattle.rw_model.proofs.Common.{Draft}
use Rattle.rw_inputs.specs.Edits.{Batch}
use Rattle.rw_inputs.specs.Inputs.{Inputs}
use Rattle.rw_run.proofs.Common.{IsRun, Log, Policy}
use Rattle.rw_promise.proofs.OneAnswer.{first_sections, one_why}
use Rattle.rw_promise.proofs.OneOutput.{one_book, one_line}
use Rattle.rw_promise.proofs.OneText.{one_simulated}
use Rattle.rw_promise.proofs.OneScenario.{many_front}
use Rattle.rw_commands.specs.Many.{AreFirstPieces, AreScenarioRuns, many_texts, status_of_runs}
use Rattle.rw_commands.specs.Policy.{PolicyFile as Rules}
use Rattle.rw_commands.specs.RunText.{IsBalanceOfRules, IsPlainText, IsRulesText, IsSampleText, IsWhyOfRules}
use Rattle.rw_commands.specs.Sections.{AreFirstSections, AreSections, first_given}
use Rattle.rw_commands.specs.Written.{IsFrontOf, IsTextOf, batches_in, scenarios_in}
use Rattle.rw_commands.specs.declared.extras.Extras.{Extras}
use Rattle.rw_words.specs.declared.job.Job.TheVariants as J

same_of : {A B : Type 0} (found : Option A) (text : A → B) (one other : B) → IsSomeAnd found (λ x. one ≡ text x)
    → IsSomeAnd found (λ x. other ≡ text x) → other ≡ one
same_of None text one other left right = absurd left
same_of (Some x) text one other left right = right ∙ sym left

pub check_front : (extras : Extras) (files : FilesRead) (status : ℕ) (texts front : List (List ℕ)) → IsTextOf J.Check extras files status texts
    → IsFrontOf J.Check extras files front → front ≡ texts
check_front extras files status texts front whole part = same_of files.policy _ texts front whole.1 part

pub compile_front : (extras : Extras) (files : FilesRead) (status : ℕ) (texts front : List (List ℕ))
    → IsTextOf J.Compile extras files status texts → IsFrontOf J.Compile extras files front → front ≡ texts
compile_front extras files status texts front whole part = same_of files.policy _ texts front whole.1 part

module _ (one_run : (basin : Draft) (policy : Policy) (inputs : List (Cell × ℤ)) (log other : Log) → IsRun basin policy inputs log
    → IsRun basin policy inputs other → log ≡ other) where
  of_both : (basin : Draft) (extras : Extras) (batches : List Batch) (end : RunEnd) (texts front : List (List ℕ)) (policy : Option Rules)
      (inputs : Option Inputs)
      → IsSomeAnd policy (λ p. IsSomeAnd inputs (λ i. AreSections (IsRulesText basin p extras) 0 (first_given i) batches end texts))
      → IsSomeAnd policy (λ p. IsSomeAnd inputs (λ i. AreFirstSections (IsRulesText basin p extras) 0 (first_given i) batches front))
      → (rest : List (List ℕ)) × (texts ≡ front ++ rest)
  of_both basin extras batches end texts front None inputs left right = absurd left
  of_both basin extras batches end texts front (Some p) None left right = absurd left
  of_both basin extras batches end texts front (Some p) (Some i) left right =
      first_sections one_run basin p extras 0 (first_given i) batches end texts front left right

  pub run_front : (extras : Extras) (files : FilesRead) (status : ℕ) (texts front : List (List ℕ)) → IsTextOf J.Run extras files status texts
      → IsFrontOf J.Run extras files front → (rest : List (List ℕ)) × (texts ≡ front ++ rest)
  run_front extras files status texts front whole part =
      of_both files.basin extras (batches_in files) whole.0 texts front files.policy files.inputs whole.2 part

  of_many : (basin : Draft) (batches : List Batch) (status : ℕ) (texts front : List (List ℕ)) (policy : Option Rules) (inputs : Option Inputs)
      → IsSomeAnd policy (λ p. IsSomeAnd inputs (λ i. (logs : List Log) × AreScenarioRuns basin p i batches logs
      × (status ≡ status_of_runs logs) × (texts ≡ many_texts basin logs)))
      → IsSomeAnd policy (λ p. IsSomeAnd inputs (λ i. AreFirstPieces basin p i batches front)) → (rest : List (List ℕ)) × (texts ≡ front ++ rest)
  of_many basin batches status texts front None inputs left right = absurd left
  of_many basin batches status texts front (Some p) None left right = absurd left
  of_many basin batches status texts front (Some p) (Some i) left right =
      many_front one_run basin p i i (λ slot step. refl) batches left.0 texts front left.1 left.3 right

  pub front_many : (extras : Extras) (files : FilesRead) (status : ℕ) (texts front : List (List ℕ)) → IsTextOf J.Mrm extras files status texts
      → IsFrontOf J.Mrm extras files front → (rest : List (List ℕ)) × (texts ≡ front ++ rest)
  front_many extras files status texts front whole part =
      of_many files.basin (scenarios_in files) status texts front files.policy files.inputs whole part

  -- the section of the one run, or nothing
  plain_begin : (basin : Draft) (extras : Extras) (inputs : Inputs) (end : RunEnd) (texts front : List (List ℕ))
      → AreSections (IsPlainText basin extras) 0 (first_given inputs) [] end texts
      → AreFirstSections (IsPlainText basin extras) 0 (first_given inputs) [] front → (rest : List (List ℕ)) × (texts ≡ front ++ rest)
  plain_begin basin extras inputs end texts [] left right = (texts, refl)
  plain_begin basin extras inputs end texts (text ∷ []) left right =
      let both = one_simulated one_run extras.order basin extras 0 inputs inputs end right.0 left.0 text (λ slot step. refl) left.2 right.1 in
      ([], left.1 ∙ ap (λ (t : List ℕ). t ∷ []) both.1)
  plain_begin basin extras inputs end texts (text ∷ next ∷ more) left right = absurd right

  of_plain : (basin : Draft) (extras : Extras) (end : RunEnd) (texts front : List (List ℕ)) (inputs : Option Inputs)
      → IsSomeAnd inputs (λ i. AreSections (IsPlainText basin extras) 0 (first_given i) [] end texts)
      → IsSomeAnd inputs (λ i. AreFirstSections (IsPlainText basin extras) 0 (first_given i) [] front)
      → (rest : List (List ℕ)) × (texts ≡ front ++ rest)
  of_plain basin extras end texts front None left right = absurd left
  of_plain basin extras end texts front (Some i) left right = plain_begin basin extras i end texts front left right

  pub simulate_front : (extras : Extras) (files : FilesRead) (status : ℕ) (texts front : List (List ℕ))
      → IsTextOf J.Simulate extras files status texts → IsFrontOf J.Simulate extras files front → (rest : List (List ℕ)) × (texts ≡ front ++ rest)
  simulate_front extras files status texts front whole part = of_plain files.basin extras whole.0 texts front files.inputs whole.2 part

  of_reason : (basin : Draft) (end : RunEnd) (texts front : List (List ℕ)) (policy : Option Rules) (inputs : Option Inputs) (cell : Option Cell)
      → IsSomeAnd policy (λ p. IsSomeAnd inputs (λ i. IsSomeAnd cell (λ c.
      (text : List ℕ) × (texts ≡ text ∷ []) × IsWhyOfRules basin p i c end text)))
      → IsSomeAnd policy (λ p. IsSomeAnd inputs (λ i. IsSomeAnd cell (λ c.
      (other : RunEnd) × (text : List ℕ) × (front ≡ text ∷ []) × IsWhyOfRules basin p i c other text))) → front ≡ texts
  of_reason basin end texts front None inputs cell left right = absurd left
  of_reason basin end texts front (Some p) None cell left right = absurd left
  of_reason basin end texts front (Some p) (Some i) None left right = absurd left
  of_reason basin end texts front (Some p) (Some i) (Some c) left right =
      let both = one_why one_run basin p i i c right.0 end right.1 left.0 (λ slot step. refl) right.3 left.2 in
      right.2 ∙ ap (λ (t : List ℕ). t ∷ []) both.1 ∙ sym left.1

  pub why_front : (extras : Extras) (files : FilesRead) (status : ℕ) (texts front : List (List ℕ)) → IsTextOf J.Why extras files status texts
      → IsFrontOf J.Why extras files front → front ≡ texts
  why_front extras files status texts front whole part =
      of_reason files.basin whole.0 texts front files.policy files.inputs files.cell whole.2 part

  of_books : (extras : Extras) (basin : Draft) (end : RunEnd) (texts front : List (List ℕ)) (policy : Option Rules) (inputs : Option Inputs)
      → IsSomeAnd policy (λ p. IsSomeAnd inputs (λ i. (text : List ℕ) × (texts ≡ text ∷ []) × IsBalanceOfRules basin p i end text))
      → IsSomeAnd policy (λ p. IsSomeAnd inputs (λ i.
      (other : RunEnd) × (text : List ℕ) × (front ≡ text ∷ []) × IsBalanceOfRules basin p i other text)) → front ≡ texts
  of_books extras basin end texts front None inputs left right = absurd left
  of_books extras basin end texts front (Some p) None left right = absurd left
  of_books extras basin end texts front (Some p) (Some i) left right =
      let both = one_book one_run extras basin p i i right.0 end right.1 left.0 (λ slot step. refl) right.3 left.2 in
      right.2 ∙ ap (λ (t : List ℕ). t ∷ []) both.1 ∙ sym left.1

  pub balance_front : (extras : Extras) (files : FilesRead) (status : ℕ) (texts front : List (List ℕ))
      → IsTextOf J.Balance extras files status texts → IsFrontOf J.Balance extras files front → front ≡ texts
  balance_front extras files status texts front whole part =
      of_books extras files.basin whole.0 texts front files.policy files.inputs whole.2 part

  of_sample : (extras : Extras) (basin : Draft) (seed : ℕ) (texts front : List (List ℕ)) (policy : Option Rules) (inputs : Option Inputs)
      → IsSomeAnd policy (λ p. IsSomeAnd inputs (λ i. (text : List ℕ) × (texts ≡ text ∷ []) × IsSampleText basin p i seed text))
      → IsSomeAnd policy (λ p. IsSomeAnd inputs (λ i. (text : List ℕ) × (front ≡ text ∷ []) × IsSampleText basin p i seed text))
      → front ≡ texts
  of_sample extras basin seed texts front None inputs left right = absurd left
  of_sample extras basin seed texts front (Some p) None left right = absurd left
  of_sample extras basin seed texts front (Some p) (Some i) left right =
      let line = one_line one_run extras basin p i i seed right.0 left.0 (λ slot step. refl) right.2 left.2 in
      right.1 ∙ ap (λ (t : List ℕ). t ∷ []) line ∙ sym left.1

  pub sample_front : (extras : Extras) (files : FilesRead) (status seed : ℕ) (texts front : List (List ℕ))
      → IsTextOf (J.Sample seed) extras files status texts → IsFrontOf (J.Sample seed) extras files front → front ≡ texts
  sample_front extras files status seed texts front whole part =
      of_sample extras files.basin seed texts front files.policy files.inputs whole.1 part
