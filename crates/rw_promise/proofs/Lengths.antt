-- How many sections a text has.
use Rattle.rw_commands.proofs.Common.{FilesRead, IsSomeAnd, List, None, Option, RunEnd, Some, [], ap, length, refl, suc, ℕ, ◌++◌, ◌+◌, ◌∙◌, ◌∷◌, ◌≡◌}
use Rattle.rw_base.proofs.Common.{arith}
use Rattle.rw_model.proofs.Common.{Draft}
use Rattle.rw_inputs.specs.Edits.{Batch}
use Rattle.rw_inputs.specs.Inputs.{Inputs}
use Rattle.rw_run.proofs.Common.{Log}
use Rattle.rw_commands.specs.Many.{AreScenarioRuns, many_texts, scenario_texts, status_of_runs}
use Rattle.rw_commands.specs.Policy.{PolicyFile as Rules}
use Rattle.rw_commands.specs.RunText.{IsRulesText}
use Rattle.rw_commands.specs.Sections.{AreSections, GivenInputs, edited_given, first_given}
use Rattle.rw_commands.specs.Written.{IsTextOf, batches_in, scenarios_in}
use Rattle.rw_commands.specs.declared.extras.Extras.{Extras}
use Rattle.rw_words.specs.declared.job.Job.TheVariants as J

sections_count : (basin : Draft) (policy : Rules) (extras : Extras) (number : ℕ) (given : GivenInputs) (batches : List Batch) (end : RunEnd)
    (texts : List (List ℕ)) → AreSections (IsRulesText basin policy extras) number given batches end texts → length texts ≡ length batches + 1
sections_count basin policy extras number given [] end texts are = ap (λ (t : List (List ℕ)). length t) are.1
sections_count basin policy extras number given (batch ∷ batches) end texts are =
    let rest = sections_count basin policy extras (number + 1) (edited_given given are.5.0) batches end are.2 are.5.2 in
    let whole : length texts ≡ suc (length are.2) = ap (λ (t : List (List ℕ)). length t) are.3 in
    let is : length texts ≡ suc (length batches) + 1 = omega (arith, whole, rest) in
    is

count_of_both : (basin : Draft) (extras : Extras) (batches : List Batch) (end : RunEnd) (texts : List (List ℕ)) (policy : Option Rules)
    (inputs : Option Inputs)
    → IsSomeAnd policy (λ p. IsSomeAnd inputs (λ i. AreSections (IsRulesText basin p extras) 0 (first_given i) batches end texts))
    → length texts ≡ length batches + 1
count_of_both basin extras batches end texts None inputs are = absurd are
count_of_both basin extras batches end texts (Some p) None are = absurd are
count_of_both basin extras batches end texts (Some p) (Some i) are = sections_count basin p extras 0 (first_given i) batches end texts are

pub run_count : (extras : Extras) (files : FilesRead) (status : ℕ) (texts : List (List ℕ)) → IsTextOf J.Run extras files status texts
    → length texts ≡ length (batches_in files) + 1
run_count extras files status texts whole =
    count_of_both files.basin extras (batches_in files) whole.0 texts files.policy files.inputs whole.2

scenarios_count : (basin : Draft) (policy : Rules) (inputs : Inputs) (number : ℕ) (batches : List Batch) (logs : List Log) (last : List ℕ)
    → AreScenarioRuns basin policy inputs batches logs → length (scenario_texts basin number logs ++ last ∷ []) ≡ length batches + 1
scenarios_count basin policy inputs number [] [] last are = refl
scenarios_count basin policy inputs number [] (log ∷ logs) last are = absurd are
scenarios_count basin policy inputs number (batch ∷ batches) [] last are = absurd are
scenarios_count basin policy inputs number (batch ∷ batches) (log ∷ logs) last are =
    let rest = scenarios_count basin policy inputs (number + 1) batches logs last are.1 in
    let whole : suc (length (scenario_texts basin (number + 1) logs ++ last ∷ [])) ≡ suc (length batches) + 1 = omega (arith, rest) in
    whole

count_of_many : (basin : Draft) (batches : List Batch) (status : ℕ) (texts : List (List ℕ)) (policy : Option Rules) (inputs : Option Inputs)
    → IsSomeAnd policy (λ p. IsSomeAnd inputs (λ i. (logs : List Log) × AreScenarioRuns basin p i batches logs
    × (status ≡ status_of_runs logs) × (texts ≡ many_texts basin logs))) → length texts ≡ length batches + 1
count_of_many basin batches status texts None inputs are = absurd are
count_of_many basin batches status texts (Some p) None are = absurd are
count_of_many basin batches status texts (Some p) (Some i) are =
    ap (λ (t : List (List ℕ)). length t) are.3 ∙ scenarios_count basin p i 1 batches are.0 _ are.1

pub many_count : (extras : Extras) (files : FilesRead) (status : ℕ) (texts : List (List ℕ)) → IsTextOf J.Mrm extras files status texts
    → length texts ≡ length (scenarios_in files) + 1
many_count extras files status texts whole = count_of_many files.basin (scenarios_in files) status texts files.policy files.inputs whole
