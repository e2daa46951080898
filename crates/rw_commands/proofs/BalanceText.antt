-- The books of water of a run by a policy.
use Rattle.rw_commands.proofs.Common.{FilesRead, List, RunEnd, Some, refl, status_of_end, [], ℕ, ◌++◌, ◌∙◌, ◌∷◌, ◌≡◌}
use Rattle.rw_inputs.specs.Inputs.{Inputs}
use Rattle.rw_model.proofs.Common.{Draft}
use Rattle.rw_books.specs.Text.{balance_of_run, book_lines}
use Rattle.rw_report.specs.Outcome.{outcome_by, outcome_of}
use Rattle.rw_report.specs.Section.{heading}
use Rattle.rw_run.specs.Log.{Cells, Log}
use Rattle.rw_run.specs.RunOf.{IsRunOf}
use Rattle.rw_run.specs.declared.run.Run.{Run}
use Rattle.rw_commands.specs.Policy.{PolicyFile as Rules}
use Rattle.rw_commands.specs.RunText.{ComesBy, IsBalanceOfRules}
use Rattle.rw_commands.specs.Written.{IsOne}
use Rattle.rw_words.specs.declared.job.Job.TheVariants.{Balance}
use Rattle.rw_commands.specs.declared.extras.Extras.{Extras}
use Rattle.rw_commands.proofs.SampleText.{of_both}

-- a text that tells how a run ended, its last closed timestep and its cells is that of its events
pub told_alike : (basin : Draft) (log : Log) (run : Run) → IsRunOf basin log run → (text : RunEnd → ℕ → Cells → List ℕ)
    → text (outcome_of run).end (outcome_of run).closed (outcome_of run).cells
    ≡ text (outcome_by basin log).end (outcome_by basin log).closed (outcome_by basin log).cells
told_alike basin log run is text = λ i. text (is.end i) (is.closed_steps i) (λ cell. is.cells cell i)

abbrev balance_by : Draft → RunEnd → ℕ → Cells → List ℕ
balance_by basin end closed cells = heading basin 0 end ++ book_lines basin cells closed

-- the text of what the run comes to
pub books_by : (basin : Draft) (policy : Rules) (inputs : Inputs) (run : Run) (text : List ℕ) → ComesBy basin policy inputs run
    → text ≡ balance_of_run basin (outcome_of run) → IsBalanceOfRules basin policy inputs run.end text
books_by basin policy inputs run text comes is = record {
  run_text = record {
    log = comes.log;
    run = comes.whole;
    end_is = comes.is.end;
    text_is = is ∙ told_alike basin comes.log run comes.is (balance_by basin);
  };
  verified = comes.verified;
}

-- of the files of a command
pub one_balance : (extras : Extras) (files : FilesRead) (policy : Rules) (inputs : Inputs) → files.policy ≡ Some policy
    → files.inputs ≡ Some inputs → (end : RunEnd) (status : ℕ) (text : List ℕ) → status ≡ status_of_end end
    → IsBalanceOfRules files.basin policy inputs end text → IsOne Balance extras files status text
one_balance extras files policy inputs has_policy has_inputs end status text same is = (
  (
    end,
    same,
    of_both files policy inputs has_policy has_inputs
        (λ p i. (one : List ℕ) × ((text ∷ []) ≡ one ∷ []) × IsBalanceOfRules files.basin p i end one) (text, refl, is),
  ),
  of_both files policy inputs has_policy has_inputs
      (λ p i. (e : RunEnd) × (one : List ℕ) × ((text ∷ []) ≡ one ∷ []) × IsBalanceOfRules files.basin p i e one) (end, text, refl, is),
)
