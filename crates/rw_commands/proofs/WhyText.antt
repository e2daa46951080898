-- How a cell came to what it holds in a run by a policy.
use Rattle.rw_commands.proofs.Common.{FilesRead, IsSomeAnd, List, RunEnd, Some, refl, status_of_end, subst, sym, [], ℕ, ◌∙◌, ◌∷◌, ◌≡◌}
use Rattle.rw_base.proofs.Common.{Bool, IsSome}
use Rattle.rw_base.specs.declared.number.Cell.{Cell}
use Rattle.rw_inputs.specs.Inputs.{Inputs}
use Rattle.rw_model.proofs.Common.{Draft}
use Rattle.rw_report.specs.Outcome.{outcome_by, outcome_of}
use Rattle.rw_report.specs.Why.{why_of}
use Rattle.rw_run.proofs.Common.{Log}
use Rattle.rw_run.specs.RunOf.{IsRunOf}
use Rattle.rw_run.specs.declared.run.Run.{Run}
use Rattle.rw_commands.specs.Policy.{PolicyFile as Rules}
use Rattle.rw_commands.specs.RunText.{ComesBy, IsWhyOfRules}
use Rattle.rw_commands.specs.Written.{IsOne, OfThree}
use Rattle.rw_words.specs.declared.job.Job.TheVariants.{Why}
use Rattle.rw_commands.specs.declared.extras.Extras.{Extras}

-- the text of what the run comes to
pub why_by : ((basin : Draft) (inputs : Inputs) (log : Log) (run : Run) (cell : Cell) → IsRunOf basin log run → IsSome run.trace
    → why_of basin inputs (outcome_of run) cell ≡ why_of basin inputs (outcome_by basin log) cell)
    → (basin : Draft) (policy : Rules) (inputs : Inputs) (cell : Cell) (run : Run) (text : List ℕ) → ComesBy basin policy inputs run
    → IsSome run.trace → text ≡ why_of basin inputs (outcome_of run) cell → IsWhyOfRules basin policy inputs cell run.end text
why_by texts basin policy inputs cell run text comes kept is = record {
  run_text = record {
    log = comes.log;
    run = comes.whole;
    end_is = comes.is.end;
    text_is = is ∙ texts basin inputs comes.log run cell comes.is kept;
  };
  verified = comes.verified;
}

-- of the files of a command
of_three : (files : FilesRead) (policy : Rules) (inputs : Inputs) (cell : Cell) → files.policy ≡ Some policy → files.inputs ≡ Some inputs
    → files.cell ≡ Some cell → (P : Rules → Inputs → Cell → Type 0) → P policy inputs cell → OfThree files P
of_three files policy inputs cell has_policy has_inputs has_cell P is =
    subst (λ o. IsSomeAnd o (λ p. IsSomeAnd files.inputs (λ i. IsSomeAnd files.cell (P p i)))) (sym has_policy)
    (subst (λ o. IsSomeAnd o (λ i. IsSomeAnd files.cell (P policy i))) (sym has_inputs)
    (subst (λ o. IsSomeAnd o (P policy inputs)) (sym has_cell) is))

pub one_why : (extras : Extras) (files : FilesRead) (policy : Rules) (inputs : Inputs) (cell : Cell) → files.policy ≡ Some policy
    → files.inputs ≡ Some inputs → files.cell ≡ Some cell → (end : RunEnd) (status : ℕ) (text : List ℕ) → status ≡ status_of_end end
    → IsWhyOfRules files.basin policy inputs cell end text → IsOne Why extras files status text
one_why extras files policy inputs cell has_policy has_inputs has_cell end status text same is = (
  (
    end,
    same,
    of_three files policy inputs cell has_policy has_inputs has_cell
        (λ p i c. (one : List ℕ) × ((text ∷ []) ≡ one ∷ []) × IsWhyOfRules files.basin p i c end one) (text, refl, is),
  ),
  of_three files policy inputs cell has_policy has_inputs has_cell
      (λ p i c. (e : RunEnd) × (one : List ℕ) × ((text ∷ []) ≡ one ∷ []) × IsWhyOfRules files.basin p i c e one) (end, text, refl, is),
)
