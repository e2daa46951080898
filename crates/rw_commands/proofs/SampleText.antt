-- The files of the sample, and the line on its run.
use Rattle.rw_commands.proofs.Common.{Command, Declared, File, FilesRead, Holds, IsSomeAnd, Job, List, None, Ok, Option, Reads, ReadsInputs, ReadsModel}
use Rattle.rw_commands.proofs.Common.{ReadsPolicy, Some, WasRead, ap, false, length, model_of, option_map, place_among, files_of, refl, reads_code, subst}
use Rattle.rw_commands.proofs.Common.{sym, takes_code, ℕ, ◌∙◌, ◌∷◌, [], ◌≡◌, ◌≤◌}
use Rattle.rw_base.proofs.Common.{Bool, IsSome, arith, ◌&&◌}
use Rattle.rw_inputs.specs.Inputs.{Inputs}
use Rattle.rw_model.proofs.Common.{Draft}
use Rattle.rw_report.specs.Outcome.{RunOutcome, outcome_by, outcome_of}
use Rattle.rw_run.proofs.Common.{Log}
use Rattle.rw_run.specs.RunOf.{IsRunOf}
use Rattle.rw_run.specs.declared.run.Run.{Run}
use Rattle.rw_sample.proofs.Short.{rules_short}
use Rattle.rw_sample.specs.Line.{sample_line}
use Rattle.rw_sample.specs.Texts.{sample_inputs, sample_model, sample_rules}
use Rattle.rw_commands.specs.Command.{Source, AtPath, OfSample, named_source, sample_text, source_at, source_of}
use Rattle.rw_commands.specs.Policy.{IsPolicyFileOf, IsRulesetOf, PolicyFile as Rules, Ruleset, is_code}
use Rattle.rw_commands.specs.Reading.{HasText}
use Rattle.rw_commands.specs.RunText.{ComesBy, IsSampleText}
use Rattle.rw_commands.specs.Written.{IsOne, OfBoth}
use Rattle.rw_words.specs.declared.job.Job.TheVariants.{Sample}
use Rattle.rw_commands.specs.declared.refusal.File.TheVariants.{Model, Policy as PolicyFile, Inputs as InputsFile}
use Rattle.rw_commands.specs.declared.extras.Extras.{Extras}

-- ---- its files

-- where the text of a file comes from, by the job and the words
abbrev pub source_by : File → List (List ℕ) → Job → Option Source
source_by file paths job = option_map (λ place. source_at job paths place) (place_among (files_of job) file)

-- what was read of a file of the sample is its text
text_made : (command : Command) (holds : Holds) (file : File) (text : List ℕ) (seed : ℕ) → source_of command file ≡ Some (OfSample seed)
    → WasRead command holds file text → text ≡ sample_text seed file
text_made command holds file text seed is read = subst (λ (o : Option Source). IsSomeAnd o (HasText holds file text)) is read

-- and its text is read
pub was_made : (command : Command) (holds : Holds) (file : File) (text : List ℕ) (seed : ℕ) → source_of command file ≡ Some (OfSample seed)
    → text ≡ sample_text seed file → WasRead command holds file text
was_made command holds file text seed named is = subst (λ (o : Option Source). IsSomeAnd o (HasText holds file text)) (sym named) is

pub model_of_sample : (command : Command) (holds : Holds) (basin : Draft) (seed : ℕ) → command.job ≡ Sample seed
    → ReadsModel command holds basin → model_of sample_model ≡ Ok basin
model_of_sample command holds basin seed job reads =
    let text : reads.text ≡ sample_model = text_made command holds Model reads.text seed (ap (source_by Model command.paths) job) reads.read in
    ap model_of (sym text) ∙ reads.is

pub ruleset_of_sample : (command : Command) (holds : Holds) (basin : Draft) (rules : List Declared) (seed : ℕ) → command.job ≡ Sample seed
    → ReadsPolicy command holds basin (Ruleset rules) → IsRulesetOf basin sample_rules rules
ruleset_of_sample command holds basin rules seed job reads =
    let text : reads.text ≡ sample_rules =
    text_made command holds PolicyFile reads.text seed (ap (source_by PolicyFile command.paths) job) reads.read in
    subst (λ t. IsRulesetOf basin t rules) text reads.is.1

pub inputs_of_sample : (command : Command) (holds : Holds) (basin : Draft) (inputs : Inputs) (seed : ℕ) → command.job ≡ Sample seed
    → ReadsInputs command holds basin inputs → Reads basin (sample_inputs seed) inputs
inputs_of_sample command holds basin inputs seed job reads =
    let text : reads.text ≡ sample_inputs seed =
    text_made command holds InputsFile reads.text seed (ap (source_by InputsFile command.paths) job) reads.read in
    subst (λ t. Reads basin t inputs) text reads.are

-- the text of a policy is no longer than a file may be
short_at : (holds : Holds) (text : List ℕ) (o : Option Source) → IsSomeAnd o (HasText holds PolicyFile text) → length text ≤ 16777216
short_at holds text None has = absurd has
short_at holds text (Some (AtPath path)) has = has.short
short_at holds text (Some (OfSample seed)) has = subst (λ t. length t ≤ 16777216) (sym has) rules_short

pub short_policy : (command : Command) (holds : Holds) (text : List ℕ) → WasRead command holds PolicyFile text → length text ≤ 16777216
short_policy command holds text read = short_at holds text (source_of command PolicyFile) read

-- ---- its line

pub sample_by : ((basin : Draft) (log : Log) (run : Run) → IsRunOf basin log run → IsSome run.trace → outcome_of run ≡ outcome_by basin log)
    → (basin : Draft) (policy : Rules) (inputs : Inputs) (seed : ℕ) (run : Run) (text : List ℕ) → ComesBy basin policy inputs run
    → IsSome run.trace → text ≡ sample_line basin seed (outcome_of run) → IsSampleText basin policy inputs seed text
sample_by outcomes basin policy inputs seed run text comes kept is = record {
  log = comes.log;
  run = comes.whole;
  verified = comes.verified;
  text_is = is ∙ ap (λ (told : RunOutcome). sample_line basin seed told) (outcomes basin comes.log run comes.is kept);
}

-- of the files of a command
pub of_both : (files : FilesRead) (policy : Rules) (inputs : Inputs) → files.policy ≡ Some policy → files.inputs ≡ Some inputs
    → (P : Rules → Inputs → Type 0) → P policy inputs → OfBoth files P
of_both files policy inputs has_policy has_inputs P is =
    subst (λ o. IsSomeAnd o (λ p. IsSomeAnd files.inputs (P p))) (sym has_policy) (subst (λ o. IsSomeAnd o (P policy)) (sym has_inputs) is)

pub one_sample : (extras : Extras) (files : FilesRead) (policy : Rules) (inputs : Inputs) (seed : ℕ) → files.policy ≡ Some policy
    → files.inputs ≡ Some inputs → (text : List ℕ) → IsSampleText files.basin policy inputs seed text
    → IsOne (Sample seed) extras files 0 text
one_sample extras files policy inputs seed has_policy has_inputs text is =
    let both = of_both files policy inputs has_policy has_inputs
    (λ p i. (one : List ℕ) × ((text ∷ []) ≡ one ∷ []) × IsSampleText files.basin p i seed one) (text, refl, is) in
    ((refl, both), both)
