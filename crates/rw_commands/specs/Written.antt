-- What a call appends to a stream.
use Rattle.std.specs.Prelude.{◌≡◌, ◌≤◌, ℕ, ◌⊎◌, List, [], ◌∷◌, ◌++◌, IsSomeAnd, IsTrue, length, unwrap_or}
use Rattle.rw_io.specs.Causes.{Rose}
use Rattle.rw_io.specs.Known.{GrowsBy, PrefixGrew}
use Rattle.rw_io.specs.Outside.{Change, Holds, SinkView}
use Rattle.rw_base.specs.declared.number.Cell.{Cell}
use Rattle.rw_inputs.specs.Edits.{Batch}
use Rattle.rw_inputs.specs.Inputs.{Inputs}
use Rattle.rw_run.specs.declared.run.RunEnd.{RunEnd}
use Rattle.rw_run.specs.declared.run.RunEnd.TheVariants.{Settled, Fault}
use Rattle.rpl_code.specs.Spelling.{spelt}
use Rattle.rw_commands.specs.Budgets.{check_text}
use Rattle.rw_words.specs.Command.{Command}
use Rattle.rw_commands.specs.Policy.{PolicyFile as Rules, code_in_file}
use Rattle.rw_commands.specs.Reading.{AreRead, FilesRead}
use Rattle.rw_commands.specs.RunText.{CountsSections, IsBalanceOfRules, IsPlainText, IsRulesText, IsSampleText, IsWhyOfRules}
use Rattle.rw_model_toml.specs.Migrated.{IsMigrated}
use Rattle.rw_run.specs.Log.{Log}
use Rattle.rw_commands.specs.Many.{AreFirstPieces, AreScenarioRuns, many_texts, status_of_runs}
use Rattle.rw_commands.specs.Command.{extras_of}
use Rattle.rw_commands.specs.Sections.{AreFirstSections, AreSections, first_given, joined_sections}
use Rattle.rw_commands.specs.declared.extras.Extras.{Extras}
use Rattle.rw_commands.specs.declared.refusal.Refusal.{Refusal}
use Rattle.rw_commands.specs.declared.refusal.Refusal.TheVariants.{CannotWrite, NoMemory}
use Rattle.rw_words.specs.declared.job.Job.{Job}
use Rattle.rw_words.specs.declared.job.Job.TheVariants.{Simulate, Check, Compile, Run, Why, Sample, Balance, Mrm, Migrate}

-- the status of a run that was written: 0 where it settled
abbrev pub status_of_end : RunEnd → ℕ
status_of_end Settled = 0
status_of_end (Fault why) = 1

-- the batches of edits that the files give
abbrev pub batches_in : FilesRead → List Batch
batches_in files = unwrap_or files.edits []

-- and the scenarios
abbrev pub scenarios_in : FilesRead → List Batch
scenarios_in files = unwrap_or files.scenarios []

-- of the policy and the inputs this holds
abbrev pub OfBoth : FilesRead → (Rules → Inputs → Type 0) → Type 0
OfBoth files P = IsSomeAnd files.policy (λ policy. IsSomeAnd files.inputs (P policy))

-- of the policy, the inputs and the cell this holds
abbrev pub OfThree : FilesRead → (Rules → Inputs → Cell → Type 0) → Type 0
OfThree files P = IsSomeAnd files.policy (λ policy. IsSomeAnd files.inputs (λ inputs. IsSomeAnd files.cell (P policy inputs)))

-- the timesteps were counted that are run for the sections of the files, where timesteps are reused
abbrev pub CountsOfFiles : FilesRead → Change ℕ → Type 0
CountsOfFiles files steps = OfBoth files (λ policy inputs. CountsSections files.basin policy inputs (batches_in files) steps)

-- the sections of a job's text by what its files say, and the status with which it is written. A text that isn't of runs is one section
abbrev pub IsTextOf : Job → Extras → FilesRead → ℕ → List (List ℕ) → Type 0
IsTextOf Simulate extras files status texts =
    (end : RunEnd) × (status ≡ status_of_end end)
    × IsSomeAnd files.inputs (λ inputs. AreSections (IsPlainText files.basin extras) 0 (first_given inputs) [] end texts)
IsTextOf Check extras files status texts = (status ≡ 0) × IsSomeAnd files.policy (λ policy. texts ≡ check_text policy ∷ [])
IsTextOf Compile extras files status texts = (status ≡ 0) × IsSomeAnd files.policy (λ policy. texts ≡ spelt (code_in_file policy) ∷ [])
IsTextOf Run extras files status texts =
    (end : RunEnd) × (status ≡ status_of_end end) × IsSomeAnd files.policy (λ policy.
    IsSomeAnd files.inputs (λ inputs. AreSections (IsRulesText files.basin policy extras) 0 (first_given inputs) (batches_in files) end texts))
IsTextOf Why extras files status texts =
    (end : RunEnd) × (status ≡ status_of_end end) × OfThree files (λ policy inputs cell.
    (text : List ℕ) × (texts ≡ text ∷ []) × IsWhyOfRules files.basin policy inputs cell end text)
IsTextOf (Sample seed) extras files status texts =
    (status ≡ 0) × OfBoth files (λ policy inputs.
    (text : List ℕ) × (texts ≡ text ∷ []) × IsSampleText files.basin policy inputs seed text)
IsTextOf Balance extras files status texts =
    (end : RunEnd) × (status ≡ status_of_end end) × OfBoth files (λ policy inputs.
    (text : List ℕ) × (texts ≡ text ∷ []) × IsBalanceOfRules files.basin policy inputs end text)
IsTextOf Mrm extras files status texts =
    OfBoth files (λ policy inputs. (logs : List Log) × AreScenarioRuns files.basin policy inputs (scenarios_in files) logs
    × (status ≡ status_of_runs logs) × (texts ≡ many_texts files.basin logs))
IsTextOf Migrate extras files status texts =
    (status ≡ 0) × IsSomeAnd files.text (λ old. (new : List ℕ) × (texts ≡ new ∷ []) × IsMigrated old new)

-- the first sections of it
abbrev pub IsFrontOf : Job → Extras → FilesRead → List (List ℕ) → Type 0
IsFrontOf Simulate extras files texts =
    IsSomeAnd files.inputs (λ inputs. AreFirstSections (IsPlainText files.basin extras) 0 (first_given inputs) [] texts)
IsFrontOf Check extras files texts = IsSomeAnd files.policy (λ policy. texts ≡ check_text policy ∷ [])
IsFrontOf Compile extras files texts = IsSomeAnd files.policy (λ policy. texts ≡ spelt (code_in_file policy) ∷ [])
IsFrontOf Run extras files texts =
    IsSomeAnd files.policy (λ policy.
    IsSomeAnd files.inputs (λ inputs. AreFirstSections (IsRulesText files.basin policy extras) 0 (first_given inputs) (batches_in files) texts))
IsFrontOf Why extras files texts =
    OfThree files (λ policy inputs cell.
    (end : RunEnd) × (text : List ℕ) × (texts ≡ text ∷ []) × IsWhyOfRules files.basin policy inputs cell end text)
IsFrontOf (Sample seed) extras files texts =
    OfBoth files (λ policy inputs.
    (text : List ℕ) × (texts ≡ text ∷ []) × IsSampleText files.basin policy inputs seed text)
IsFrontOf Balance extras files texts =
    OfBoth files (λ policy inputs.
    (end : RunEnd) × (text : List ℕ) × (texts ≡ text ∷ []) × IsBalanceOfRules files.basin policy inputs end text)
IsFrontOf Mrm extras files texts = OfBoth files (λ policy inputs. AreFirstPieces files.basin policy inputs (scenarios_in files) texts)
IsFrontOf Migrate extras files texts = IsSomeAnd files.text (λ old. (new : List ℕ) × (texts ≡ new ∷ []) × IsMigrated old new)

-- ---- what a job appends

-- it writes the sections of runs as they are made
abbrev pub WritesSectionWise : Job → Type 0
WritesSectionWise job = (job ≡ Run) ⊎ (job ≡ Mrm)

-- how many sections stand behind the first one: one for each batch of edits, or, behind those of scenarios, the summary
abbrev pub sections_behind : Job → FilesRead → ℕ
sections_behind Mrm files = length (scenarios_in files)
sections_behind job files = length (batches_in files)

-- all sections
pub record Appends (job : Job) (extras : Extras) (files : FilesRead) (out : Change SinkView) (status : ℕ) : Type 0 where
  pub texts : List (List ℕ)
  pub is : IsTextOf job extras files status texts
  pub grew : GrowsBy out.before.contents out.after.contents (joined_sections texts)

-- some whole sections, and a front of the next one
pub record AppendsFront (job : Job) (extras : Extras) (files : FilesRead) (out : Change SinkView) : Type 0 where
  pub done : List (List ℕ)
  pub text : List ℕ
  pub is : IsFrontOf job extras files (done ++ text ∷ [])
  pub grew : PrefixGrew out.before.contents out.after.contents (joined_sections done ++ text)

-- the first sections, each whole, and fewer than all
pub record AppendsSections (job : Job) (extras : Extras) (files : FilesRead) (out : Change SinkView) : Type 0 where
  pub runs : WritesSectionWise job
  pub texts : List (List ℕ)
  pub are : IsFrontOf job extras files texts
  pub fewer : length texts ≤ sections_behind job files
  pub grew : GrowsBy out.before.contents out.after.contents (joined_sections texts)

-- why not all are
abbrev pub Stops : Job → Extras → FilesRead → Change SinkView → Refusal → Type 0
Stops job extras files out CannotWrite = AppendsFront job extras files out × Rose out.before.faults out.after.faults
Stops job extras files out NoMemory = (out.after.contents ≡ out.before.contents) ⊎ AppendsSections job extras files out
Stops job extras files out why = ⊥

-- a text is the one section of the job's
abbrev pub IsOne : Job → Extras → FilesRead → ℕ → List ℕ → Type 0
IsOne job extras files status text = IsTextOf job extras files status (text ∷ []) × IsFrontOf job extras files (text ∷ [])

-- ---- what a command appends

-- the files of the command are read, and of what they say this holds
abbrev pub OfFiles : Command → Holds → (FilesRead → Type 0) → Type 0
OfFiles command holds P = (files : FilesRead) × AreRead command holds files × P files

-- the whole text of the command was appended
abbrev pub WritesAll : Command → Holds → Change SinkView → ℕ → Type 0
WritesAll command holds out status = OfFiles command holds (λ files. Appends command.job (extras_of command) files out status)

-- a front of it was appended
abbrev pub WritesFront : Command → Holds → Change SinkView → Type 0
WritesFront command holds out = OfFiles command holds (λ files. AppendsFront command.job (extras_of command) files out)

-- where it runs by rules and reuses timesteps, those that were run were counted
abbrev pub CountsReused : Command → Holds → Change ℕ → Type 0
CountsReused command holds steps =
    command.job ≡ Run → IsTrue command.reuse → OfFiles command holds (λ files. CountsOfFiles files steps)

-- nothing was appended, or the first sections of runs
abbrev pub WritesSections : Command → Holds → Change SinkView → Type 0
WritesSections command holds out =
    (out.after.contents ≡ out.before.contents) ⊎ OfFiles command holds (λ files. AppendsSections command.job (extras_of command) files out)

-- a front of the line was appended, and all of it unless the sink's count rose
pub record TellsLine (err : Change SinkView) (line : List ℕ) : Type 0 where
  pub front : PrefixGrew err.before.contents err.after.contents line
  pub whole : Rose err.before.faults err.after.faults
      ⊎ GrowsBy err.before.contents err.after.contents line
