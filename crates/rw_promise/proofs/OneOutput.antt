-- Two calls that ask for the same of the same files append the same.
use Rattle.rw_commands.proofs.Common.{Command, Declared, FilesRead, Holds, IsSomeAnd, Job, List, None, Ok, Option, Reads, ReadsInputs, ReadsModel}
use Rattle.rw_commands.proofs.Common.{ReadsPolicy, RunEnd, Some, WasRead, [], ap, ap₂, false, model_of, refl, reads_code, subst, sym, true, ℕ, ℤ}
use Rattle.rw_commands.proofs.Common.{◌∙◌, ◌∷◌, ◌≡◌, ◌≤◌}
use Rattle.rw_commands.specs.declared.refusal.File.{File}
use Rattle.rw_base.proofs.Common.{Bool, IsSome, none-some, same_Some}
use Rattle.std.specs.Prelude.{IfSome, MatchOption, option_and_then}
use Rattle.rw_base.specs.declared.number.Cell.{Cell}
use Rattle.rw_inputs.specs.Edits.{Batch}
use Rattle.rw_inputs.specs.Inputs.{Inputs, value_at}
use Rattle.rw_io.specs.Known.{GrowsBy}
use Rattle.rw_model.proofs.Common.{Draft}
use Rattle.rw_report.specs.Outcome.{outcome_by}
use Rattle.rw_run.proofs.Common.{IsRun, Log, Policy, end_of}
use Rattle.rw_sample.specs.Line.{sample_line}
use Rattle.rpl_code.specs.declared.block.Block.{Block}
use Rattle.rpl_tree.specs.Budget.{Budget}
use Rattle.rpl_verify.specs.Budget.{ruling}
use Rattle.rw_promise.proofs.OneAnswer.{AreBoth, one_log, one_sections, one_why}
use Rattle.rw_commands.proofs.OneReading.{one_kind, one_ruleset, same_values}
use Rattle.rw_promise.proofs.OneText.{one_simulated}
use Rattle.rw_promise.specs.Alike.{AppendAlike, AskAlike, TellAlike}
use Rattle.rw_commands.specs.Call.{Call}
use Rattle.rw_commands.specs.Cell.{cell_asked}
use Rattle.rw_commands.specs.Command.{AskForCommand, AskOne, AtPath, OfSample, Source, extras_of, path_in, source_of}
use Rattle.rw_commands.specs.Policy.{Code, IsPolicyFileOf, PolicyFile as Rules, Ruleset}
use Rattle.rw_commands.specs.Promise.{Promise}
use Rattle.rw_commands.specs.Reading.{AreRead, HasText, ReadsBatches, SaysAt, batches_read, text_wanted}
use Rattle.rw_books.specs.Text.{balance_of_run}
use Rattle.rw_commands.specs.Many.{many_texts, status_of_runs}
use Rattle.rw_promise.proofs.OneScenario.{one_many}
use Rattle.rw_commands.specs.RunText.{IsBalanceOfRules, IsPlainText, IsRulesText, IsSampleText, IsWhyOfRules, policy_in_run}
use Rattle.rw_commands.specs.Sections.{AreSections, first_given, joined_sections}
use Rattle.rw_commands.specs.Written.{IsTextOf, WritesAll, scenarios_in, status_of_end}
use Rattle.rw_commands.specs.declared.extras.Extras.{Extras}
use Rattle.rw_commands.specs.declared.refusal.File.TheVariants.{Edits, Inputs as InputsFile, Model, Policy as PolicyFile, Traces}
use Rattle.rw_words.specs.declared.job.Job.TheVariants.{Balance, Check, Compile, Migrate, Mrm, Run, Sample, Simulate, Why}

-- ---- a file's text

at_path : (one other : Option (List ℕ)) (text more : List ℕ) → IsSome one → one ≡ other → IfSome one (λ file. text ≡ file)
    → IfSome other (λ file. more ≡ file) → text ≡ more
at_path None other text more some same left right = absurd cc
at_path (Some file) None text more some same left right = absurd (none-some _ (sym same))
at_path (Some file) (Some next) text more some same left right = left ∙ same_Some _ _ same ∙ sym right

from_there : (source : Option Source) (one other : Holds) (file : File) (text more : List ℕ)
    → IfSome (option_and_then path_in source) (λ path. IsSome (one path) × (one path ≡ other path))
    → IsSomeAnd source (HasText one file text) → IsSomeAnd source (HasText other file more) → text ≡ more
from_there None one other file text more alike left right = absurd left
from_there (Some (AtPath path)) one other file text more alike left right =
    at_path (one path) (other path) text more alike.0 alike.1 left.told right.told
from_there (Some (OfSample seed)) one other file text more alike left right = left ∙ sym right

unread : (command : Command) (holds : Holds) (file : File) (text : List ℕ) → source_of command file ≡ None → WasRead command holds file text → ⊥
unread command holds file text none read = subst (λ (o : Option Source). IsSomeAnd o (HasText holds file text)) none read

-- what a text spells is one policy
one_policy : (as_code : Bool) (basin : Draft) (text : List ℕ) (policy other : Rules) → IsPolicyFileOf as_code basin text policy
    → IsPolicyFileOf as_code basin text other → policy ≡ other
one_policy as_code basin text (Ruleset rules) (Ruleset others) left right =
    ap (λ (rs : List Declared). Ruleset rs) (one_ruleset text rules others left.1.spells right.1.spells)
one_policy as_code basin text (Ruleset rules) (Code blocks budgets) left right = absurd (one_kind as_code right.0 left.0)
one_policy as_code basin text (Code blocks budgets) (Ruleset rules) left right = absurd (one_kind as_code left.0 right.0)
one_policy as_code basin text (Code blocks budgets) (Code others more) left right =
    let read : Ok blocks ≡ Ok others = sym left.1.spells ∙ right.1.spells in
    let same : blocks ≡ others = cc in
    let both : Ok budgets ≡ Ok more = sym left.1.accepted ∙ ap (ruling basin) same ∙ right.1.accepted in
    let equal : budgets ≡ more = cc in
    ap₂ (λ (bs : List Block) (ns : List Budget). Code bs ns) same equal

-- ---- what the files of a command say

-- two readings of a file say the same, or neither says anything
said_once : {A : Type 0} (found other : Option A) (N : Type 0) (P Q : A → Type 0) → ((x : A) → N → P x → ⊥) → ((y : A) → N → Q y → ⊥)
    → ((x y : A) → P x → Q y → x ≡ y) → MatchOption found N P → MatchOption other N Q → found ≡ other
said_once None None N P Q left_clash right_clash same left right = refl
said_once None (Some y) N P Q left_clash right_clash same left right = absurd (right_clash y left right)
said_once (Some x) None N P Q left_clash right_clash same left right = absurd (left_clash x right left)
said_once {A = A} (Some x) (Some y) N P Q left_clash right_clash same left right = ap (λ (a : A). Some a) (same x y left right)

both_said : (found other : Option Inputs) (N : Type 0) (P Q : Inputs → Type 0) → ((x : Inputs) → N → P x → ⊥)
    → ((y : Inputs) → N → Q y → ⊥)
    → ((x y : Inputs) → P x → Q y → value_at x ≡ value_at y) → MatchOption found N P → MatchOption other N Q → AreBoth found other
both_said None None N P Q left_clash right_clash same left right = tt
both_said None (Some y) N P Q left_clash right_clash same left right = right_clash y left right
both_said (Some x) None N P Q left_clash right_clash same left right = left_clash x right left
both_said (Some x) (Some y) N P Q left_clash right_clash same left right = same x y left right

-- the same basin, policy, edits, scenarios, cell and text, and inputs with the same values
record SayAlike (a b : FilesRead) : Type 0 where
  basin : a.basin ≡ b.basin
  policy : a.policy ≡ b.policy
  inputs : AreBoth a.inputs b.inputs
  edits : a.edits ≡ b.edits
  scenarios : a.scenarios ≡ b.scenarios
  cell : a.cell ≡ b.cell
  text : a.text ≡ b.text

module _ (command : Command) (one other : Holds) (alike : TellAlike command one other) where
  one_text_of : (file : File) (text more : List ℕ) → WasRead command one file text → WasRead command other file more → text ≡ more
  one_text_of file text more left right = from_there (source_of command file) one other file text more (alike file) left right

  one_basin : (basin others : Draft) → ReadsModel command one basin → ReadsModel command other others → basin ≡ others
  one_basin basin others left right =
      let both : Ok basin ≡ Ok others = sym left.is ∙ ap model_of (one_text_of Model left.text right.text left.read right.read) ∙ right.is in cc

  one_policy_of : (basin : Draft) (policy more : Rules) → ReadsPolicy command one basin policy → ReadsPolicy command other basin more
      → policy ≡ more
  one_policy_of basin policy more left right =
      let text = one_text_of PolicyFile left.text right.text left.read right.read in
      one_policy (reads_code command right.text) basin right.text policy more
      (subst (λ t. IsPolicyFileOf (reads_code command t) basin t policy) text left.is) right.is

  values_of : (basin : Draft) (inputs more : Inputs) → ReadsInputs command one basin inputs → ReadsInputs command other basin more
      → value_at inputs ≡ value_at more
  values_of basin inputs more left right =
      let text = one_text_of InputsFile left.text right.text left.read right.read in
      λ i slot step. (same_values basin right.text inputs more (subst (λ t. Reads basin t inputs) text left.are) right.are slot step) i

  one_batches_of : (file : File) (basin : Draft) (batches more : List Batch) → ReadsBatches command one file basin batches
      → ReadsBatches command other file basin more → batches ≡ more
  one_batches_of file basin batches more left right =
      let text = one_text_of file left.text right.text left.read right.read in
      let both : Ok batches ≡ Ok more = sym left.are ∙ ap (batches_read file basin) text ∙ right.are in cc

  one_said : (file : File) (basin others : Draft) → basin ≡ others → (found more : Option (List Batch))
      → SaysAt command file found (ReadsBatches command one file basin) → SaysAt command file more (ReadsBatches command other file others)
      → found ≡ more
  one_said file basin others same found more left right =
      said_once found more _ (ReadsBatches command one file others) (ReadsBatches command other file others)
      (λ x none reads. unread command one file reads.text none reads.read)
      (λ y none reads. unread command other file reads.text none reads.read) (one_batches_of file others)
      (subst (λ d. SaysAt command file found (ReadsBatches command one file d)) same left) right

  say_alike : (a b : FilesRead) → AreRead command one a → AreRead command other b → SayAlike a b
  say_alike a b left right =
      let basin = one_basin a.basin b.basin left.model right.model in
      let policy = subst (λ d. SaysAt command PolicyFile a.policy (ReadsPolicy command one d)) basin left.policy in
      let inputs = subst (λ d. SaysAt command InputsFile a.inputs (ReadsInputs command one d)) basin left.inputs in
      record {
        basin = basin;
        policy = said_once a.policy b.policy _ (ReadsPolicy command one b.basin) (ReadsPolicy command other b.basin)
            (λ x none reads. unread command one PolicyFile reads.text none reads.read)
            (λ y none reads. unread command other PolicyFile reads.text none reads.read) (one_policy_of b.basin) policy right.policy;
        inputs = both_said a.inputs b.inputs _ (ReadsInputs command one b.basin) (ReadsInputs command other b.basin)
            (λ x none reads. unread command one InputsFile reads.text none reads.read)
            (λ y none reads. unread command other InputsFile reads.text none reads.read) (values_of b.basin) inputs right.inputs;
        edits = one_said Edits a.basin b.basin basin a.edits b.edits left.edits right.edits;
        scenarios = one_said Traces a.basin b.basin basin a.scenarios b.scenarios left.scenarios right.scenarios;
        text = left.text_is ∙ ap (text_wanted command.job) (one_text_of Model left.model.text right.model.text left.model.read right.model.read)
            ∙ sym right.text_is;
        cell = left.cell.is ∙ ap (λ (d : Draft). cell_asked command d) basin ∙ sym right.cell.is;
      }

-- ---- what they come to

-- of inputs with the same values this follows
of_same : (found other : Option Inputs) (R : Type 0) (P Q : Inputs → Type 0)
    → ((x y : Inputs) → ((slot step : ℕ) → value_at x slot step ≡ value_at y slot step) → P x → Q y → R) → AreBoth found other
    → IsSomeAnd found P → IsSomeAnd other Q → R
of_same None other R P Q both same left right = absurd left
of_same (Some x) None R P Q both same left right = absurd right
of_same (Some x) (Some y) R P Q both same left right =
    both x y (λ slot step. ap (λ (v : ℕ → ℕ → Option ℤ). v slot step) same) left right

-- of the one thing that is there this follows
of_it : {A : Type 0} (found : Option A) (R : Type 0) (P Q : A → Type 0) → ((x : A) → P x → Q x → R) → IsSomeAnd found P
    → IsSomeAnd found Q → R
of_it None R P Q both left right = absurd left
of_it (Some x) R P Q both left right = both x left right

-- the same files, with other inputs
abbrev with_inputs : FilesRead → Option Inputs → FilesRead
with_inputs files inputs = record files { inputs = inputs }

-- the same status, and the same text
abbrev Same : ℕ → ℕ → List (List ℕ) → List (List ℕ) → Type 0
Same status more texts others = (status ≡ more) × (texts ≡ others)

-- but for a model that is migrated
abbrev SameOf : Job → ℕ → ℕ → List (List ℕ) → List (List ℕ) → Type 0
SameOf job status more texts others = (status ≡ more) × (¬ (job ≡ Migrate) → texts ≡ others)

alike : (job : Job) (status more : ℕ) (texts others : List (List ℕ)) → Same status more texts others → SameOf job status more texts others
alike job status more texts others same = (same.0, λ other. same.1)

by_end : (job : Job) (status more : ℕ) (texts others : List (List ℕ)) (end other : RunEnd) → status ≡ status_of_end end
    → more ≡ status_of_end other → (end ≡ other) × (texts ≡ others) → SameOf job status more texts others
by_end job status more texts others end other left right same =
    alike job status more texts others (left ∙ ap status_of_end same.0 ∙ sym right, same.1)

alone : (text more : List ℕ) (texts others : List (List ℕ)) → texts ≡ text ∷ [] → others ≡ more ∷ [] → text ≡ more → texts ≡ others
alone text more texts others left right same = left ∙ ap (λ (t : List ℕ). t ∷ []) same ∙ sym right

module _ (one_run : (basin : Draft) (policy : Policy) (inputs : List (Cell × ℤ)) (log other : Log) → IsRun basin policy inputs log
    → IsRun basin policy inputs other → log ≡ other) (extras : Extras) (basin : Draft) where
  one_plain : (inputs others : Inputs) → ((slot step : ℕ) → value_at inputs slot step ≡ value_at others slot step)
      → (end other : RunEnd) (texts more : List (List ℕ))
      → AreSections (IsPlainText basin extras) 0 (first_given inputs) [] end texts
      → AreSections (IsPlainText basin extras) 0 (first_given others) [] other more → (end ≡ other) × (texts ≡ more)
  one_plain inputs others same end other texts more left right =
      let both = one_simulated one_run extras.order basin extras 0 inputs others end other left.0 right.0 same left.2 right.2 in
      (both.0, alone left.0 right.0 texts more left.1 right.1 both.1)

  pub one_line : (policy : Rules) (inputs others : Inputs) (seed : ℕ) (text more : List ℕ)
      → ((slot step : ℕ) → value_at inputs slot step ≡ value_at others slot step)
      → IsSampleText basin policy inputs seed text → IsSampleText basin policy others seed more → text ≡ more
  one_line policy inputs others seed text more same left right =
      let log = one_log one_run basin (policy_in_run basin policy) inputs others left.log right.log (λ i slot step. (same slot step) i)
      left.run right.run in
      left.text_is ∙ ap (λ (l : Log). sample_line basin seed (outcome_by basin l)) log ∙ sym right.text_is

  pub one_book : (policy : Rules) (inputs others : Inputs) (end other : RunEnd) (text more : List ℕ)
      → ((slot step : ℕ) → value_at inputs slot step ≡ value_at others slot step)
      → IsBalanceOfRules basin policy inputs end text → IsBalanceOfRules basin policy others other more → (end ≡ other) × (text ≡ more)
  one_book policy inputs others end other text more same left right =
      let log = one_log one_run basin (policy_in_run basin policy) inputs others left.run_text.log right.run_text.log
      (λ i slot step. (same slot step) i) left.run_text.run right.run_text.run in (
        left.run_text.end_is ∙ ap end_of log ∙ sym right.run_text.end_is,
        left.run_text.text_is ∙ ap (λ (l : Log). balance_of_run basin (outcome_by basin l)) log ∙ sym right.run_text.text_is,
      )

-- ---- two calls

module _ (one_run : (basin : Draft) (policy : Policy) (inputs : List (Cell × ℤ)) (log other : Log) → IsRun basin policy inputs log
    → IsRun basin policy inputs other → log ≡ other) where
  -- files that say alike have one text
  one_by : (job : Job) (extras : Extras) (files : FilesRead) (inputs others : Option Inputs) (status more : ℕ) (texts next : List (List ℕ))
      → AreBoth inputs others → IsTextOf job extras (with_inputs files inputs) status texts
      → IsTextOf job extras (with_inputs files others) more next → SameOf job status more texts next
  one_by Simulate extras files inputs others status more texts next same left right =
      by_end Simulate status more texts next left.0 right.0 left.1 right.1 (of_same inputs others _ _ _
      (λ x y values a b. one_plain one_run extras files.basin x y values left.0 right.0 texts next a b) same left.2 right.2)
  one_by Check extras files inputs others status more texts next same left right =
      alike Check status more texts next (left.0 ∙ sym right.0, of_it files.policy _ _ _ (λ p a b. a ∙ sym b) left.1 right.1)
  one_by Compile extras files inputs others status more texts next same left right =
      alike Compile status more texts next (left.0 ∙ sym right.0, of_it files.policy _ _ _ (λ p a b. a ∙ sym b) left.1 right.1)
  one_by Run extras files inputs others status more texts next same left right =
      by_end Run status more texts next left.0 right.0 left.1 right.1 (of_it files.policy _ _ _ (λ p a b. of_same inputs others _ _ _
      (λ x y values l r. one_sections one_run files.basin p extras x y _ left.0 right.0 texts next values l r) same a b) left.2 right.2)
  one_by Why extras files inputs others status more texts next same left right =
      by_end Why status more texts next left.0 right.0 left.1 right.1 (of_it files.policy _ _ _ (λ p a b. of_same inputs others _ _ _
      (λ x y values l r. of_it files.cell _ _ _ (λ c u v.
      let both = one_why one_run files.basin p x y c left.0 right.0 u.0 v.0 values u.2 v.2 in
      (both.0, alone u.0 v.0 texts next u.1 v.1 both.1)) l r) same a b) left.2 right.2)
  one_by (Sample seed) extras files inputs others status more texts next same left right =
      alike (Sample seed) status more texts next (
        left.0 ∙ sym right.0,
        of_it files.policy _ _ _ (λ p a b. of_same inputs others _ _ _
            (λ x y values l r. alone l.0 r.0 texts next l.1 r.1 (one_line one_run extras files.basin p x y seed l.0 r.0 values l.2 r.2)) same a b)
            left.1 right.1,
      )
  one_by Balance extras files inputs others status more texts next same left right =
      by_end Balance status more texts next left.0 right.0 left.1 right.1 (of_it files.policy _ _ _ (λ p a b. of_same inputs others _ _ _
      (λ x y values l r.
      let both = one_book one_run extras files.basin p x y left.0 right.0 l.0 r.0 values l.2 r.2 in
      (both.0, alone l.0 r.0 texts next l.1 r.1 both.1)) same a b) left.2 right.2)
  one_by Mrm extras files inputs others status more texts next same left right =
      alike Mrm status more texts next (of_it files.policy _ _ _ (λ p a b. of_same inputs others _ _ _ (λ x y values l r.
      let logs = one_many one_run files.basin p x y values (scenarios_in files) l.0 r.0 l.1 r.1 in
      (l.2 ∙ ap status_of_runs logs ∙ sym r.2, l.3 ∙ ap (many_texts files.basin) logs ∙ sym r.3)) same a b) left right)
  one_by Migrate extras files inputs others status more texts next same left right =
      (left.0 ∙ sym right.0, λ other. absurd (other refl))

  one_of_files : (job : Job) (extras : Extras) (a b : FilesRead) (status more : ℕ) (texts next : List (List ℕ)) → SayAlike a b
      → IsTextOf job extras a status texts → IsTextOf job extras b more next → SameOf job status more texts next
  one_of_files job extras a b status more texts next same left right =
      let files : a ≡ with_inputs b a.inputs = λ i. record {
        basin = same.basin i;
        policy = same.policy i;
        inputs = a.inputs;
        edits = same.edits i;
        scenarios = same.scenarios i;
        cell = same.cell i;
        text = same.text i;
      } in
      one_by job extras b a.inputs b.inputs status more texts next same.inputs
      (subst (λ f. IsTextOf job extras f status texts) files left) right

  pub one_output : (one other : Call) (status more : ℕ) → AskAlike one other → Promise one status → Promise other more → status ≤ 1
      → more ≤ 1 → (status ≡ more) × (¬ AskOne one.words (λ command. command.job ≡ Migrate) → AppendAlike one.out other.out)
  one_output one other status more alike first second low high =
      let a = first.done low in
      let b = second.done high in
      let asked : AskForCommand other.words a.command = subst (λ (words : List (List ℕ)). AskForCommand words a.command) alike.words a.asked in
      let both : Some a.command ≡ Some b.command = sym asked ∙ b.asked in
      let command : a.command ≡ b.command = same_Some _ _ both in
      let text = subst (λ c. WritesAll c one.shelf.before.holds one.out status) command a.text in
      let hold = alike.files b.command (subst (λ (c : Command). AskForCommand one.words c) command a.asked) in
      let say = say_alike b.command one.shelf.before.holds other.shelf.before.holds hold text.0 b.text.0 text.1 b.text.1 in
      let same = one_of_files b.command.job (extras_of b.command) text.0 b.text.0 status more text.2.texts b.text.2.texts say
      text.2.is b.text.2.is in (
        same.0,
        λ none.
            let texts = same.1 (λ migrates. none (a.command, a.asked, ap (λ (c : Command). c.job) command ∙ migrates)) in (
              joined_sections b.text.2.texts,
              subst (λ ts. GrowsBy one.out.before.contents one.out.after.contents (joined_sections ts)) texts text.2.grew,
              b.text.2.grew,
            ),
      )
