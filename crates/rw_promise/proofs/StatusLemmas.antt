-- What each status says of a call that keeps its promise.
use Rattle.rw_commands.proofs.Common.{AskOne, AskNothing, AskForCommand, BadEdits, BadInputs, BadModel, BadPolicy, BadScenarios, AreRead, Call, Command, FailsToRead}
use Rattle.rw_commands.proofs.Common.{Fault, FilesRead, FindsTooLong, GrowsBy, Holds, InputRefusal, IsRunText, IsSomeAnd, IsTextOf, Job, None}
use Rattle.rw_commands.proofs.Common.{Option, ReadsInputs, ReadsPolicy, SaysAt, Some, List, LongFile, ModelRefusal, Promise, Reason}
use Rattle.rw_commands.proofs.Common.{RefusedCommand, RefusesInputs, RefusesModel, RefusesPolicy, Rose, RunEnd, Settled, WasFound, WasRefused, WritesFront}
use Rattle.rw_commands.proofs.Common.{WroteCheck, WroteCode, WroteRun, [], ap, arith, inl, inr, reads_code, refl, status_by, status_of, status_of_end}
use Rattle.rw_commands.proofs.Common.{takes_code, true, ℕ, ◌∙◌, ◌∷◌, ◌≡◌, ◌≢◌, ◌≤◌, ◌⊎◌}
use Rattle.rw_commands.specs.declared.refusal.File.{File}
use Rattle.rw_commands.specs.declared.refusal.Refusal.{Refusal}
use Rattle.rw_run.specs.Next.{no_rules}
use Rattle.rw_run.specs.declared.fault.RunFault.{RunFault}
use Rattle.rw_base.specs.declared.number.Cell.{Cell}
use Rattle.rw_commands.specs.Cell.{FindsCell}
use Rattle.rw_commands.specs.Promise.{WroteBalance, WroteMany, WroteMigrated, WroteRules, WroteSample, WroteWhy}
use Rattle.rw_commands.specs.Reading.{LacksCell, ReadsModel, ReadsScenarios, RefusesEdits, RefusesScenarios, text_wanted}
use Rattle.rpl_compile.specs.Translate.{translate}
use Rattle.rw_commands.specs.RunText.{IsBalanceOfRules, IsRulesText, IsSampleText, IsWhyOfRules}
use Rattle.rw_commands.specs.Many.{AllSettled, AreScenarioRuns, many_texts, status_of_runs}
use Rattle.rw_model_toml.specs.Migrated.{IsMigrated}
use Rattle.rw_inputs.specs.Edits.{Batch}
use Rattle.rw_run.specs.Log.{Log}
use Rattle.rw_run.specs.RunOf.{end_of}
use Rattle.rw_mrm.specs.Tally.{is_settled}
use Rattle.rw_base.proofs.Common.{All-cons, All-head, All-nil, All-tail, if◌then◌else◌, none-some, same_Some, subst, unwrap_or}
use Rattle.rw_commands.proofs.SampleText.{inputs_of_sample, model_of_sample, ruleset_of_sample, source_by}
use Rattle.rw_commands.specs.Sections.{AreSections, joined_sections}
use Rattle.rw_commands.specs.Written.{WritesSections, batches_in, scenarios_in}
use Rattle.rw_commands.proofs.SectionLemmas.{one_grown}
use Rattle.rw_base.proofs.Common.{sym, ◌&&◌}
use Rattle.rw_inputs.specs.Inputs.{Inputs as Given}
use Rattle.rpl_code.specs.Spelling.{spelt}
use Rattle.rw_commands.specs.Budgets.{check_text}
use Rattle.rw_commands.specs.Policy.{BadCode, RulesRefusal, BadRules, BadBlocks, PolicyFile as Rules, Ruleset, Code, code_in_file, is_code}
use Rattle.rw_words.specs.declared.job.Job.TheVariants.{Simulate, Check, Compile, Run, Why, Sample, Balance, Mrm, Migrate}
use Rattle.rw_commands.specs.declared.refusal.File.TheVariants.{Policy as PolicyFile, Inputs as InputsFile, Traces as TracesFile}
use Rattle.rw_commands.specs.declared.refusal.Refusal.TheVariants.{Words, CannotRead, CannotWrite, NoMemory, Inputs, Edits, Traces, NoCell}
use Rattle.rw_commands.proofs.CauseLemmas.{told_status}
use Rattle.rw_commands.proofs.OneReading.{one_kind}
use Rattle.rw_commands.specs.Command.{extras_of}
use Rattle.rw_commands.specs.RunText.{IsPlainText}
use Rattle.rw_commands.specs.Sections.{first_given}

settles : (P : RunEnd → Type 0) (end : RunEnd) → 0 ≡ status_of_end end → P end → P Settled
settles P Settled is wrote = wrote
settles P (Fault why) is wrote = absurd (omega (arith, is))

faults : (P : RunEnd → Type 0) (end : RunEnd) → 1 ≡ status_of_end end → P end → (why : RunFault) × P (Fault why)
faults P Settled is wrote = absurd (omega (arith, is))
faults P (Fault why) is wrote = (why, wrote)

-- a status of 0 is that of runs that all settled
ended : (log : Log) (end : RunEnd) → end_of log ≡ end → (rest : ℕ) → 0 ≡ (if is_settled end then rest else 1) → (end_of log ≡ Settled) × (0 ≡ rest)
ended log Settled is rest status = (is, status)
ended log (Fault why) is rest status = absurd (omega (arith, status))

abbrev HasSettled : Log → Type 0
HasSettled log = end_of log ≡ Settled

all_settled : (logs : List Log) → 0 ≡ status_of_runs logs → AllSettled logs
all_settled [] status = All-nil HasSettled
all_settled (log ∷ logs) status =
    let both = ended log (end_of log) refl (status_of_runs logs) status in All-cons HasSettled log logs both.0 (all_settled logs both.1)

-- and one of 1 isn't
some_faulted : (logs : List Log) → 1 ≡ status_of_runs logs → AllSettled logs → ⊥
some_faulted [] status all = absurd (omega (arith, status))
some_faulted (log ∷ logs) status all =
    some_faulted logs (subst (λ end. 1 ≡ (if is_settled end then status_of_runs logs else 1)) (All-head HasSettled log logs all) status)
    (All-tail HasSettled log logs all)

module _ (call : Call) (command : Command) (asked : AskForCommand call.words command) (files : FilesRead)
    (read : AreRead command call.shelf.before.holds files) (texts : List (List ℕ))
    (grew : GrowsBy call.out.before.contents call.out.after.contents (joined_sections texts)) where
  abbrev holds : Holds
  holds = call.shelf.before.holds

  one : (text : List ℕ) → texts ≡ text ∷ [] → GrowsBy call.out.before.contents call.out.after.contents text
  one text is = one_grown call.out.before.contents call.out.after.contents texts text is grew

  wrote_run : (end : RunEnd) (inputs : Option Given) → SaysAt command InputsFile inputs (ReadsInputs command holds files.basin)
      → IsSomeAnd inputs (λ given. AreSections (IsPlainText files.basin (extras_of command)) 0 (first_given given) [] end texts) → WroteRun call end
  wrote_run end None says is = absurd is
  wrote_run end (Some inputs) says is =
      record { command = command; asked = asked; basin = files.basin; inputs = inputs; read = says; text = is.0; is = is.2; grew = one is.0 is.1 }

  wrote_rules : (end : RunEnd) (policy : Option Rules) (inputs : Option Given)
      → SaysAt command PolicyFile policy (ReadsPolicy command holds files.basin)
      → SaysAt command InputsFile inputs (ReadsInputs command holds files.basin)
      → IsSomeAnd policy (λ rules. IsSomeAnd inputs (λ given.
      AreSections (IsRulesText files.basin rules (extras_of command)) 0 (first_given given) (batches_in files) end texts)) → WroteRules call end
  wrote_rules end None inputs rules says is = absurd is
  wrote_rules end (Some policy) None rules says is = absurd is
  wrote_rules end (Some policy) (Some inputs) rules says is = record {
    command = command;
    asked = asked;
    basin = files.basin;
    policy = policy;
    rules = rules;
    inputs = inputs;
    read = says;
    edits = files.edits;
    edited = read.edits;
    texts = texts;
    are = is;
    grew = grew;
  }

  wrote_why : (end : RunEnd) (policy : Option Rules) (inputs : Option Given) (cell : Option Cell)
      → SaysAt command PolicyFile policy (ReadsPolicy command holds files.basin)
      → SaysAt command InputsFile inputs (ReadsInputs command holds files.basin) → FindsCell command files.basin cell
      → IsSomeAnd policy (λ rules. IsSomeAnd inputs (λ given. IsSomeAnd cell (λ found.
      (text : List ℕ) × (texts ≡ text ∷ []) × IsWhyOfRules files.basin rules given found end text))) → WroteWhy call end
  wrote_why end None inputs cell rules says finds is = absurd is
  wrote_why end (Some policy) None cell rules says finds is = absurd is
  wrote_why end (Some policy) (Some inputs) None rules says finds is = absurd is
  wrote_why end (Some policy) (Some inputs) (Some cell) rules says finds is = record {
    command = command;
    asked = asked;
    basin = files.basin;
    policy = policy;
    rules = rules;
    inputs = inputs;
    read = says;
    cell = cell;
    named = sym finds.is;
    text = is.0;
    is = is.2;
    grew = one is.0 is.1;
  }

  wrote_check : (policy : Option Rules) → SaysAt command PolicyFile policy (ReadsPolicy command holds files.basin)
      → IsSomeAnd policy (λ rules. texts ≡ check_text rules ∷ []) → WroteCheck call
  wrote_check None says is = absurd is
  wrote_check (Some policy) says is =
      record { command = command; asked = asked; basin = files.basin; policy = policy; read = says; grew = one (check_text policy) is }

  -- what is compiled is a ruleset
  wrote_code : command.job ≡ Compile → (policy : Option Rules) → SaysAt command PolicyFile policy (ReadsPolicy command holds files.basin)
      → IsSomeAnd policy (λ rules. texts ≡ spelt (code_in_file rules) ∷ []) → WroteCode call
  wrote_code job None says is = absurd is
  wrote_code job (Some (Ruleset rules)) says is =
      record { command = command; asked = asked; basin = files.basin; rules = rules; read = says; grew = one (spelt (translate rules)) is }
  wrote_code job (Some (Code blocks budgets)) says is =
      let as_code : reads_code command says.text ≡ true = says.is.0 in
      absurd (one_kind _ as_code (ap (λ j. takes_code j && is_code says.text) job))

  -- the ruleset of the sample is one
  wrote_sample : (seed : ℕ) → command.job ≡ Sample seed → (policy : Option Rules) (inputs : Option Given)
      → SaysAt command PolicyFile policy (ReadsPolicy command holds files.basin)
      → SaysAt command InputsFile inputs (ReadsInputs command holds files.basin)
      → IsSomeAnd policy (λ rules. IsSomeAnd inputs (λ given.
      (text : List ℕ) × (texts ≡ text ∷ []) × IsSampleText files.basin rules given seed text)) → WroteSample call
  wrote_sample seed job None inputs rules says is = absurd is
  wrote_sample seed job (Some policy) None rules says is = absurd is
  wrote_sample seed job (Some (Ruleset rules)) (Some inputs) its says is = record {
    command = command;
    asked = asked;
    seed = seed;
    job = job;
    text = is.0;
    is = record {
      basin = files.basin;
      model = model_of_sample command holds files.basin seed job read.model;
      rules = rules;
      spelt = ruleset_of_sample command holds files.basin rules seed job its;
      inputs = inputs;
      given = inputs_of_sample command holds files.basin inputs seed job says;
      line = is.2;
    };
    grew = one is.0 is.1;
  }
  wrote_sample seed job (Some (Code blocks budgets)) (Some inputs) its says is =
      let as_code : reads_code command its.text ≡ true = its.is.0 in
      absurd (one_kind _ as_code (ap (λ j. takes_code j && is_code its.text) job))

  wrote_balance : (end : RunEnd) (policy : Option Rules) (inputs : Option Given)
      → SaysAt command PolicyFile policy (ReadsPolicy command holds files.basin)
      → SaysAt command InputsFile inputs (ReadsInputs command holds files.basin)
      → IsSomeAnd policy (λ rules. IsSomeAnd inputs (λ given.
      (text : List ℕ) × (texts ≡ text ∷ []) × IsBalanceOfRules files.basin rules given end text)) → WroteBalance call end
  wrote_balance end None inputs rules says is = absurd is
  wrote_balance end (Some policy) None rules says is = absurd is
  wrote_balance end (Some policy) (Some inputs) rules says is = record {
    command = command;
    asked = asked;
    basin = files.basin;
    policy = policy;
    rules = rules;
    inputs = inputs;
    read = says;
    text = is.0;
    is = is.2;
    grew = one is.0 is.1;
  }

  -- the scenarios of `mrm` are there
  wrote_many : (status : ℕ) → command.job ≡ Mrm → (policy : Option Rules) (inputs : Option Given) (scenarios : Option (List Batch))
      → SaysAt command PolicyFile policy (ReadsPolicy command holds files.basin)
      → SaysAt command InputsFile inputs (ReadsInputs command holds files.basin)
      → SaysAt command TracesFile scenarios (ReadsScenarios command holds files.basin)
      → IsSomeAnd policy (λ rules. IsSomeAnd inputs (λ given. (logs : List Log)
      × AreScenarioRuns files.basin rules given (unwrap_or scenarios []) logs
      × (status ≡ status_of_runs logs) × (texts ≡ many_texts files.basin logs)))
      → (logs : List Log) × (status ≡ status_of_runs logs) × WroteMany call logs
  wrote_many status job None inputs scenarios rules says told is = absurd is
  wrote_many status job (Some policy) None scenarios rules says told is = absurd is
  wrote_many status job (Some policy) (Some inputs) None rules says told is =
      let none : source_by TracesFile command.paths Mrm ≡ None = sym (ap (source_by TracesFile command.paths) job) ∙ told in
      absurd (none-some _ (sym none))
  wrote_many status job (Some policy) (Some inputs) (Some scenarios) rules says told is = (
    is.0,
    is.2,
    record {
      command = command;
      asked = asked;
      basin = files.basin;
      policy = policy;
      rules = rules;
      inputs = inputs;
      read = says;
      scenarios = scenarios;
      told = told;
      are = is.1;
      grew = subst (λ ts. GrowsBy call.out.before.contents call.out.after.contents (joined_sections ts)) is.3 grew;
    },
  )

  wrote_migrated : command.job ≡ Migrate → (text : Option (List ℕ)) → text ≡ text_wanted command.job read.model.text
      → IsSomeAnd text (λ old. (new : List ℕ) × (texts ≡ new ∷ []) × IsMigrated old new) → WroteMigrated call
  wrote_migrated job None kept is = absurd is
  wrote_migrated job (Some old) kept is =
      let same : old ≡ read.model.text = same_Some _ _ (kept ∙ ap (λ j. text_wanted j read.model.text) job) in
      record {
        command = command;
        asked = asked;
        basin = files.basin;
        model = read.model;
        text = is.0;
        is = subst (λ t. IsMigrated t is.0) same is.2;
        grew = one is.0 is.1;
      }

  abbrev WroteSettled : Type 0
  WroteSettled = WroteRun call Settled ⊎ WroteRules call Settled ⊎ WroteWhy call Settled ⊎ WroteCheck call ⊎ WroteCode call ⊎ WroteSample call
      ⊎ WroteBalance call Settled ⊎ ((logs : List Log) × WroteMany call logs × AllSettled logs) ⊎ WroteMigrated call

  settled_by : (job : Job) → command.job ≡ job → IsTextOf job (extras_of command) files 0 texts → WroteSettled
  settled_by Simulate job is = inl (settles (WroteRun call) is.0 is.1 (wrote_run is.0 files.inputs read.inputs is.2))
  settled_by Check job is = inr (inr (inr (inl (wrote_check files.policy read.policy is.1))))
  settled_by Compile job is = inr (inr (inr (inr (inl (wrote_code job files.policy read.policy is.1)))))
  settled_by (Sample seed) job is =
      inr (inr (inr (inr (inr (inl (wrote_sample seed job files.policy files.inputs read.policy read.inputs is.1))))))
  settled_by Balance job is =
      inr (inr (inr (inr (inr (inr (inl (settles (WroteBalance call) is.0 is.1
      (wrote_balance is.0 files.policy files.inputs read.policy read.inputs is.2))))))))
  settled_by Mrm job is =
      let many = wrote_many 0 job files.policy files.inputs files.scenarios read.policy read.inputs read.scenarios is in
      inr (inr (inr (inr (inr (inr (inr (inl (many.0, many.2, all_settled many.0 many.1))))))))
  settled_by Migrate job is = inr (inr (inr (inr (inr (inr (inr (inr (wrote_migrated job files.text read.text_is is.1))))))))
  settled_by Why job is =
      inr (inr (inl (settles (WroteWhy call) is.0 is.1
      (wrote_why is.0 files.policy files.inputs files.cell read.policy read.inputs read.cell is.2))))
  settled_by Run job is =
      inr (inl (settles (WroteRules call) is.0 is.1 (wrote_rules is.0 files.policy files.inputs read.policy read.inputs is.2)))

  abbrev WroteFault : RunEnd → Type 0
  WroteFault end = WroteRun call end ⊎ WroteRules call end ⊎ WroteWhy call end ⊎ WroteBalance call end

  abbrev WroteFaulted : Type 0
  WroteFaulted = ((why : RunFault) × WroteFault (Fault why)) ⊎ ((logs : List Log) × WroteMany call logs × ¬ AllSettled logs)

  faulted_by : (job : Job) → command.job ≡ job → IsTextOf job (extras_of command) files 1 texts → WroteFaulted
  faulted_by Simulate job is = inl (faults WroteFault is.0 is.1 (inl (wrote_run is.0 files.inputs read.inputs is.2)))
  faulted_by Run job is =
      inl (faults WroteFault is.0 is.1 (inr (inl (wrote_rules is.0 files.policy files.inputs read.policy read.inputs is.2))))
  faulted_by Why job is =
      inl (faults WroteFault is.0 is.1
      (inr (inr (inl (wrote_why is.0 files.policy files.inputs files.cell read.policy read.inputs read.cell is.2)))))
  faulted_by Balance job is =
      inl (faults WroteFault is.0 is.1 (inr (inr (inr (wrote_balance is.0 files.policy files.inputs read.policy read.inputs is.2)))))
  faulted_by Mrm job is =
      let many = wrote_many 1 job files.policy files.inputs files.scenarios read.policy read.inputs read.scenarios is in
      inr (many.0, many.2, some_faulted many.0 many.1)
  faulted_by Check job is = absurd (omega (arith, is.0))
  faulted_by Compile job is = absurd (omega (arith, is.0))
  faulted_by (Sample seed) job is = absurd (omega (arith, is.0))
  faulted_by Migrate job is = absurd (omega (arith, is.0))

pub settled : (call : Call) → Promise call 0
    → WroteRun call Settled ⊎ WroteRules call Settled ⊎ WroteWhy call Settled ⊎ WroteCheck call ⊎ WroteCode call ⊎ WroteSample call
    ⊎ WroteBalance call Settled ⊎ ((logs : List Log) × WroteMany call logs × AllSettled logs) ⊎ WroteMigrated call
settled call promise =
    let wrote = promise.done (omega arith) in
    let appends = wrote.text.2 in
    settled_by call wrote.command wrote.asked wrote.text.0 wrote.text.1 appends.texts appends.grew wrote.command.job refl appends.is

pub faulted : (call : Call) → Promise call 1
    → ((why : RunFault) × (WroteRun call (Fault why) ⊎ WroteRules call (Fault why) ⊎ WroteWhy call (Fault why) ⊎ WroteBalance call (Fault why)))
    ⊎ ((logs : List Log) × WroteMany call logs × ¬ AllSettled logs)
faulted call promise =
    let wrote = promise.done (omega arith) in
    let appends = wrote.text.2 in
    faulted_by call wrote.command wrote.asked wrote.text.0 wrote.text.1 appends.texts appends.grew wrote.command.job refl appends.is

module _ (call : Call) where
  by_words : (why : Refusal) → 2 ≡ status_of why → WasRefused call why → AskNothing call.words
  by_words Words is was = was.nothing
  by_words why is was = absurd (omega (arith, is))

  -- each other status is that of a command
  by_command : (why : Refusal) → status_of why ≢ 2 → status_of why ≢ 5 → WasRefused call why → RefusedCommand call why
  by_command Words words memory was = absurd (words refl)
  by_command NoMemory words memory was = absurd (memory refl)
  by_command why words memory was = was

  by_read : (why : Refusal) → 3 ≡ status_of why → RefusedCommand call why
      → AskOne call.words (λ command. (file : File) × FailsToRead command call.shelf file)
  by_read (CannotRead file) is was = (was.command, was.asked, (file, was.cause.0))
  by_read why is was = absurd (omega (arith, is))

  by_write : (why : Refusal) → 4 ≡ status_of why → RefusedCommand call why
      → AskOne call.words (λ command. WritesFront command call.shelf.before.holds call.out) × Rose call.out.before.faults call.out.after.faults
  by_write CannotWrite is was = ((was.command, was.asked, was.cause.0), was.cause.1)
  by_write why is was = absurd (omega (arith, is))

  -- from 6 on, that of a reason that was found, or of a cell that isn't there
  by_reason : (why : Refusal) → 6 ≤ status_of why → why ≢ NoCell → RefusedCommand call why
      → AskOne call.words (λ command. (reason : Reason) × (status_of why ≡ status_by reason) × WasFound command call.shelf reason)
  by_reason Words high named was = absurd (omega (arith, high))
  by_reason (CannotRead file) high named was = absurd (omega (arith, high))
  by_reason CannotWrite high named was = absurd (omega (arith, high))
  by_reason NoMemory high named was = absurd (omega (arith, high))
  by_reason NoCell high named was = absurd (named refl)
  by_reason why high named was =
      let told = was.cause.0 in (was.command, was.asked, (told.reason, told_status why told.reason told.tells, told.found))

  by_memory : (why : Refusal) → 5 ≡ status_of why → WasRefused call why
      → (call.out.after.contents ≡ call.out.before.contents) ⊎ AskOne call.words (λ command. WritesSections command call.shelf.before.holds call.out)
  by_memory NoMemory is (inl was) = inl was.still
  by_memory NoMemory is (inr was) = inr (was.command, was.asked, was.cause)
  by_memory why is was = absurd (omega (arith, is))

  untouched_by : (why : Refusal) → status_of why ≢ 4 → status_of why ≢ 5 → WasRefused call why
      → call.out.after.contents ≡ call.out.before.contents
  untouched_by Words written memory was = was.still
  untouched_by CannotWrite written memory was = absurd (written refl)
  untouched_by NoMemory written memory was = absurd (memory refl)
  untouched_by why written memory was = was.cause.1

  -- the command that is refused, where the status isn't 2
  of_status : (status : ℕ) → 3 ≤ status → status ≢ 5 → Promise call status → (why : Refusal) × (status ≡ status_of why) × RefusedCommand call why
  of_status status high memory promise =
      let refused = promise.refused (omega (arith, high)) in
      (refused.0, refused.1, by_command refused.0 (omega (arith, high, refused.1)) (λ is. memory (refused.1 ∙ is)) refused.2)

  pub words : Promise call 2 → AskNothing call.words
  words promise = let refused = promise.refused (omega arith) in by_words refused.0 refused.1 refused.2

  pub read_fault : Promise call 3 → AskOne call.words (λ command. (file : File) × FailsToRead command call.shelf file)
  read_fault promise = let refused = of_status 3 (omega arith) (omega arith) promise in by_read refused.0 refused.1 refused.2

  pub write : Promise call 4
      → AskOne call.words (λ command. WritesFront command call.shelf.before.holds call.out) × Rose call.out.before.faults call.out.after.faults
  write promise = let refused = of_status 4 (omega arith) (omega arith) promise in by_write refused.0 refused.1 refused.2

  -- from 6 on, the reason that was found
  reason_of_status : (status : ℕ) → 6 ≤ status → status ≢ 8 → Promise call status
      → AskOne call.words (λ command. (reason : Reason) × (status ≡ status_by reason) × WasFound command call.shelf reason)
  reason_of_status status high other promise =
      let refused = of_status status (omega (arith, high)) (omega (arith, high)) promise in
      let there = by_reason refused.0 (omega (arith, high, refused.1)) (λ is. other (refused.1 ∙ ap status_of is)) refused.2 in
      (there.0, there.1, (there.2.0, refused.1 ∙ there.2.1, there.2.2))

  bad_model : (command : Command) (reason : Reason) → 6 ≡ status_by reason → WasFound command call.shelf reason
      → (why : ModelRefusal) × RefusesModel command call.shelf.before.holds why
  bad_model command (BadModel why) is found = (why, found)
  bad_model command (BadPolicy (BadRules why)) is found = absurd (omega (arith, is))
  bad_model command (BadPolicy (BadBlocks why)) is found = absurd (omega (arith, is))
  bad_model command reason is found = absurd (omega (arith, is))

  bad_rules : (command : Command) (reason : Reason) → 7 ≡ status_by reason → WasFound command call.shelf reason
      → (why : RulesRefusal) × RefusesPolicy command call.shelf.before.holds (BadRules why)
  bad_rules command (BadPolicy (BadRules why)) is found = (why, found)
  bad_rules command reason is found = absurd (omega (arith, is))

  bad_code : (command : Command) (reason : Reason) → 9 ≡ status_by reason → WasFound command call.shelf reason
      → (why : BadCode) × RefusesPolicy command call.shelf.before.holds (BadBlocks why)
  bad_code command (BadPolicy (BadBlocks why)) is found = (why, found)
  bad_code command reason is found = absurd (omega (arith, is))

  bad_inputs : (command : Command) (reason : Reason) → 8 ≡ status_by reason → WasFound command call.shelf reason
      → (why : InputRefusal) × (RefusesInputs command call.shelf.before.holds why ⊎ RefusesEdits command call.shelf.before.holds why
      ⊎ RefusesScenarios command call.shelf.before.holds why)
  bad_inputs command (BadInputs why) is found = (why, inl found)
  bad_inputs command (BadEdits why) is found = (why, inr (inl found))
  bad_inputs command (BadScenarios why) is found = (why, inr (inr found))
  bad_inputs command (BadPolicy (BadRules why)) is found = absurd (omega (arith, is))
  bad_inputs command (BadPolicy (BadBlocks why)) is found = absurd (omega (arith, is))
  bad_inputs command reason is found = absurd (omega (arith, is))

  long_file : (command : Command) (reason : Reason) → 10 ≡ status_by reason → WasFound command call.shelf reason
      → (file : File) × FindsTooLong command call.shelf file
  long_file command (LongFile file) is found = (file, found)
  long_file command (BadPolicy (BadRules why)) is found = absurd (omega (arith, is))
  long_file command (BadPolicy (BadBlocks why)) is found = absurd (omega (arith, is))
  long_file command reason is found = absurd (omega (arith, is))

  pub model : Promise call 6 → AskOne call.words (λ command. (why : ModelRefusal) × RefusesModel command call.shelf.before.holds why)
  model promise = let there =
      reason_of_status 6 (omega arith) (omega arith) promise in (there.0, there.1, bad_model there.0 there.2.0 there.2.1 there.2.2)

  pub rules : Promise call 7 → AskOne call.words (λ command. (why : RulesRefusal) × RefusesPolicy command call.shelf.before.holds (BadRules why))
  rules promise = let there =
      reason_of_status 7 (omega arith) (omega arith) promise in (there.0, there.1, bad_rules there.0 there.2.0 there.2.1 there.2.2)

  pub code : Promise call 9 → AskOne call.words (λ command. (why : BadCode) × RefusesPolicy command call.shelf.before.holds (BadBlocks why))
  code promise = let there =
      reason_of_status 9 (omega arith) (omega arith) promise in (there.0, there.1, bad_code there.0 there.2.0 there.2.1 there.2.2)

  -- 8 is that of a row, or of a cell that isn't there
  abbrev RowOrCell : Command → Type 0
  RowOrCell command = ((why : InputRefusal) × (RefusesInputs command call.shelf.before.holds why ⊎ RefusesEdits command call.shelf.before.holds why
      ⊎ RefusesScenarios command call.shelf.before.holds why))
      ⊎ LacksCell command call.shelf.before.holds

  by_row : (why : Refusal) → 8 ≡ status_of why → why ≢ NoCell → RefusedCommand call why → AskOne call.words RowOrCell
  by_row why is named was =
      let there = by_reason why (omega (arith, is)) named was in
      (there.0, there.1, inl (bad_inputs there.0 there.2.0 (is ∙ there.2.1) there.2.2))

  row_or_cell : (why : Refusal) → 8 ≡ status_of why → RefusedCommand call why → AskOne call.words RowOrCell
  row_or_cell NoCell is was = (was.command, was.asked, inr was.cause.0)
  row_or_cell (Inputs kind row column) is was = by_row (Inputs kind row column) is (λ same. cc) was
  row_or_cell (Edits kind row column) is was = by_row (Edits kind row column) is (λ same. cc) was
  row_or_cell (Traces kind row column) is was = by_row (Traces kind row column) is (λ same. cc) was
  row_or_cell why is was = absurd (omega (arith, is))

  pub inputs : Promise call 8 → AskOne call.words RowOrCell
  inputs promise = let refused = of_status 8 (omega arith) (omega arith) promise in row_or_cell refused.0 refused.1 refused.2

  pub too_long : Promise call 10 → AskOne call.words (λ command. (file : File) × FindsTooLong command call.shelf file)
  too_long promise = let there =
      reason_of_status 10 (omega arith) (omega arith) promise in (there.0, there.1, long_file there.0 there.2.0 there.2.1 there.2.2)

  pub sections : Promise call 5 → (call.out.after.contents ≡ call.out.before.contents)
      ⊎ AskOne call.words (λ command. WritesSections command call.shelf.before.holds call.out)
  sections promise = let refused = promise.refused (omega arith) in by_memory refused.0 refused.1 refused.2

  pub untouched : (status : ℕ) → Promise call status → 2 ≤ status → status ≢ 4 → status ≢ 5
      → call.out.after.contents ≡ call.out.before.contents
  untouched status promise low written memory =
      let refused = promise.refused low in
      untouched_by refused.0 (λ is. written (refused.1 ∙ is)) (λ is. memory (refused.1 ∙ is)) refused.2
