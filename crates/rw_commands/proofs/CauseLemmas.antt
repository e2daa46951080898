-- Causes as the code comes to them, step by step.
use Rattle.rw_commands.proofs.Common.{AreRead, BadEdits, BadInputs, BadModel, BadPolicy, BadScenarios, Cause, Change, Checked, Command, Declared, Err, FILE_MAX, File}
use Rattle.rw_commands.proofs.Common.{FileCause, FilesRead, Holds, IsErrOf, IsPolicyRefusal, IsReading, IsSomeAnd, IsTooLong, List, LongFile, MatchResult}
use Rattle.rw_commands.proofs.Common.{None, NoneFell, Ok, Option, Reaches, Reason, Refusal, Result, Rose, ShelfView, SinkView, Some, WasFound, ap, arith}
use Rattle.rw_commands.proofs.Common.{change, checked, false, inl, inr, option_map, path_of, reason_of, refl, refusal_after, status_by, status_of, subst}
use Rattle.rw_commands.proofs.Common.{sym, true, with_types, ℕ, ◌<◌, ◌∙◌, ◌≡◌}
use Rattle.rw_inputs.specs.Refusal.{refused_at}
use Rattle.rw_io.specs.declared.whole_file.ReadEnd.{ReadEnd}
use Rattle.rw_io.specs.declared.whole_file.ReadEnd.TheVariants.{ReadFault, TooLong as EndTooLong, NoMemory as EndNoMemory}
use Rattle.rw_model.specs.Draft.{Draft}
use Rattle.rw_model_toml.specs.Fault.{model_refusal_of}
use Rattle.rpl_parse.specs.declared.fault.ParseFault.{ParseFault}
use Rattle.rpl_parse.specs.declared.fault.ParseFault.TheVariants as P
use Rattle.rpl_parse.specs.Declarations.{bad_declaration, bad_token, too_many}
use Rattle.rpl_parse.specs.Parsing.{AnswersReading, grammar_refusal_of as refusal_of_grammar}
use Rattle.rpl_parse.proofs.Answering.{tells_due}
use Rattle.rpl_types.specs.Judged.{TypeRefusal as NodeRefusal, rules_judged, type_refusal}
use Rattle.rw_base.specs.Answers.{IsWhy}
use Rattle.rpl_code.specs.Answers.{code_refusal_of as refusal_of_code}
use Rattle.rpl_code.specs.Reading.{read}
use Rattle.rpl_code.specs.declared.fault.CodeFault.{CodeFault}
use Rattle.rpl_code.specs.declared.fault.CodeFault.TheVariants as C
use Rattle.rpl_code.specs.declared.block.Block.{Block}
use Rattle.rpl_tree.specs.Budget.{Budget}
use Rattle.rpl_verify.specs.Budget.{ruling}
use Rattle.rpl_verify.specs.Fits.{Refusal as BlockRefusal, refusal as block_refusal}
use Rattle.rpl_verify.specs.Resolved.{resolved_code}
use Rattle.rpl_verify.specs.Verified.{Accepted, verified, with_budgets}
use Rattle.rpl_types.specs.Nodes.{Types as NodeTypes}
use Rattle.rw_commands.specs.Policy.{Unread, Misfit, BadRules, BadBlocks, BadGrammar, BadNode, IsRulesetOf, RefusesNode}
use Rattle.rw_commands.specs.Reading.{ReadsModel, WasRead, reads_code}
use Rattle.rw_commands.specs.Refusal.{TellsReason}
use Rattle.rw_commands.specs.declared.refusal.File.TheVariants.{Policy as PolicyFile}
use Rattle.rw_commands.specs.Written.{Stops}
use Rattle.rw_commands.specs.Ready.{IsMadeOf}
use Rattle.rw_commands.specs.declared.policy.Policy.TheVariants as Held
use Rattle.rw_commands.specs.declared.refusal.Refusal.TheVariants.{CannotRead, CannotWrite, NoMemory, Model, Grammar, Types, Code, Block as BlockAt}
use Rattle.rw_commands.specs.declared.refusal.Refusal.TheVariants.{Inputs, Edits, Traces, NoCell, TooLong}
use Rattle.rw_commands.specs.Command.{extras_of}

-- a fault that doesn't tell nothing tells why
pub tells_why : {R : Type 0} (told : Option R) → ¬ (told ≡ None) → (why : R) × (told ≡ Some why)
tells_why None tells = absurd (tells refl)
tells_why (Some why) tells = (why, refl)

-- a refusal that tells a reason has the status of the reason
told_by : {A : Type 0} (wrap : A → Reason) (status : ℕ) → ((bad : A) → status ≡ status_by (wrap bad)) → (why : Option A) (reason : Reason)
    → option_map wrap why ≡ Some reason → status ≡ status_by reason
told_by wrap status same None reason tells = absurd cc
told_by wrap status same (Some bad) reason tells = let is : wrap bad ≡ reason = cc in same bad ∙ ap status_by is

pub told_status : (why : Refusal) (reason : Reason) → reason_of why ≡ Some reason → status_of why ≡ status_by reason
told_status (Model fault) reason tells = told_by (λ bad. BadModel bad) 6 (λ bad. refl) (model_refusal_of fault) reason tells
told_status (Grammar fault) reason tells =
    told_by (λ bad. BadPolicy (BadRules (BadGrammar bad))) 7 (λ bad. refl) (refusal_of_grammar fault) reason tells
told_status (Types kind declaration node) reason tells =
    let same : BadPolicy (BadRules (BadNode (type_refusal kind declaration node))) ≡ reason = cc in ap status_by same
told_status (Code fault) reason tells = told_by (λ bad. BadPolicy (BadBlocks (Unread bad))) 9 (λ bad. refl) (refusal_of_code fault) reason tells
told_status (BlockAt kind block place) reason tells =
    let same : BadPolicy (BadBlocks (Misfit (block_refusal kind block place))) ≡ reason = cc in ap status_by same
told_status (Inputs kind row column) reason tells = let same : BadInputs (refused_at kind row column) ≡ reason = cc in ap status_by same
told_status (Edits kind row column) reason tells = let same : BadEdits (refused_at kind row column) ≡ reason = cc in ap status_by same
told_status (Traces kind row column) reason tells = let same : BadScenarios (refused_at kind row column) ≡ reason = cc in ap status_by same
told_status (TooLong file) reason tells = let same : LongFile file ≡ reason = cc in ap status_by same
told_status why reason tells = absurd cc

no_memory : (command : Command) (shelf : Change ShelfView) (why : Refusal) → why ≡ NoMemory → FileCause command shelf why
no_memory command shelf why is = subst (FileCause command shelf) (sym is) tt

-- why a file isn't read whole
pub read_cause : {A : Type 0} (command : Command) (shelf : Change ShelfView) (file : File) (path : List ℕ) (end : ReadEnd) (result : Result A ReadEnd)
    → result ≡ Err end → path_of command file ≡ Some path → Reaches command shelf.before.holds file
    → (IsErrOf result ReadFault → Rose (shelf.before.faults path) (shelf.after.faults path))
    → (IsErrOf result EndTooLong → FILE_MAX < shelf.after.taken)
    → (IsErrOf result EndTooLong → IsTooLong shelf.before.holds path)
    → FileCause command shelf (refusal_after end file)
read_cause command shelf file path ReadFault result is named reached fault long longer = record {
  reached = reached;
  rose = subst (λ o. IsSomeAnd o (λ p. Rose (shelf.before.faults p) (shelf.after.faults p))) (sym named) (fault is);
}
read_cause command shelf file path EndTooLong result is named reached fault long longer = record {
  reason = LongFile file;
  tells = refl;
  found = record {
    holds_too_long = record { reached = reached; longer = subst (λ o. IsSomeAnd o (IsTooLong shelf.before.holds)) (sym named) (longer is) };
    more = long is;
  };
}
read_cause command shelf file path EndNoMemory result is named reached fault long longer = tt

-- why a text is no ruleset
pub grammar_refusal : (basin : Draft) (text : List ℕ) (fault : ParseFault) → ¬ (fault ≡ P.NoMemory)
    → AnswersReading text (Err fault) → IsPolicyRefusal false basin text (Grammar fault)
grammar_refusal basin text (P.BadToken line) some is = inr (BadRules (BadGrammar (bad_token line)), refl, (refl, tells_due text _ is))
grammar_refusal basin text (P.BadDeclaration declaration line) some is =
    inr (BadRules (BadGrammar (bad_declaration declaration line)), refl, (refl, tells_due text _ is))
grammar_refusal basin text (P.TooMany declaration) some is = inr (BadRules (BadGrammar (too_many declaration)), refl, (refl, tells_due text _ is))
grammar_refusal basin text P.NoMemory some is = absurd (some refl)

-- or no code
pub code_refusal : (basin : Draft) (text : List ℕ) (fault : CodeFault) → ¬ (fault ≡ C.NoMemory)
    → IsWhy C.NoMemory refusal_of_code (read text) fault → IsPolicyRefusal true basin text (Code fault)
code_refusal basin text fault some is =
    let told = tells_why (refusal_of_code fault) (λ none. some (is.1 none)) in
    inr (BadBlocks (Unread told.0), ap (option_map (λ bad. BadPolicy (BadBlocks (Unread bad)))) told.1, (refl, is.0 told.0 told.1))

-- and why a ruleset is refused
judged_err : (rules : List Declared) (result : Result (List NodeTypes) NodeRefusal) (why : NodeRefusal) → with_types rules result ≡ Err why
    → result ≡ Err why
judged_err rules (Ok types) why is = absurd cc
judged_err rules (Err refused) why is = cc

pub refused_rules : (basin : Draft) (text : List ℕ) (rules : List Declared) (why : NodeRefusal) → IsReading text (Ok rules)
    → checked basin rules ≡ Err why → RefusesNode basin text why
refused_rules basin text rules why spells is = record { rules = rules; spells = spells; refused = judged_err rules (rules_judged basin rules) why is }

-- and what is accepted
abbrev rules_with : List Declared → List NodeTypes → Checked
rules_with rules types = record { rules = rules; types = types }

judged_ok : (rules : List Declared) (result : Result (List NodeTypes) NodeRefusal) (all : Checked) → with_types rules result ≡ Ok all
    → (rules ≡ all.rules) × (result ≡ Ok all.types)
judged_ok rules (Ok types) all is = let same : rules_with rules types ≡ all =
    cc in (ap (λ (c : Checked). c.rules) same, ap (λ (c : Checked). Ok c.types) same)
judged_ok rules (Err refused) all is = absurd cc

pub accepted_rules : (basin : Draft) (text : List ℕ) (rules : List Declared) (all : Checked) → IsReading text (Ok rules)
    → checked basin rules ≡ Ok all → IsRulesetOf basin text all.rules
accepted_rules basin text rules all spells is =
    let same = judged_ok rules (rules_judged basin rules) all is in
    record {
      spells = subst (λ rs. IsReading text (Ok rs)) same.0 spells;
      types = all.types;
      typed = subst (λ rs. rules_judged basin rs ≡ Ok all.types) same.0 same.1;
    }

-- the code that is accepted, and why code is refused
abbrev accepted_with : Draft → List Block → List Budget → Accepted
accepted_with basin blocks budgets = record { blocks = blocks; budgets = budgets; resolved = resolved_code basin blocks }

pub accepted_code : (basin : Draft) (blocks : List Block) (result : Result (List Budget) BlockRefusal) (code : Accepted)
    → with_budgets basin blocks result ≡ Ok code → (blocks ≡ code.blocks) × (result ≡ Ok code.budgets)
accepted_code basin blocks (Ok budgets) code is =
    let same : accepted_with basin blocks budgets ≡ code = cc in
    (ap (λ (c : Accepted). c.blocks) same, ap (λ (c : Accepted). Ok c.budgets) same)
accepted_code basin blocks (Err why) code is = absurd cc

pub refused_code : (basin : Draft) (blocks : List Block) (result : Result (List Budget) BlockRefusal) (why : BlockRefusal)
    → with_budgets basin blocks result ≡ Err why → result ≡ Err why
refused_code basin blocks (Ok budgets) why is = absurd cc
refused_code basin blocks (Err refused) why is = cc

pub its_code : (basin : Draft) (text : List ℕ) (blocks : List Block) (code : Accepted) → read text ≡ Ok blocks
    → verified basin blocks ≡ Ok code → IsMadeOf true basin text (Held.Code code)
its_code basin text blocks code spells is =
    let same = accepted_code basin blocks (ruling basin blocks) code is in
    record {
      is = (refl, record { spells = spells ∙ ap (λ bs. Ok bs) same.0; accepted = ap (ruling basin) (sym same.0) ∙ same.1 });
      fits = ap (verified basin) (sym same.0) ∙ is;
    }

-- a reason that is told is a cause
told_cause : (command : Command) (shelf : Change ShelfView) (why : Refusal) → TellsReason command shelf why → FileCause command shelf why
told_cause command shelf (CannotRead file) told = let tells : None ≡ Some told.reason = told.tells in absurd cc
told_cause command shelf NoMemory told = tt
told_cause command shelf NoCell told = let tells : None ≡ Some told.reason = told.tells in absurd cc
told_cause command shelf why told = told

-- why a policy is refused
pub policy_cause : (command : Command) (shelf : Change ShelfView) (basin : Draft) (text : List ℕ)
    → ReadsModel command shelf.before.holds basin → WasRead command shelf.before.holds PolicyFile text
    → (why : Refusal) → IsPolicyRefusal (reads_code command text) basin text why → FileCause command shelf why
policy_cause command shelf basin text model read why (inl is) = no_memory command shelf why is
policy_cause command shelf basin text model read why (inr bad) =
    told_cause command shelf why (record {
      reason = BadPolicy bad.0;
      tells = bad.1;
      found = record { basin = basin; model = model; text = text; read = read; is = bad.2 };
    })

-- no count fell from first to last
pub none_fell : {first later last : List ℕ → ℕ} → NoneFell first later → NoneFell later last → NoneFell first last
none_fell before after path = let one = before path in let other = after path in omega (arith, one, other)

-- faults that are counted from earlier on
rose_since : (first later now : ShelfView) (o : Option (List ℕ)) → NoneFell first.faults later.faults
    → IsSomeAnd o (λ path. Rose (later.faults path) (now.faults path))
    → IsSomeAnd o (λ path. Rose (first.faults path) (now.faults path))
rose_since first later now None fell rose = absurd rose
rose_since first later now (Some path) fell rose = let least = fell path in omega (arith, least, rose)

since_reason : (command : Command) (first later now : ShelfView) (reason : Reason)
    → WasFound command (change (record later { holds = first.holds }) now) reason → WasFound command (change first now) reason
since_reason command first later now (LongFile file) found = record { holds_too_long = found.holds_too_long; more = found.more }
since_reason command first later now reason found = found

since : (command : Command) (first later now : ShelfView) (why : Refusal) → NoneFell first.faults later.faults
    → FileCause command (change (record later { holds = first.holds }) now) why → FileCause command (change first now) why
since command first later now (CannotRead file) fell cause =
    record { reached = cause.reached; rose = rose_since first later now (path_of command file) fell cause.rose }
since command first later now NoMemory fell cause = tt
since command first later now NoCell fell cause = cause
since command first later now why fell cause =
    record { reason = cause.reason; tells = cause.tells; found = since_reason command first later now cause.reason cause.found }

-- a cause that counts from later on counts from earlier on, of a shelf that holds the same
pub cause_earlier : (command : Command) (first later now : ShelfView) (why : Refusal)
    → ((path : List ℕ) → later.holds path ≡ first.holds path) → NoneFell first.faults later.faults
    → FileCause command (change later now) why → FileCause command (change first now) why
cause_earlier command first later now why same fell cause =
    let one : later.holds ≡ first.holds = λ i path. same path i in
    let P : Holds → Type 0 = λ holds. FileCause command (change (record later { holds = holds }) now) why in
    since command first later now why fell (subst P one cause)

-- what is found later on, of a shelf that holds the same
pub found_later : {A : Type 0} (P : Holds → A → Type 0) (command : Command) (first later now : ShelfView) (result : Result A Refusal)
    → ((path : List ℕ) → later.holds path ≡ first.holds path) → NoneFell first.faults later.faults
    → MatchResult result (P later.holds) (FileCause command (change later now))
    → MatchResult result (P first.holds) (FileCause command (change first now))
found_later P command first later now (Ok x) same fell found =
    let one : later.holds ≡ first.holds = λ i path. same path i in subst (λ holds. P holds x) one found
found_later P command first later now (Err why) same fell cause = cause_earlier command first later now why same fell cause

-- a cause before anything was written is a cause of the refusal
pub unwritten : (command : Command) (shelf : Change ShelfView) (out : Change SinkView) (why : Refusal)
    → out.after.contents ≡ out.before.contents → FileCause command shelf why → Cause command shelf out why
unwritten command shelf out CannotWrite still cause = let tells : None ≡ Some cause.reason = cause.tells in absurd cc
unwritten command shelf out NoMemory still cause = inl still
unwritten command shelf out why still cause = (cause, still)

-- and one after something was
pub job_cause : (command : Command) (shelf : Change ShelfView) (out : Change SinkView) (files : FilesRead)
    → AreRead command shelf.before.holds files → (why : Refusal) → Stops command.job (extras_of command) files out why → Cause command shelf out why
job_cause command shelf out files read CannotWrite stops = ((files, read, stops.0), stops.1)
job_cause command shelf out files read NoMemory (inl still) = inl still
job_cause command shelf out files read NoMemory (inr some) = inr (files, read, some)
job_cause command shelf out files read why stops = absurd stops
