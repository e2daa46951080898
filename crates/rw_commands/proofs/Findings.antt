-- What is found of a file is one thing, where the shelf tells what its path holds: the file is accepted, or refused with
-- one status, or too long.
use Rattle.rw_commands.proofs.Common.{Accepts, AcceptsAll, AreRead, BadEdits, BadInputs, BadScenarios, BadModel, BadPolicy, Command, Err, FILE_MAX, File, FilesRead}
use Rattle.rw_commands.proofs.Common.{Holds, HoldsTooLong, IfSome, InputRefusal, IsFoundReason, IsSome, IsSomeAnd, IsTooLong, List, LongFile, ModelRefusal}
use Rattle.rw_commands.proofs.Common.{ReadsFile, None, Ok, Option, Reaches, ReadsInputs, ReadsModel, ReadsPolicy, Reason, Refuses, RefusesInputs}
use Rattle.rw_commands.proofs.Common.{RefusesModel, RefusesPolicy, SaysAt, Some, WasRead, ap, ap₂, arith, cases_lt, file_of, inl, inr, length, model_of}
use Rattle.rw_commands.proofs.Common.{order, path_of, policy_status, reads_code, refl, status_by, subst, sym, ℕ, ◌<◌, ◌∙◌, ◌≡◌, ◌≤◌, ◌⊎◌}
use Rattle.rw_model.specs.Draft.{Draft}
use Rattle.rw_inputs.specs.Edits.{Batch}
use Rattle.rw_inputs.specs.Inputs.{Inputs as Given}
use Rattle.rw_commands.specs.Cell.{cell_asked}
use Rattle.std.specs.Prelude.{option_and_then}
use Rattle.rw_commands.specs.Command.{Source, AtPath, OfSample, path_in, source_of}
use Rattle.rw_commands.specs.Reading.{HasText, LacksCell, ReadsBatches, ReadsEdits, ReadsScenarios, RefusesBatches, RefusesEdits, RefusesScenarios}
use Rattle.rw_commands.specs.Reading.{batches_read}
use Rattle.rw_commands.specs.Policy.{PolicyFile as Rules, PolicyRefusal, RefusesText}
use Rattle.rw_commands.specs.declared.refusal.File.TheVariants.{Model, Policy, Inputs, Edits, Traces}
use Rattle.rw_commands.proofs.CommandLemmas.{is_there}
use Rattle.rw_commands.proofs.OneReading.{one_policy_status, policy_clash, refuses_clash}

-- what was read of a path that is told is one text
one_told : (o : Option (List ℕ)) (a b : List ℕ) → IsSome o → IfSome o (λ f. a ≡ f) → IfSome o (λ f. b ≡ f) → a ≡ b
one_told None a b told h k = cc
one_told (Some f) a b told h k = h ∙ sym k

-- the shelf tells what the path of the file holds, where the command reads it
abbrev pub IsTold : Command → Holds → File → Type 0
IsTold command holds file = IfSome (path_of command file) (λ path. IsSome (holds path))

text_at : (holds : Holds) (file : File) (o : Option Source) (a b : List ℕ) → IfSome (option_and_then path_in o) (λ path. IsSome (holds path))
    → IsSomeAnd o (HasText holds file a) → IsSomeAnd o (HasText holds file b) → a ≡ b
text_at holds file None a b told h k = absurd h
text_at holds file (Some (AtPath path)) a b told h k = one_told (holds path) a b told h.told k.told
text_at holds file (Some (OfSample seed)) a b told h k = h ∙ sym k

pub same_text : (command : Command) (holds : Holds) (file : File) (a b : List ℕ) → IsTold command holds file
    → WasRead command holds file a → WasRead command holds file b → a ≡ b
same_text command holds file a b told h k = text_at holds file (source_of command file) a b told h k

not_long : (o : Option (List ℕ)) (a : List ℕ) → IsSome o → IfSome o (λ f. FILE_MAX < length f)
    → IfSome o (λ f. a ≡ f) → length a ≤ FILE_MAX → ⊥
not_long None a told long h short = cc
not_long (Some f) a told long h short = let longer : FILE_MAX < length a = rw h long in omega arith

-- a file that was read isn't too long
long_clash : (holds : Holds) (file : File) (o : Option Source) (a : List ℕ) → IfSome (option_and_then path_in o) (λ path. IsSome (holds path))
    → IsSomeAnd (option_and_then path_in o) (IsTooLong holds) → IsSomeAnd o (HasText holds file a) → ⊥
long_clash holds file None a told long h = absurd h
long_clash holds file (Some (AtPath path)) a told long h = not_long (holds path) a told long h.told h.short
long_clash holds file (Some (OfSample seed)) a told long h = absurd long

-- what has a path comes from somewhere
sourced : (o : Option Source) → IsSome (option_and_then path_in o) → IsSome o
sourced None some = absurd cc
sourced (Some source) some = refl

-- a file that isn't read isn't named
not_named : {A : Type 0} (o : Option A) → o ≡ None → IsSome o → ⊥
not_named None none some = absurd cc
not_named (Some path) none some = absurd cc

-- files of one place are one
one_file : (a b : File) → order a ≡ order b → a ≡ b
one_file Model Model same = refl
one_file Policy Policy same = refl
one_file Inputs Inputs same = refl
one_file Edits Edits same = refl
one_file Traces Traces same = refl
one_file a b same = absurd (omega (arith, same))

-- the shelf tells of that file, and of each that is read before it
abbrev pub IsToldUpTo : Command → Holds → File → Type 0
IsToldUpTo command holds file = (it : File) → order it ≤ order file → IsTold command holds it

module _ (command : Command) (holds : Holds) where
  -- a model is read as one basin, and isn't refused where it is read
  pub one_basin : (b c : Draft) → IsTold command holds Model
      → ReadsModel command holds b → ReadsModel command holds c → b ≡ c
  one_basin b c told m n =
      let text = same_text command holds Model m.text n.text told m.read n.read in
      let both : Ok b ≡ Ok c = sym m.is ∙ ap model_of text ∙ n.is in
      cc

  -- where the files were read, the cell is there
  pub cell_clash : (files : FilesRead) → IsTold command holds Model → AreRead command holds files → LacksCell command holds → ⊥
  cell_clash files told read lacks =
      let basin = one_basin lacks.basin files.basin told lacks.model read.model in
      let none : files.cell ≡ None = read.cell.is ∙ ap (cell_asked command) (sym basin) ∙ lacks.none in
      not_named files.cell none (read.cell.some lacks.seeks)

  model_clash : (why : ModelRefusal) (b : Draft) → IsTold command holds Model
      → RefusesModel command holds why → ReadsModel command holds b → ⊥
  model_clash why b told r m =
      let text = same_text command holds Model r.text m.text told r.read m.read in
      let both : Err why ≡ Ok b = sym r.is ∙ ap model_of text ∙ m.is in
      cc

  -- inputs that are refused aren't read
  inputs_clash : (why : InputRefusal) (b : Draft) (i : Given)
      → IsTold command holds Model → IsTold command holds Inputs
      → RefusesInputs command holds why → ReadsInputs command holds b i → ⊥
  inputs_clash why b i model inputs r h =
      let basin = one_basin r.basin b model r.model h.model in
      let text = same_text command holds Inputs r.text h.text inputs r.read h.read in
      let there : Refuses b h.text why = subst (λ t. Refuses b t why) text (subst (λ d. Refuses d r.text why) basin r.are) in
      refuses_clash b h.text i why h.are there

  -- nor are batches
  batches_clash : (file : File) (why : InputRefusal) (b : Draft) (batches : List Batch)
      → IsTold command holds Model → IsTold command holds file
      → RefusesBatches command holds file why → ReadsBatches command holds file b batches → ⊥
  batches_clash file why b batches model told r h =
      let basin = one_basin r.basin b model r.model h.model in
      let text = same_text command holds file r.text h.text told r.read h.read in
      let both : Err why ≡ Ok batches = sym r.are ∙ ap₂ (batches_read file) basin text ∙ h.are in cc

  -- nor is a policy
  refused_policy : (why : PolicyRefusal) (b : Draft) (rules : Rules)
      → IsTold command holds Model → IsTold command holds Policy
      → RefusesPolicy command holds why → ReadsPolicy command holds b rules → ⊥
  refused_policy why b rules model policy r h =
      let basin = one_basin r.basin b model r.model h.model in
      let text = same_text command holds Policy r.text h.text policy r.read h.read in
      let there : RefusesText (reads_code command h.text) b h.text why =
      subst (λ t. RefusesText (reads_code command t) b t why) text (subst (λ d. RefusesText (reads_code command r.text) d r.text why) basin r.is) in
      policy_clash (reads_code command h.text) b h.text rules why h.is there

  -- the file is refused, with this status
  abbrev IsBad : File → ℕ → Type 0
  IsBad Model status = (status ≡ 6) × ((why : ModelRefusal) × RefusesModel command holds why)
  IsBad Policy status = (why : PolicyRefusal) × (status ≡ policy_status why) × RefusesPolicy command holds why
  IsBad Inputs status = (status ≡ 8) × ((why : InputRefusal) × RefusesInputs command holds why)
  IsBad Edits status = (status ≡ 8) × ((why : InputRefusal) × RefusesEdits command holds why)
  IsBad Traces status = (status ≡ 8) × ((why : InputRefusal) × RefusesScenarios command holds why)

  accepted_text : (file : File) → Accepts command holds file
      → (text : List ℕ) × WasRead command holds file text
  accepted_text Model accepted = (accepted.1.text, accepted.1.read)
  accepted_text Policy accepted = (accepted.2.text, accepted.2.read)
  accepted_text Inputs accepted = (accepted.2.text, accepted.2.read)
  accepted_text Edits accepted = (accepted.2.text, accepted.2.read)
  accepted_text Traces accepted = (accepted.2.text, accepted.2.read)

  bad_text : (file : File) (status : ℕ) → IsBad file status
      → (text : List ℕ) × WasRead command holds file text
  bad_text Model status bad = (bad.1.1.text, bad.1.1.read)
  bad_text Policy status bad = (bad.2.text, bad.2.read)
  bad_text Inputs status bad = (bad.1.1.text, bad.1.1.read)
  bad_text Edits status bad = (bad.1.1.text, bad.1.1.read)
  bad_text Traces status bad = (bad.1.1.text, bad.1.1.read)

  one_status : (file : File) (a b : ℕ) → IsToldUpTo command holds file → IsBad file a → IsBad file b → a ≡ b
  one_status Model a b told bad other = bad.0 ∙ sym other.0
  one_status Policy a b told bad other =
      let text = same_text command holds Policy bad.2.text other.2.text (told Policy (omega arith)) bad.2.read other.2.read in
      bad.1 ∙ one_policy_status (reads_code command other.2.text) bad.2.basin other.2.basin other.2.text bad.0 other.0
      (subst (λ t. RefusesText (reads_code command t) bad.2.basin t bad.0) text bad.2.is) other.2.is ∙ sym other.1
  one_status Inputs a b told bad other = bad.0 ∙ sym other.0
  one_status Edits a b told bad other = bad.0 ∙ sym other.0
  one_status Traces a b told bad other = bad.0 ∙ sym other.0

  bad_clash : (file : File) (status : ℕ) → IsToldUpTo command holds file
      → Accepts command holds file → IsBad file status → ⊥
  bad_clash Model status told accepted bad =
      model_clash bad.1.0 accepted.0 (told Model (omega arith)) bad.1.1 accepted.1
  bad_clash Policy status told accepted bad =
      refused_policy bad.0 accepted.0 accepted.1 (told Model (omega arith)) (told Policy (omega arith)) bad.2 accepted.2
  bad_clash Inputs status told accepted bad =
      inputs_clash bad.1.0 accepted.0 accepted.1 (told Model (omega arith)) (told Inputs (omega arith)) bad.1.1 accepted.2
  bad_clash Edits status told accepted bad =
      batches_clash Edits bad.1.0 accepted.0 accepted.1 (told Model (omega arith)) (told Edits (omega arith)) bad.1.1 accepted.2
  bad_clash Traces status told accepted bad =
      batches_clash Traces bad.1.0 accepted.0 accepted.1 (told Model (omega arith)) (told Traces (omega arith)) bad.1.1 accepted.2

  -- what is found of a file that isn't accepted, and the status that it brings
  abbrev Finding : File → ℕ → Type 0
  Finding file status = IsBad file status ⊎ (HoldsTooLong command holds file × (status ≡ 10))

  too_long : (file : File) → IsToldUpTo command holds file → HoldsTooLong command holds file
      → (text : List ℕ) × WasRead command holds file text → ⊥
  too_long file told long read =
      long_clash holds file (source_of command file) read.0 (told file (omega arith)) long.longer read.1

  one_finding : (file : File) (a b : ℕ) → IsToldUpTo command holds file → Finding file a → Finding file b → a ≡ b
  one_finding file a b told (inl bad) (inl other) = one_status file a b told bad other
  one_finding file a b told (inl bad) (inr long) = absurd (too_long file told long.0 (bad_text file a bad))
  one_finding file a b told (inr long) (inl bad) = absurd (too_long file told long.0 (bad_text file b bad))
  one_finding file a b told (inr long) (inr other) = long.1 ∙ sym other.1

  not_accepted : (file : File) (status : ℕ) → IsToldUpTo command holds file
      → Accepts command holds file → Finding file status → ⊥
  not_accepted file status told accepted (inl bad) = bad_clash file status told accepted bad
  not_accepted file status told accepted (inr long) = too_long file told long.0 (accepted_text file accepted)

  -- each reason is a finding of its file
  finding : (reason : Reason) → IsFoundReason command holds reason → Finding (file_of reason) (status_by reason)
  finding (BadModel why) found = inl (refl, (why, found))
  finding (BadPolicy why) found = inl (why, refl, found)
  finding (BadInputs why) found = inl (refl, (why, found))
  finding (BadEdits why) found = inl (refl, (why, found))
  finding (BadScenarios why) found = inl (refl, (why, found))
  finding (LongFile file) found = inr (found, refl)

  -- behind a model that is read stands the policy, behind both the inputs, behind these the edits, and behind all the scenarios
  pub reaches_model : Reaches command holds Model
  reaches_model earlier named before = absurd (omega (arith, before))

  pub reaches_policy : (basin : Draft) → ReadsModel command holds basin → Reaches command holds Policy
  reaches_policy basin model Model named before = (basin, model)
  reaches_policy basin model Policy named before = absurd (omega (arith, before))
  reaches_policy basin model Inputs named before = absurd (omega (arith, before))
  reaches_policy basin model Edits named before = absurd (omega (arith, before))
  reaches_policy basin model Traces named before = absurd (omega (arith, before))

  policy_there : (basin : Draft) (policy : Option Rules) → SaysAt command Policy policy (ReadsPolicy command holds basin)
      → ReadsFile command Policy → Accepts command holds Policy
  policy_there basin None says named = absurd (not_named (source_of command Policy) says named)
  policy_there basin (Some policy) says named = (basin, policy, says)

  pub reaches_inputs : (basin : Draft) (policy : Option Rules) → ReadsModel command holds basin
      → SaysAt command Policy policy (ReadsPolicy command holds basin) → Reaches command holds Inputs
  reaches_inputs basin policy model says Model named before = (basin, model)
  reaches_inputs basin policy model says Policy named before = policy_there basin policy says named
  reaches_inputs basin policy model says Inputs named before = absurd (omega (arith, before))
  reaches_inputs basin policy model says Edits named before = absurd (omega (arith, before))
  reaches_inputs basin policy model says Traces named before = absurd (omega (arith, before))

  inputs_there : (basin : Draft) (inputs : Option Given) → SaysAt command Inputs inputs (ReadsInputs command holds basin)
      → ReadsFile command Inputs → Accepts command holds Inputs
  inputs_there basin None says named = absurd (not_named (source_of command Inputs) says named)
  inputs_there basin (Some inputs) says named = (basin, inputs, says)

  pub reaches_edits : (basin : Draft) (policy : Option Rules) (inputs : Option Given) → ReadsModel command holds basin
      → SaysAt command Policy policy (ReadsPolicy command holds basin)
      → SaysAt command Inputs inputs (ReadsInputs command holds basin) → Reaches command holds Edits
  reaches_edits basin policy inputs model rules given Model named before = (basin, model)
  reaches_edits basin policy inputs model rules given Policy named before = policy_there basin policy rules named
  reaches_edits basin policy inputs model rules given Inputs named before = inputs_there basin inputs given named
  reaches_edits basin policy inputs model rules given Edits named before = absurd (omega (arith, before))
  reaches_edits basin policy inputs model rules given Traces named before = absurd (omega (arith, before))

  -- and of a shelf that holds the same
  pub reaches_later : (now : Holds) → ((path : List ℕ) → now path ≡ holds path) → (file : File) → Reaches command holds file
      → Reaches command now file
  reaches_later now same file reached =
      let one : now ≡ holds = λ i path. same path i in subst (λ h. Reaches command h file) (sym one) reached

  edits_there : (basin : Draft) (edits : Option (List Batch)) → SaysAt command Edits edits (ReadsEdits command holds basin)
      → ReadsFile command Edits → Accepts command holds Edits
  edits_there basin None says named = absurd (not_named (source_of command Edits) says named)
  edits_there basin (Some batches) says named = (basin, batches, says)

  pub reaches_scenarios : (basin : Draft) (edits : Option (List Batch)) → Reaches command holds Edits
      → SaysAt command Edits edits (ReadsEdits command holds basin) → Reaches command holds Traces
  reaches_scenarios basin edits reached says Model named before = reached Model named (omega arith)
  reaches_scenarios basin edits reached says Policy named before = reached Policy named (omega arith)
  reaches_scenarios basin edits reached says Inputs named before = reached Inputs named (omega arith)
  reaches_scenarios basin edits reached says Edits named before = edits_there basin edits says named
  reaches_scenarios basin edits reached says Traces named before = absurd (omega (arith, before))

  scenarios_there : (basin : Draft) (scenarios : Option (List Batch)) → SaysAt command Traces scenarios (ReadsScenarios command holds basin)
      → ReadsFile command Traces → Accepts command holds Traces
  scenarios_there basin None says named = absurd (not_named (source_of command Traces) says named)
  scenarios_there basin (Some batches) says named = (basin, batches, says)

  -- where the files of the command are read, each of them is accepted
  pub accepts_all : (basin : Draft) (policy : Option Rules) (inputs : Option Given) (edits scenarios : Option (List Batch))
      → ReadsModel command holds basin
      → SaysAt command Policy policy (ReadsPolicy command holds basin) → SaysAt command Inputs inputs (ReadsInputs command holds basin)
      → SaysAt command Edits edits (ReadsEdits command holds basin) → SaysAt command Traces scenarios (ReadsScenarios command holds basin)
      → AcceptsAll command holds
  accepts_all basin policy inputs edits scenarios model rules given batches told Model named = (basin, model)
  accepts_all basin policy inputs edits scenarios model rules given batches told Policy named = policy_there basin policy rules named
  accepts_all basin policy inputs edits scenarios model rules given batches told Inputs named = inputs_there basin inputs given named
  accepts_all basin policy inputs edits scenarios model rules given batches told Edits named = edits_there basin edits batches named
  accepts_all basin policy inputs edits scenarios model rules given batches told Traces named = scenarios_there basin scenarios told named

  pub accepts_read : (files : FilesRead) → AreRead command holds files → AcceptsAll command holds
  accepts_read files read =
      accepts_all files.basin files.policy files.inputs files.edits files.scenarios read.model read.policy read.inputs read.edits read.scenarios

  -- the file of a reason is read
  pub names : (reason : Reason) → IsFoundReason command holds reason → ReadsFile command (file_of reason)
  names (BadModel why) found = is_there (source_of command Model) (HasText holds Model found.text) found.read
  names (BadPolicy why) found = is_there (source_of command Policy) (HasText holds Policy found.text) found.read
  names (BadInputs why) found = is_there (source_of command Inputs) (HasText holds Inputs found.text) found.read
  names (BadEdits why) found = is_there (source_of command Edits) (HasText holds Edits found.text) found.read
  names (BadScenarios why) found = is_there (source_of command Traces) (HasText holds Traces found.text) found.read
  names (LongFile file) found = sourced (source_of command file) (is_there (path_of command file) (IsTooLong holds) found.longer)

  reached : (reason : Reason) → IsFoundReason command holds reason → Reaches command holds (file_of reason)
  reached (BadModel why) found = reaches_model
  reached (BadPolicy why) found = reaches_policy found.basin found.model
  reached (BadInputs why) found = found.reached
  reached (BadEdits why) found = found.reached
  reached (BadScenarios why) found = found.reached
  reached (LongFile file) found = found.reached

  -- where the file of a reason is accepted, the reason isn't found
  pub not_found : (reason : Reason) → IsToldUpTo command holds (file_of reason)
      → Accepts command holds (file_of reason) → IsFoundReason command holds reason → ⊥
  not_found reason told accepted found =
      not_accepted (file_of reason) (status_by reason) told accepted (finding reason found)

  -- of two reasons, the file of the one that is read first isn't accepted; and of one file they bring one status
  pub one_reason : (a b : Reason) → IsToldUpTo command holds (file_of a)
      → IsFoundReason command holds a → IsFoundReason command holds b → status_by b ≡ status_by a
  one_reason a b told found other =
      elim (cases_lt (order (file_of b)) (order (file_of a))) [
        | inl before ↦
            absurd (not_found b (λ it least. told it (omega (arith, least, before))) (reached a found (file_of b) (names b other) before) other)
        | inr least ↦ elim (cases_lt (order (file_of a)) (order (file_of b))) [
          | inl before ↦ absurd (not_found a told (reached b other (file_of a) (names a found) before) found)
          | inr most ↦
              let same : file_of b ≡ file_of a = one_file (file_of b) (file_of a) (omega (arith, least, most)) in
              one_finding (file_of a) (status_by b) (status_by a) told
              (subst (λ file. Finding file (status_by b)) same (finding b other)) (finding a found)
        ]
      ]
