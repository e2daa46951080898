-- Files that were read one after the other.
use Rattle.rw_commands.proofs.Common.{AreRead, Change, Command, Err, FileCause, FilesRead, Holds, IfSome, IsSome, IsSomeAnd, Refusal, ShelfView, sym, List}
use Rattle.rw_commands.proofs.Common.{File, None, Option, Reaches, ReadsInputs, ReadsModel, ReadsPolicy, SaysAt, Some, option_map, policy_of, subst, ℕ, ◌≡◌}
use Rattle.rw_inputs.specs.Edits.{Batch}
use Rattle.rw_inputs.specs.Inputs.{Inputs as Given}
use Rattle.rw_base.specs.declared.number.Cell.{Cell}
use Rattle.rw_model.specs.Draft.{Draft, IsSlot}
use Rattle.rw_commands.specs.declared.files.Behind.{Behind}
use Rattle.rw_commands.specs.declared.policy.Policy.{Policy as Held}
use Rattle.rw_commands.specs.declared.refusal.File.TheVariants.{Policy, Inputs, Edits, Traces}
use Rattle.rw_commands.specs.Cell.{FindsCell}
use Rattle.rw_base.proofs.Common.{Bool, IsTrue, false, if◌then◌else◌, refl, true}
use Rattle.rw_commands.specs.Reading.{IsCellRead, LacksCell, ReadsBatches, ReadsModelText, text_wanted}
use Rattle.rw_commands.specs.Ready.{AreBehind, AreEdits, AreReadAs, IsFit, IsReadAs}
use Rattle.rw_commands.proofs.Findings.{accepts_all, reaches_edits, reaches_inputs, reaches_later, reaches_scenarios}

-- the policy that was read, in the definitions' terms
seen_policy : (command : Command) (holds : Holds) (basin : Draft) (found : Option Held) → SaysAt command Policy found (IsReadAs command holds basin)
    → SaysAt command Policy (option_map policy_of found) (ReadsPolicy command holds basin)
seen_policy command holds basin None says = says
seen_policy command holds basin (Some policy) says = says.is

pub policy_fits : (command : Command) (holds : Holds) (basin : Draft) (found : Option Held)
    → SaysAt command Policy found (IsReadAs command holds basin)
    → IfSome found (IsFit basin)
policy_fits command holds basin None says = tt
policy_fits command holds basin (Some policy) says = says.fits

-- and the batches of a file
seen_batches : {A : Type 0} (command : Command) (holds : Holds) (file : File) (basin : Draft) (found : Option A) (items : A → List Batch)
    → SaysAt command file found (λ x. AreReadAs command holds file basin (items x))
    → SaysAt command file (option_map items found) (ReadsBatches command holds file basin)
seen_batches command holds file basin None items says = says
seen_batches command holds file basin (Some x) items says = says.are

pub batches_fit : {A : Type 0} (command : Command) (holds : Holds) (file : File) (basin : Draft) (found : Option A) (items : A → List Batch)
    → SaysAt command file found (λ x. AreReadAs command holds file basin (items x)) → IfSome found (λ x. AreEdits basin (items x))
batches_fit command holds file basin None items says = tt
batches_fit command holds file basin (Some x) items says = record { fit = says.fit; few = says.few }

-- behind the policy stand the inputs, of a shelf that holds the same
pub inputs_reached : (command : Command) (holds now : Holds) → ((path : List ℕ) → now path ≡ holds path)
    → (basin : Draft) (policy : Option Held) → ReadsModel command holds basin
    → SaysAt command Policy policy (IsReadAs command holds basin) → Reaches command now Inputs
inputs_reached command holds now same basin policy model says =
    reaches_later command holds now same Inputs
    (reaches_inputs command holds basin (option_map policy_of policy) model
    (seen_policy command holds basin policy says))

-- and behind these the edits
pub edits_reached : (command : Command) (holds now : Holds) → ((path : List ℕ) → now path ≡ holds path)
    → (basin : Draft) (policy : Option Held) (inputs : Option Given) → ReadsModel command holds basin
    → SaysAt command Policy policy (IsReadAs command holds basin)
    → SaysAt command Inputs inputs (ReadsInputs command holds basin) → Reaches command now Edits
edits_reached command holds now same basin policy inputs model rules given =
    reaches_later command holds now same Edits
    (reaches_edits command holds basin (option_map policy_of policy) inputs model
    (seen_policy command holds basin policy rules) given)

-- batches that were read later, of a shelf that holds the same
pub batches_earlier : {A : Type 0} (command : Command) (holds now : Holds) → ((path : List ℕ) → now path ≡ holds path)
    → (file : File) (basin : Draft) (found : Option A) (items : A → List Batch)
    → SaysAt command file found (λ x. AreReadAs command now file basin (items x))
    → SaysAt command file found (λ x. AreReadAs command holds file basin (items x))
batches_earlier command holds now same file basin found items says =
    let one : now ≡ holds = λ i path. same path i in
    subst (λ h. SaysAt command file found (λ x. AreReadAs command h file basin (items x))) one says

-- and behind the edits the scenarios
pub scenarios_reached : {A : Type 0} (command : Command) (holds now : Holds) → ((path : List ℕ) → now path ≡ holds path)
    → (basin : Draft) (edits : Option A) (items : A → List Batch) → Reaches command holds Edits
    → SaysAt command Edits edits (λ x. AreReadAs command holds Edits basin (items x)) → Reaches command now Traces
scenarios_reached command holds now same basin edits items reached says =
    reaches_later command holds now same Traces
    (reaches_scenarios command holds basin (option_map items edits) reached (seen_batches command holds Edits basin edits items says))

abbrev files_with : Draft → Behind → Option Cell → Option (List ℕ) → FilesRead
files_with basin behind cell text = record {
  basin = basin;
  policy = option_map policy_of behind.policy;
  inputs = behind.inputs;
  edits = option_map (λ batches. batches.items) behind.edits;
  scenarios = option_map (λ batches. batches.items) behind.scenarios;
  cell = cell;
  text = text;
}

-- all files of a command
pub all_read : (command : Command) (holds now : Holds) → ((path : List ℕ) → now path ≡ holds path)
    → (basin : Draft) (behind : Behind) (cell : Option Cell) (text : Option (List ℕ)) → ReadsModelText command holds basin text
    → AreBehind command now basin behind → FindsCell command basin cell → AreRead command holds (files_with basin behind cell text)
all_read command holds now same basin behind cell text model others finds =
    let one : now ≡ holds = λ i path. same path i in
    record {
      model = model.model;
      policy = subst (λ h. SaysAt command Policy (option_map policy_of behind.policy) (ReadsPolicy command h basin)) one
          (seen_policy command now basin behind.policy others.policy);
      inputs = subst (λ h. SaysAt command Inputs behind.inputs (ReadsInputs command h basin)) one others.inputs;
      edits = subst (λ h. SaysAt command Edits (option_map (λ batches. batches.items) behind.edits) (ReadsBatches command h Edits basin)) one
          (seen_batches command now Edits basin behind.edits (λ batches. batches.items) others.edits);
      scenarios =
          subst (λ h. SaysAt command Traces (option_map (λ batches. batches.items) behind.scenarios) (ReadsBatches command h Traces basin)) one
          (seen_batches command now Traces basin behind.scenarios (λ batches. batches.items) others.scenarios);
      cell = finds;
      text_is = model.text_is;
    }

-- what is seen of something is there with it
pub some_kept : {A B : Type 0} (f : A → B) (kept : Option A) → IsSome (option_map f kept) → IsSome kept
some_kept f None some = absurd cc
some_kept f (Some x) some = refl

-- a text that is wanted is there
pub text_there : (wants : Bool) (text : List ℕ) (kept : Option (List ℕ)) → kept ≡ (if wants then Some text else None) → IsTrue wants → IsSome kept
text_there true text kept is wanted = subst IsSome (sym is) refl
text_there false text kept is wanted = absurd cc

abbrev IsThere : Draft → Cell → Type 0
IsThere basin cell = IsSlot basin.objects cell.slot.0

-- a cell that is there
pub cell_there : (basin : Draft) (cell : Option Cell) → IfSome cell (IsThere basin) → IsSome cell → IsSomeAnd cell (IsThere basin)
cell_there basin None known some = absurd cc
cell_there basin (Some cell) known some = known

-- or one that isn't
pub no_cell : (command : Command) (shelf : Change ShelfView) (basin : Draft) (behind : Behind) (why : Refusal)
    → ReadsModel command shelf.before.holds basin → AreBehind command shelf.before.holds basin behind → IsCellRead command basin (Err why)
    → FileCause command shelf why
no_cell command shelf basin behind why model others lacks =
    let holds = shelf.before.holds in
    let its : LacksCell command holds = record {
      basin = basin;
      model = model;
      accepted =
          accepts_all command holds basin (option_map policy_of behind.policy) behind.inputs (option_map (λ batches. batches.items) behind.edits)
          (option_map (λ batches. batches.items) behind.scenarios)
          model
          (seen_policy command holds basin behind.policy others.policy)
          others.inputs
          (seen_batches command holds Edits basin behind.edits (λ batches. batches.items) others.edits)
          (seen_batches command holds Traces basin behind.scenarios (λ batches. batches.items) others.scenarios);
      seeks = lacks.1;
      none = lacks.2;
    } in
    subst (FileCause command shelf) (sym lacks.0) its
