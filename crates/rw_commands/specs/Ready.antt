-- Within the crate: what is known of the files of a command before its text is made.
use Rattle.std.specs.Prelude.{◌≡◌, ℕ, ◌≤◌, Bool, List, length, Ok, IfSome, IsOk, IsSome, IsSomeAnd, IsTrue}
use Rattle.std.specs.List.{All}
use Rattle.rw_inputs.specs.Edits.{Batch, IsBatch}
use Rattle.rw_inputs.specs.Inputs.{IsInputsOf}
use Rattle.rw_model.specs.Draft.{Draft, IsSlot}
use Rattle.rpl_tree.specs.Seen.{rules_of}
use Rattle.rpl_types.specs.Judged.{rules_judged}
use Rattle.rpl_verify.specs.Verified.{verified}
use Rattle.rw_words.specs.declared.job.Job.{Job}
use Rattle.rw_commands.specs.declared.files.Behind.{Behind}
use Rattle.rw_commands.specs.declared.files.Files.{Files}
use Rattle.rw_commands.specs.declared.policy.Policy.{Policy as Held}
use Rattle.rw_commands.specs.declared.refusal.File.{File}
use Rattle.rw_commands.specs.declared.refusal.File.TheVariants.{Policy, Inputs, Edits, Traces}
use Rattle.rw_io.specs.Outside.{Holds}
use Rattle.rw_commands.specs.Command.{files_of, place_among, seeks_cell, wants_text}
use Rattle.rw_words.specs.Command.{Command}
use Rattle.rw_commands.specs.Policy.{IsPolicyFileOf}
use Rattle.rw_commands.specs.Reading.{ReadsBatches, ReadsInputs, ReadsPolicy, SaysAt, batches_read}
use Rattle.rw_commands.specs.Seen.{policy_of}

-- a policy was judged with the basin, or verified for it, and accepted
abbrev pub IsFit : Draft → Held → Type 0
IsFit basin (Held.Ruleset typed) = IsOk (rules_judged basin (rules_of typed.rules))
IsFit basin (Held.Code code) = verified basin code.blocks ≡ Ok code

-- the policy that was made of a text, which is read as code or as a ruleset, is the one that it spells, and is accepted
pub record IsMadeOf (as_code : Bool) (basin : Draft) (text : List ℕ) (policy : Held) : Type 0 where
  pub is : IsPolicyFileOf as_code basin text (policy_of policy)
  pub fits : IsFit basin policy

-- the policy that was read is the one that the command names, and is accepted
pub record IsReadAs (command : Command) (holds : Holds) (basin : Draft) (policy : Held) : Type 0 where
  pub is : ReadsPolicy command holds basin (policy_of policy)
  pub fits : IsFit basin policy

-- the batches that were made of the text of a file are those that it gives, and are of the basin
pub record AreMadeOf (file : File) (basin : Draft) (text : List ℕ) (batches : List Batch) : Type 0 where
  pub are : batches_read file basin text ≡ Ok batches
  pub fit : All (IsBatch basin) batches
  pub few : length batches ≤ 64

-- the batches that were read are those of that file of the command, and are of the basin
pub record AreReadAs (command : Command) (holds : Holds) (file : File) (basin : Draft) (batches : List Batch) : Type 0 where
  pub are : ReadsBatches command holds file basin batches
  pub fit : All (IsBatch basin) batches
  pub few : length batches ≤ 64

-- batches of the basin, not too many of them
pub record AreEdits (basin : Draft) (batches : List Batch) : Type 0 where
  pub fit : All (IsBatch basin) batches
  pub few : length batches ≤ 64

-- the files behind the model were read, and this is what they say
pub record AreBehind (command : Command) (holds : Holds) (basin : Draft) (behind : Behind) : Type 0 where
  pub policy : SaysAt command Policy behind.policy (IsReadAs command holds basin)
  pub inputs : SaysAt command Inputs behind.inputs (ReadsInputs command holds basin)
  pub edits : SaysAt command Edits behind.edits (λ batches. AreReadAs command holds Edits basin batches.items)
  pub scenarios : SaysAt command Traces behind.scenarios (λ batches. AreReadAs command holds Traces basin batches.items)

-- the files that the job reads are there, the policy is accepted for the basin, and the inputs and all batches are made for it
pub record AreReady (job : Job) (files : Files) : Type 0 where
  pub policy : IsSome (place_among (files_of job) Policy) → IsSomeAnd files.policy (IsFit files.basin)
  pub inputs : IsSome (place_among (files_of job) Inputs) → IsSomeAnd files.inputs (IsInputsOf files.basin)
  pub edits : IfSome files.edits (λ batches. AreEdits files.basin batches.items)
  pub scenarios : IfSome files.scenarios (λ batches. AreEdits files.basin batches.items)
  pub cell : IsTrue (seeks_cell job) → IsSomeAnd files.cell (λ cell. IsSlot files.basin.objects cell.slot.0)
  pub text : IsTrue (wants_text job) → IsSome files.text
