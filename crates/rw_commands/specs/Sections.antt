-- The sections of a run with edits: one of the inputs, and one after each batch.
use Rattle.std.specs.Prelude.{◌≡◌, ℕ, ◌+◌, ◌≤◌, List, [], ◌∷◌, ◌++◌, length, Option, Some, None, ⊤}
use Rattle.rw_inputs.specs.Edits.{Batch, after_batch}
use Rattle.rw_inputs.specs.Inputs.{Inputs, value_at}
use Rattle.rw_io.specs.Causes.{Rose}
use Rattle.rw_io.specs.Known.{GrowsBy, PrefixGrew}
use Rattle.rw_io.specs.Outside.{Change, SinkView}
use Rattle.rw_io.specs.Handed.{BrokeOff}
use Rattle.rw_run.specs.declared.run.RunEnd.{RunEnd}
use Rattle.rw_commands.specs.declared.refusal.Refusal.{Refusal}
use Rattle.rw_commands.specs.declared.refusal.Refusal.TheVariants.{CannotWrite, NoMemory}

-- the text of sections, one behind another
abbrev pub joined_sections : List (List ℕ) → List ℕ
joined_sections [] = []
joined_sections (text ∷ texts) = text ++ joined_sections texts

-- the inputs of a run, and those before the last batch of edits, if there was one
pub record GivenInputs : Type 0 where
  pub before : Option Inputs
  pub inputs : Inputs

abbrev pub first_given : Inputs → GivenInputs
first_given inputs = record { before = None; inputs = inputs }

abbrev pub edited_given : GivenInputs → Inputs → GivenInputs
edited_given given edited = record { before = Some given.inputs; inputs = edited }

-- of what is given after a batch of edits this holds
abbrev pub AfterBatch : Batch → GivenInputs → (GivenInputs → Type 0) → Type 0
AfterBatch batch given P =
    (edited : Inputs) × (value_at edited ≡ after_batch batch (value_at given.inputs)) × P (edited_given given edited)

-- so many timesteps were run for all sections
abbrev pub CountsAll : (GivenInputs → ℕ → Type 0) → GivenInputs → List Batch → ℕ → Type 0
CountsAll Counts given [] count = Counts given count
CountsAll Counts given (batch ∷ batches) count =
    (first : ℕ) × (rest : ℕ) × (count ≡ first + rest) × Counts given first × AfterBatch batch given (λ edited. CountsAll Counts edited batches rest)

-- each section is one by its number and inputs, and the run of the last one ends so
abbrev pub AreSections : (ℕ → GivenInputs → RunEnd → List ℕ → Type 0) → ℕ → GivenInputs → List Batch → RunEnd → List (List ℕ) → Type 0
AreSections IsSection number given [] end texts = (text : List ℕ) × (texts ≡ text ∷ []) × IsSection number given end text
AreSections IsSection number given (batch ∷ batches) end texts =
    (first : RunEnd) × (text : List ℕ) × (rest : List (List ℕ)) × (texts ≡ text ∷ rest) × IsSection number given first text
    × AfterBatch batch given (λ edited. AreSections IsSection (number + 1) edited batches end rest)

-- they are the first sections, however many there are
abbrev pub AreFirstSections : (ℕ → GivenInputs → RunEnd → List ℕ → Type 0) → ℕ → GivenInputs → List Batch → List (List ℕ) → Type 0
AreFirstSections IsSection number given batches [] = ⊤
AreFirstSections IsSection number given batches (text ∷ []) = (end : RunEnd) × IsSection number given end text
AreFirstSections IsSection number given [] (text ∷ next ∷ texts) = ⊥
AreFirstSections IsSection number given (batch ∷ batches) (text ∷ next ∷ texts) =
    ((end : RunEnd) × IsSection number given end text)
    × AfterBatch batch given (λ edited. AreFirstSections IsSection (number + 1) edited batches (next ∷ texts))

-- ---- what is appended of a text that is written piece by piece

-- the first pieces, each whole, and no more than so many
pub record AppendsPieces (AreFirst : List (List ℕ) → Type 0) (most : ℕ) (out : Change SinkView) : Type 0 where
  pub texts : List (List ℕ)
  pub are : AreFirst texts
  pub fewer : length texts ≤ most
  pub grew : GrowsBy out.before.contents out.after.contents (joined_sections texts)

-- the first ones, and of the last of these a front
pub record AppendsPiece (AreFirst : List (List ℕ) → Type 0) (out : Change SinkView) : Type 0 where
  pub done : List (List ℕ)
  pub text : List ℕ
  pub are : AreFirst (done ++ text ∷ [])
  pub grew : PrefixGrew out.before.contents out.after.contents (joined_sections done ++ text)
  pub rose : Rose out.before.faults out.after.faults

-- why not all are, of which there is one more than so many
abbrev pub StopsAmongPieces : (List (List ℕ) → Type 0) → ℕ → Change SinkView → Refusal → Type 0
StopsAmongPieces AreFirst most out NoMemory = AppendsPieces AreFirst most out
StopsAmongPieces AreFirst most out CannotWrite = AppendsPiece AreFirst out
StopsAmongPieces AreFirst most out why = ⊥

-- ---- what is appended of sections

-- all of them, and the run of the last one ends so
pub record AppendsAll (IsSection : ℕ → GivenInputs → RunEnd → List ℕ → Type 0) (number : ℕ) (given : GivenInputs) (batches : List Batch) (out : Change SinkView) (end : RunEnd) : Type 0 where
  pub texts : List (List ℕ)
  pub are : AreSections IsSection number given batches end texts
  pub grew : GrowsBy out.before.contents out.after.contents (joined_sections texts)

-- the first ones, each whole, and not all of them
abbrev pub AppendsFirst : (ℕ → GivenInputs → RunEnd → List ℕ → Type 0) → ℕ → GivenInputs → List Batch → Change SinkView → Type 0
AppendsFirst IsSection number given batches out = AppendsPieces (AreFirstSections IsSection number given batches) (length batches) out

-- why not all are
abbrev pub StopsAmong : (ℕ → GivenInputs → RunEnd → List ℕ → Type 0) → ℕ → GivenInputs → List Batch → Change SinkView → Refusal → Type 0
StopsAmong IsSection number given batches out why =
    StopsAmongPieces (AreFirstSections IsSection number given batches) (length batches) out why

-- ---- and of one of them

pub record AppendsOne (IsSection : ℕ → GivenInputs → RunEnd → List ℕ → Type 0) (number : ℕ) (given : GivenInputs) (out : Change SinkView) (end : RunEnd) : Type 0 where
  pub text : List ℕ
  pub is : IsSection number given end text
  pub grew : GrowsBy out.before.contents out.after.contents text
  pub later : out.before.faults ≤ out.after.faults

abbrev pub StopsAtOne : (ℕ → GivenInputs → RunEnd → List ℕ → Type 0) → ℕ → GivenInputs → Change SinkView → Refusal → Type 0
StopsAtOne IsSection number given out NoMemory = out.after.contents ≡ out.before.contents
StopsAtOne IsSection number given out CannotWrite =
    (end : RunEnd) × (text : List ℕ) × IsSection number given end text
    × PrefixGrew out.before.contents out.after.contents text × Rose out.before.faults out.after.faults
StopsAtOne IsSection number given out why = ⊥

-- ---- and of one that is handed over in pieces

-- why not all of a text is appended
abbrev pub StopsText : SinkView → SinkView → List ℕ → Refusal → Type 0
StopsText before after text NoMemory = after ≡ before
StopsText before after text CannotWrite = BrokeOff before after text
StopsText before after text why = ⊥
