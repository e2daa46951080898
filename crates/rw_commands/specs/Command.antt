-- The command that the words ask for, and the files that it reads.
use Rattle.std.specs.Prelude.{◌≡◌, ℕ, suc, ◌==◌, List, [], ◌∷◌, slice_index_or, Option, Some, None, option_and_then, option_map, IsSome, Bool, true, false, if◌then◌else◌}
use Rattle.rw_words.specs.declared.job.Job.{Job}
use Rattle.rw_words.specs.declared.job.Job.TheVariants.{Simulate, Check, Compile, Run, Why, Sample, Balance, Mrm, Migrate}
use Rattle.rw_words.specs.Command.{Command, asked_command as asked_by, command_seen}
use Rattle.rw_words.specs.Plain.{plain_command}
use Rattle.rw_commands.specs.declared.refusal.File.{File}
use Rattle.rw_commands.specs.declared.refusal.File.TheVariants.{Model, Policy, Inputs, Edits, Traces}
use Rattle.rw_commands.specs.declared.extras.Extras.{Extras}
use Rattle.rw_commands.specs.declared.command.Command.{Command as Named}
use Rattle.rw_commands.specs.declared.command.Source.{Source as Held}
use Rattle.rw_sample.specs.Texts.{sample_inputs, sample_model, sample_rules}

-- what its text tells besides the table, and how it is come to
abbrev pub extras_of : Command → Extras
extras_of command =
    record { flags = command.flags; trace = command.trace; asked = command.asked; reuse = command.reuse; order = command.order }

-- ---- jobs

-- the files that it reads, in the order in which the words name them, or in which it makes them
abbrev pub files_of : Job → List File
files_of Simulate = Model ∷ Inputs ∷ []
files_of Check = Model ∷ Policy ∷ []
files_of Compile = Model ∷ Policy ∷ []
files_of Run = Model ∷ Policy ∷ Inputs ∷ []
files_of Why = Model ∷ Policy ∷ Inputs ∷ []
files_of (Sample seed) = Model ∷ Policy ∷ Inputs ∷ []
files_of Balance = Model ∷ Policy ∷ Inputs ∷ []
files_of Mrm = Model ∷ Policy ∷ Inputs ∷ Traces ∷ []
files_of Migrate = Model ∷ []

-- its policy may be code. What is compiled is always read as a ruleset, and the sample has one
abbrev pub takes_code : Job → Bool
takes_code Simulate = true
takes_code Check = true
takes_code Compile = false
takes_code Run = true
takes_code Why = true
takes_code (Sample seed) = false
takes_code Balance = true
takes_code Mrm = true
takes_code Migrate = true

-- it asks for a cell of the basin
abbrev pub seeks_cell : Job → Bool
seeks_cell Why = true
seeks_cell job = false

-- it wants the text of its model, besides what that is read as
abbrev pub wants_text : Job → Bool
wants_text Migrate = true
wants_text job = false

-- ---- files

-- files are read in this order
abbrev pub order : File → ℕ
order Model = 0
order Policy = 1
order Inputs = 2
order Edits = 3
order Traces = 4

-- where a file stands among others, from 0 on
abbrev pub place_among : List File → File → Option ℕ
place_among [] file = None
place_among (first ∷ rest) file = if order first == order file then Some 0 else option_map suc (place_among rest file)

-- ---- where their texts come from

-- the file of a path, or the sample of a seed
pub data Source : Type 0 where
  AtPath : List ℕ → Source
  OfSample : ℕ → Source

-- in these terms
abbrev pub source_seen : Held → Source
source_seen (Held.Path path) = AtPath path.now
source_seen (Held.Sample seed) = OfSample seed

-- the path, where it is one
abbrev pub path_in : Source → Option (List ℕ)
path_in (AtPath path) = Some path
path_in (OfSample seed) = None

-- the text of a file of the sample. It has no edits and no traces
abbrev pub sample_text : (seed : ℕ) → File → List ℕ
sample_text seed Model = sample_model
sample_text seed Policy = sample_rules
sample_text seed Inputs = sample_inputs seed
sample_text seed Edits = []
sample_text seed Traces = []

-- ---- commands

-- where the text comes from that stands in a place among those of a job. Where the word is missing the path is empty
abbrev pub source_at : Job → List (List ℕ) → ℕ → Source
source_at (Sample seed) paths place = OfSample seed
source_at Simulate paths place = AtPath (slice_index_or paths place [])
source_at Check paths place = AtPath (slice_index_or paths place [])
source_at Compile paths place = AtPath (slice_index_or paths place [])
source_at Run paths place = AtPath (slice_index_or paths place [])
source_at Why paths place = AtPath (slice_index_or paths place [])
source_at Balance paths place = AtPath (slice_index_or paths place [])
source_at Mrm paths place = AtPath (slice_index_or paths place [])
source_at Migrate paths place = AtPath (slice_index_or paths place [])

-- where that of a file comes from that its job reads
abbrev pub named_source : Command → File → Option Source
named_source command file = option_map (λ place. source_at command.job command.paths place) (place_among (files_of command.job) file)

-- where that of a file comes from, where the command reads it
abbrev pub source_of : Command → File → Option Source
source_of command Edits = option_map (λ path. AtPath path) command.edits
source_of command file = named_source command file

-- the command reads the file
abbrev pub ReadsFile : Command → File → Type 0
ReadsFile command file = IsSome (source_of command file)

-- the path of a file, where the command reads it from one
abbrev pub path_of : Command → File → Option (List ℕ)
path_of command file = option_and_then path_in (source_of command file)

-- the words ask for the command
abbrev pub AskForCommand : List (List ℕ) → Command → Type 0
AskForCommand words command = asked_by words ≡ Some command

-- they ask for none
abbrev pub AskNothing : List (List ℕ) → Type 0
AskNothing words = asked_by words ≡ None

-- they ask for a command of which this holds
abbrev pub AskOne : List (List ℕ) → (Command → Type 0) → Type 0
AskOne words P = (command : Command) × AskForCommand words command × P command

-- the run of a model from inputs
abbrev pub simulation_of : List ℕ → List ℕ → Command
simulation_of model inputs = plain_command Simulate (model ∷ inputs ∷ [])

-- the command that was read, in these terms
abbrev pub command_said : Named → Command
command_said named = command_seen named.words
