-- The command that the words ask for.
use Rattle.std.specs.Prelude.{ℕ, List, [], ◌∷◌, length, map, codes, string_bytes, String, Option, None, Some, option_and_then, option_map, Bool, false, if◌then◌else◌, ◌==◌, ◌&&◌, ◌||◌, not}
use Rattle.std.specs.List.{list_any}
use Rattle.std.specs.Option.{option_map_or}
use Rattle.std.specs.Str.{bytes_eq}
use Rattle.std.specs.declared.alloc.Global.{Global}
use Rattle.clap.specs.Words.{Row, fault_of, first_of, subcommand_of}
use Rattle.rw_words.specs.Job.{Text, job_named, paths_of}
use Rattle.rw_words.specs.Order.{order_or_oldest}
use Rattle.rw_words.specs.Program.{program}
use Rattle.rw_words.specs.Seed.{seed_of_text}
use Rattle.rw_words.specs.declared.job.Job.{Job}
use Rattle.rw_words.specs.declared.order.Order.{Order}
use Rattle.rw_words.specs.declared.command.CellWords.{CellWords as NamedCell}
use Rattle.rw_words.specs.declared.command.Command.{Command as Named}

-- the words that name a cell
pub record CellWords : Type 0 where
  pub slot : Text
  pub step : Text

abbrev pub cell_words : (slot step : Text) → CellWords
cell_words slot step = record { slot = slot; step = step }

-- a job, the paths that it wants, in its order, the words of its cell, where it asks for one, and the options that were given
pub record Command : Type 0 where
  pub job : Job
  pub paths : List Text
  pub cell : Option CellWords
  pub edits : Option Text
  pub order : Order
  pub flags : Bool
  pub trace : Bool
  pub reuse : Bool
  pub asked : Bool

-- the words, as bytes
abbrev pub texts_of : List (String Global) → List Text
texts_of words = map string_bytes words

-- ---- one command

abbrev pub is_empty : Text → Bool
is_empty text = length text == 0

-- the paths of these names
abbrev pub paths_in : List Row → List Text → Option (List Text)
paths_in rows [] = Some []
paths_in rows (name ∷ rest) =
    option_and_then (λ path. option_map (λ paths. path ∷ paths) (paths_in rows rest)) (first_of name rows)

-- a flag was given
abbrev pub is_given : List Row → Text → Bool
is_given rows name = option_map_or (λ text. bytes_eq text (codes "true")) (first_of name rows) false

-- the words of a cell, where both were found
abbrev pub cell_words_in : List Row → Option CellWords
cell_words_in rows =
    option_and_then (λ slot. option_map (λ step. cell_words slot step) (first_of (codes "STEP") rows)) (first_of (codes "SLOT") rows)

-- the command with this order and these paths
abbrev pub command_with : List Row → Job → Order → List Text → Command
command_with rows job order paths = record {
  job = job;
  paths = paths;
  cell = cell_words_in rows;
  edits = first_of (codes "edits") rows;
  order = order;
  flags = is_given rows (codes "flags");
  trace = is_given rows (codes "trace");
  reuse = is_given rows (codes "reuse");
  asked = is_given rows (codes "asked");
}

-- what was asked for is told in a trace, and of timesteps that are taken over nothing was asked for
abbrev pub asks_in_vain : List Row → Bool
asks_in_vain rows = is_given rows (codes "asked") && (not (is_given rows (codes "trace")) || is_given rows (codes "reuse"))

-- `--edits=` names no file
abbrev pub is_pathless : List Row → Bool
is_pathless rows = option_map_or is_empty (first_of (codes "edits") rows) false

-- the command of a job, by what `clap` found
abbrev pub command_in : List Row → Job → Option Command
command_in rows job =
    if is_pathless rows || asks_in_vain rows then None
    else option_and_then (λ order. option_map (command_with rows job order) (paths_in rows (paths_of job)))
    (order_or_oldest (first_of (codes "order") rows))

-- the seed that was found
abbrev pub seed_in : List Row → Option ℕ
seed_in rows = option_and_then seed_of_text (first_of (codes "SEED") rows)

abbrev pub command_named : Text × List Row → Option Command
command_named found = option_and_then (command_in found.1) (job_named found.0 (seed_in found.1))

-- ---- all words

-- what `clap` finds, where it takes the words
abbrev pub taken_words : List Text → Option (Text × List Row)
taken_words words = if length (fault_of program words) == 0 then subcommand_of program words else None

-- what the words ask for, or that they ask for nothing. An empty word is refused wherever it stands
abbrev pub asked_command : List Text → Option Command
asked_command words = if list_any is_empty words then None else option_and_then command_named (taken_words words)

-- ---- what was read

-- what was read, in these terms
abbrev pub cell_seen : NamedCell → CellWords
cell_seen named = cell_words named.slot.now named.step.now

abbrev pub command_seen : Named → Command
command_seen named = record {
  job = named.job;
  paths = map (λ path. path.now) named.paths.items;
  cell = option_map cell_seen named.cell;
  edits = option_map (λ path. path.now) named.edits;
  order = named.order;
  flags = named.flags;
  trace = named.trace;
  reuse = named.reuse;
  asked = named.asked;
}
