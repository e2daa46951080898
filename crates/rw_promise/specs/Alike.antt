-- When two calls ask for the same of the same files, and what both append.
use Rattle.std.specs.Prelude.{◌≡◌, List, ℕ, IfSome, IsSome}
use Rattle.rw_io.specs.Known.{GrowsBy}
use Rattle.rw_io.specs.Outside.{Change, Holds, SinkView}
use Rattle.rw_words.specs.Command.{Command}
use Rattle.rw_commands.specs.Call.{Call}
use Rattle.rw_commands.specs.Command.{AskForCommand, path_of}
use Rattle.rw_commands.specs.declared.refusal.File.{File}

-- each file of the command is told, and is the same in both places
abbrev pub TellAlike : Command → Holds → Holds → Type 0
TellAlike command one other = (file : File) → IfSome (path_of command file) (λ path. IsSome (one path) × (one path ≡ other path))

-- the words are the same, and so are the files of the command that they ask for
pub record AskAlike (one other : Call) : Type 0 where
  pub words : one.words ≡ other.words
  pub files : (command : Command) → AskForCommand one.words command → TellAlike command one.shelf.before.holds other.shelf.before.holds

-- to both the same text was appended
abbrev pub AppendAlike : Change SinkView → Change SinkView → Type 0
AppendAlike one other =
    (text : List ℕ) × GrowsBy one.before.contents one.after.contents text × GrowsBy other.before.contents other.after.contents text
