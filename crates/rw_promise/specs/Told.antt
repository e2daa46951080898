-- What a shelf has to tell of the files of a command, so that what is wrong with them is refused.
use Rattle.std.specs.Prelude.{ℕ, ◌≤◌, IfSome, IsSome}
use Rattle.rw_io.specs.Causes.{Rose}
use Rattle.rw_io.specs.Outside.{Change, ShelfView}
use Rattle.rw_commands.specs.Command.{order, path_of}
use Rattle.rw_words.specs.Command.{Command}
use Rattle.rw_commands.specs.declared.refusal.File.{File}

-- each file that is read up to this place in their order is told, and had no fault
abbrev pub AreTold : Command → Change ShelfView → ℕ → Type 0
AreTold command shelf upto =
    (file : File) → order file ≤ upto → IfSome (path_of command file) (λ path.
    IsSome (shelf.before.holds path) × ¬ Rose (shelf.before.faults path) (shelf.after.faults path))
