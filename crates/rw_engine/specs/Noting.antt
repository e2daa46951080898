-- Within the crate: that cells are noted, all of them, or as many as memory was there for.
use Rattle.std.specs.Prelude.{◌≡◌, List, Option, IsSome, Result, Ok, Err}
use Rattle.rw_base.specs.declared.memory.NoMemory.{NoMemory}
use Rattle.rw_base.specs.declared.number.Cell.{Cell}
use Rattle.rw_run.specs.Log.{Cells}
use Rattle.rw_run.specs.declared.held.Held.{Held}
use Rattle.rw_record.specs.Noted.{with_noted}

-- some cells are noted, with what they hold
abbrev pub NotesSome : Cells → Option (List Held) → Option (List Held) → Type 0
NotesSome cells old new = (more : List Cell) × (new ≡ with_noted cells more old)

-- all of these are, or memory wants for it, and something is kept
abbrev pub NotesAll : Cells → List Cell → Option (List Held) → Option (List Held) → Result (Unit {0}) NoMemory → Type 0
NotesAll cells all old new (Ok done) = new ≡ with_noted cells all old
NotesAll cells all old new (Err fault) = IsSome old × NotesSome cells old new
