-- What a call does to a shelf or to a sink, by what it answers.
use Rattle.std.specs.Prelude.{◌≡◌, ℕ, ◌<◌, ◌≤◌, List, length, None, Some, IfSome, Result, Ok, IfOk, OnOk, OnErr, ⊤}
use Rattle.std.specs.Io.{ReadsAtMost}
use Rattle.std.specs.Io.KnownBytes.{ReadConsumes}
use Rattle.rw_io.specs.Causes.{Rose, NoneFell, PathRose}
use Rattle.rw_io.specs.Known.{SinkAppends, taken_after}
use Rattle.rw_io.specs.Outside.{Change, ShelfView, SinkView}
use Rattle.rw_io.specs.declared.shelf.ShelfFault.{ShelfFault}
use Rattle.rw_io.specs.declared.sink.SinkFault.{SinkFault}
use Rattle.rw_io.specs.declared.whole_file.TheConstants.{FILE_MAX}

-- `start` of the file of this path
pub record Starts (path : List ℕ) (shelf : Change ShelfView) (result : Result ⊤ ShelfFault) : Type 0 where
  -- what the paths hold stays
  pub held : (p : List ℕ) → shelf.after.holds p ≡ shelf.before.holds p
  -- the file is started, and the whole of it is left
  pub started : OnOk result (shelf.after.started ≡ Some path)
  pub left : OnOk result (shelf.after.left ≡ shelf.before.holds path)
  pub taken : OnOk result (shelf.after.taken ≡ 0)
  -- after a fault nothing is started, and what was taken before still counts
  pub nothing : OnErr result (shelf.after.started ≡ None)
  pub stays : OnErr result (shelf.after.taken ≡ shelf.before.taken)
  -- a fault is one of this path
  pub later : NoneFell shelf.before.faults shelf.after.faults
  pub cause : OnErr result (Rose (shelf.before.faults path) (shelf.after.faults path))

-- `read` into a buffer, which is seen as it is afterwards
pub record GivesRead (buffer : List ℕ) (shelf : Change ShelfView) (result : Result ℕ ShelfFault) : Type 0 where
  -- what the paths hold stays, and which is started
  pub held : (p : List ℕ) → shelf.after.holds p ≡ shelf.before.holds p
  pub started : shelf.after.started ≡ shelf.before.started
  -- the front of what is left went into the front of the buffer
  pub bound : ReadsAtMost result buffer
  pub bytes : ReadConsumes shelf.before.left shelf.after.left result buffer
  pub idle : shelf.before.started ≡ None → result ≡ Ok 0
  pub taken : shelf.after.taken ≡ taken_after shelf.before.taken result
  -- a fault is one of the started path
  pub later : NoneFell shelf.before.faults shelf.after.faults
  pub cause : OnErr result (PathRose shelf.before.started shelf.before.faults shelf.after.faults)

-- the reading of these bytes as those of the file of this path
pub record ReadsWhole (path bytes : List ℕ) (shelf : Change ShelfView) : Type 0 where
  -- they are the whole file, where the shelf tells it, of at most so many bytes
  pub whole : IfSome (shelf.before.holds path) (λ file. bytes ≡ file)
  pub short : length bytes ≤ FILE_MAX
  pub taken : shelf.after.taken ≡ length bytes

-- the reading of a file of this path that has too many bytes
pub record ReadsTooLong (path : List ℕ) (shelf : Change ShelfView) : Type 0 where
  pub taken : FILE_MAX < shelf.after.taken
  pub longer : IfSome (shelf.before.holds path) (λ file. FILE_MAX < length file)

-- `write` of this piece
pub record TakesWrite (piece : List ℕ) (sink : Change SinkView) (result : Result ℕ SinkFault) : Type 0 where
  -- a front of the piece was appended, at least a byte of it
  pub bound : IfOk result (λ n. n ≤ length piece)
  pub some : 0 < length piece → IfOk result (λ n. 0 < n)
  pub bytes : SinkAppends sink.before.contents sink.after.contents result piece
  -- a fault was counted
  pub later : sink.before.faults ≤ sink.after.faults
  pub cause : OnErr result (Rose sink.before.faults sink.after.faults)
  -- an empty piece changes nothing
  pub empty : length piece ≡ 0 → result ≡ Ok 0
  pub still : length piece ≡ 0 → sink.after.contents ≡ sink.before.contents
  pub calm : length piece ≡ 0 → sink.after.faults ≡ sink.before.faults

-- no path's count of faults has changed
abbrev pub SameFaults : Change ShelfView → Type 0
SameFaults shelf = (path : List ℕ) → shelf.after.faults path ≡ shelf.before.faults path
