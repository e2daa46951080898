-- What holds while a file is read.
use Rattle.rw_base.proofs.Common.{◌≡◌, ℕ, ◌≤◌, List, length, Some, Consumes}
use Rattle.rw_io.specs.Causes.{NoneFell}
use Rattle.rw_io.specs.Outside.{Change, ShelfView}

-- these bytes were read of the file of this path
pub record IsReading (path bytes : List ℕ) (shelf : Change ShelfView) : Type 0 where
  pub held : (p : List ℕ) → shelf.after.holds p ≡ shelf.before.holds p
  pub later : NoneFell shelf.before.faults shelf.after.faults
  pub started : shelf.after.started ≡ Some path
  pub parts : Consumes (shelf.before.holds path) shelf.after.left bytes
  pub count : shelf.after.taken ≡ length bytes
  pub short : length bytes ≤ 16777216
