-- Within the crate: the objects that slots reach.
use Rattle.std.specs.Prelude.{◌≡◌, ◌≤◌, ◌<◌, ◌-◌, ◌&&◌, ℕ, Bool, false, not, List, Option, length}
use Rattle.rw_base.specs.Bit.{has_bit}
use Rattle.rw_run.specs.Waiting.{is_but}
use Rattle.rw_dispatch.specs.declared.owners.Reached.{Reached}

-- an object is marked: the first bit is that of object 1
abbrev pub has_object_mark : List ℕ → ℕ → Bool
has_object_mark marks object = has_bit marks (object - 1)

-- the object passes a test, and isn't left out
abbrev pub is_object_reached : Option ℕ → (ℕ → Bool) → ℕ → Bool
is_object_reached but test object = not (is_but but object) && test object

-- those are reached that pass a test, but for the one that is left out
pub record HasReached (but : Option ℕ) (test : ℕ → Bool) (reached : Reached) : Type 0 where
  pub many : length reached.marks ≡ 8
  pub marked : (object : ℕ) → 1 ≤ object → has_object_mark reached.marks object ≡ is_object_reached but test object
  pub before_all : (object : ℕ) → 1 ≤ object → object ≤ reached.before → is_object_reached but test object ≡ false
  pub behind : (object : ℕ) → reached.last < object → is_object_reached but test object ≡ false
