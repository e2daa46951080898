-- The objects that wait, as a queue.
use Rattle.std.specs.Prelude.{◌≡◌, ◌≤◌, ◌-◌, ◌+◌, ℕ, Bool, false, ◌&&◌, cond, nat_lt, List, [], ◌∷◌, ◌++◌, length, map, slice_index_or}
use Rattle.rw_base.specs.declared.number.ObjectNo.{ObjectNo}
use Rattle.rw_model.specs.declared.limits.TheConstants.{OBJECTS_MAX}
use Rattle.rw_model.specs.Draft.{Draft}
use Rattle.rw_run.specs.Times.{times}

-- of how many objects it is, and those that wait, the next one first
pub record Queue : Type 0 where
  pub objects : ℕ
  pub waiting : List ℕ

-- a queue for the basin
abbrev pub IsQueueOf : Draft → Queue → Type 0
IsQueueOf basin queue = queue.objects ≡ length basin.objects

-- the numbers of objects
abbrev pub objects_of : List ObjectNo → List ℕ
objects_of items = map (λ (object : ObjectNo). object.0) items

-- the object in a place was taken out
pub record IsTaken (place : ℕ) (old : List ℕ) (object : ℕ) (new : List ℕ) : Type 0 where
  pub before : List ℕ
  pub behind : List ℕ
  pub place_is : length before ≡ place
  pub old_is : old ≡ before ++ object ∷ behind
  pub new_is : new ≡ before ++ behind

-- an object is marked
abbrev pub is_object_marked : List Bool → ℕ → Bool
is_object_marked marks object = nat_lt 0 object && slice_index_or marks (object - 1) false

abbrev pub unmarked : List Bool → ℕ
unmarked [] = 0
unmarked (mark ∷ marks) = cond mark 0 1 + unmarked marks

-- exactly the marked objects wait, each of them once, and there is room for all
pub record KeepsQueue (items : List ℕ) (filled room : ℕ) (waits : List Bool) : Type 0 where
  pub marked : (object : ℕ) → times object items ≡ cond (is_object_marked waits object) 1 0
  pub count : filled ≡ length items
  pub left : length items + unmarked waits ≡ length waits
  pub fits : length waits ≤ room
  pub few : length waits ≤ OBJECTS_MAX
