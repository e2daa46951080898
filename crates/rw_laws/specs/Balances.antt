-- The law of balance: what every object's slots hold.
use Rattle.std.specs.Prelude.{◌≡◌, ℕ, Some, option_map}
use Rattle.rw_model.specs.declared.kind.Kind.{Kind}
use Rattle.rw_model.specs.Draft.{Draft}
use Rattle.rw_model.specs.Objects.{object_at}
use Rattle.rw_method.specs.Balanced.{IsBalanced}
use Rattle.rw_run.specs.Dispatch.{view_of}
use Rattle.rw_run.specs.Log.{Cells}

-- the slots of every object at the timestep, where the cells hold this
abbrev pub AllBalanced : Draft → ℕ → Cells → Type 0
AllBalanced basin step cells =
    (object : ℕ) (kind : Kind) → option_map (λ found. found.kind) (object_at basin.objects object) ≡ Some kind
    → IsBalanced kind (view_of basin cells object step)
