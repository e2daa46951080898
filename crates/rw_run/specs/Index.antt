-- Which rules have to be looked at again once puts are written.
use Rattle.std.specs.Prelude.{◌≡◌, ℕ, Bool, false, List, Option, Some}
use Rattle.std.specs.List.{list_any}
use Rattle.rw_model.specs.Draft.{Draft}
use Rattle.rw_series.specs.Series.{is_shared}
use Rattle.rw_firing.specs.declared.look.Look.{Look}
use Rattle.rw_run.specs.Log.{Asked, Cells}
use Rattle.rw_run.specs.Next.{is_changed}

-- each look of a rule that isn't marked holds what it saw
abbrev pub IsIndex : Cells → (ℕ → Option (List Look)) → (ℕ → Bool) → Type 0
IsIndex cells looked is_marked =
    (rule : ℕ) (looks : List Look) → is_marked rule ≡ false → looked rule ≡ Some looks → is_changed cells (Some looks) ≡ false

-- one of the puts is to a cell that shares its value with one of those that were looked at
abbrev pub is_touched : Draft → List Asked → List Look → Bool
is_touched basin puts looks =
    list_any (λ (look : Look). list_any (λ (put : Asked). is_shared basin put.cell look.cell) puts) looks

-- every rule that was marked still is, and so is each whose looks the puts touch
abbrev pub MarksTouched : Draft → List Asked → (ℕ → Option (List Look)) → (ℕ → Bool) → (ℕ → Bool) → Type 0
MarksTouched basin puts looked was_marked is_marked =
    (rule : ℕ) (looks : List Look) → is_marked rule ≡ false → looked rule ≡ Some looks
    → (was_marked rule ≡ false) × (is_touched basin puts looks ≡ false)
