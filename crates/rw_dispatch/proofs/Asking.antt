-- What the event of a dispatch asks for, where it is no fault.
use Rattle.rw_dispatch.proofs.Common.{List, None, Option, Some, [], ap, refl, subst, sym, ℕ, ℤ, ◌∙◌, ◌∷◌, ◌≡◌}
use Rattle.rw_model.specs.Draft.{Draft}
use Rattle.rw_method.specs.declared.solved.Solved.{Solved}
use Rattle.rw_method.specs.declared.solved.Solved.TheVariants.{Idle, Puts, Conflict, OutOfRange}
use Rattle.rw_firing.specs.declared.look.Look.{Look}
use Rattle.rw_run.specs.Dispatch.{answered, asked_for, denied_by, dispatch_of, end_in, judged, or_fault}
use Rattle.rw_run.specs.Frame.{IsFault}
use Rattle.rw_run.specs.Log.{Asked, Cells, Event, asked_in, looks_in}
use Rattle.rw_dispatch.specs.Answer.{asked_by_solution as puts_in}

calm_one : (values : Option (ℤ × ℤ)) (object : ℕ) (put : Asked) (rest : Event) → (¬ IsFault (or_fault values object put rest))
    → or_fault values object put rest ≡ rest
calm_one None object put rest calm = refl
calm_one (Some values) object put rest calm = absurd (calm tt)

calm_all : (cells : Cells) (object : ℕ) (puts : List Asked) (rest : Event) → (¬ IsFault (judged cells object puts rest))
    → judged cells object puts rest ≡ rest
calm_all cells object [] rest calm = refl
calm_all cells object (put ∷ puts) rest calm =
    let one = calm_one (denied_by (end_in cells put) put) object put (judged cells object puts rest) calm in
    one ∙ calm_all cells object puts rest (subst (λ (event : Event). ¬ IsFault event) one calm)

module _ (basin : Draft) (cells : Cells) (looked : List Look) (object step : ℕ) where
  pub asked_told : (solved : Solved) → (¬ IsFault (answered basin cells looked object step solved))
      → asked_for basin object step (puts_in solved) ≡ asked_in (answered basin cells looked object step solved)
  asked_told Idle calm = refl
  asked_told (Puts puts) calm =
      ap asked_in (sym (calm_all cells object (asked_for basin object step puts)
      (dispatch_of cells looked object step (asked_for basin object step puts)) calm))
  asked_told (Conflict place held solves) calm = absurd (calm tt)
  asked_told (OutOfRange place value) calm = absurd (calm tt)

  -- and at what it looked
  pub looks_told : (solved : Solved) → (¬ IsFault (answered basin cells looked object step solved))
      → looks_in (answered basin cells looked object step solved) ≡ looked
  looks_told Idle calm = refl
  looks_told (Puts puts) calm =
      ap looks_in (calm_all cells object (asked_for basin object step puts)
      (dispatch_of cells looked object step (asked_for basin object step puts)) calm)
  looks_told (Conflict place held solves) calm = absurd (calm tt)
  looks_told (OutOfRange place value) calm = absurd (calm tt)
