-- Which of two cells comes first.
use Rattle.rw_record.proofs.Common.{Held, [], arith, cell_at, inl, inr, ◌∷◌}
use Rattle.std.specs.Prelude.{pos}
use Rattle.rw_base.proofs.Common.{All-cons, All-nil}
use Rattle.rw_record.specs.Record.{AreRisingCells, IsBelow}
use Rattle.rw_record.specs.Worked.{held_at}

pub by_slot : AreRisingCells (held_at 1 2 (pos 5) ∷ held_at 2 1 (pos 5) ∷ [])
by_slot =
    let first = held_at 1 2 (pos 5) in
    let second = held_at 2 1 (pos 5) in
    let below : IsBelow first.cell second.cell = inl (omega arith) in (
      All-cons (λ (later : Held). IsBelow first.cell later.cell) second [] below (All-nil (λ (later : Held). IsBelow first.cell later.cell)),
      (All-nil (λ (later : Held). IsBelow second.cell later.cell), tt),
    )

above : IsBelow (cell_at 2 1) (cell_at 1 2) → ⊥
above (inl less) = omega (arith, less)
above (inr same) = omega (arith, same.0)

pub not_by_step : AreRisingCells (held_at 2 1 (pos 5) ∷ held_at 1 2 (pos 5) ∷ []) → ⊥
not_by_step rising = above (rising.0 0 (held_at 1 2 (pos 5)) (omega arith))
