-- The volume at an elevation in a table.
use Rattle.rw_table.proofs.Common.{IsElevationInside, IsTable, List, None, Option, Row, Some, [], ap, arith, between, first_row, ints, last_row}
use Rattle.rw_table.proofs.Common.{length, refl, row_at, suc, vol_of, zero, ℕ, ℤ, ◌-◌, ◌<ℤ◌, ◌<◌, ◌∷◌, ◌≡◌, ◌≤ℤ◌}
use Rattle.rw_table.proofs.Chain.{chain, last, found, has_volume, volume_rises, volume_at_row, volume_between}

-- the last row, by either name
last_is : (low : Row) (rows : List Row) → last_row (low ∷ rows) ≡ last low rows
last_is low rows = ap (row_at (low ∷ rows)) (omega arith)

-- an elevation that has a volume is inside
pub inside : (rows : List Row) (e v : ℤ) → IsTable rows → vol_of rows e ≡ Some v → IsElevationInside rows e
inside [] e v table is = absurd (omega (arith, table.some))
inside (low ∷ rows) e v table is =
    let f = found low rows e v (chain low rows table) is in
    record { from_first = f.from_first; to_last = rw last_is f.to_last }

-- inside there is a volume
pub has_volume_inside : (rows : List Row) (e : ℤ) → IsTable rows → IsElevationInside rows e → (v : ℤ) × (vol_of rows e ≡ Some v)
has_volume_inside [] e table within = absurd (omega (arith, table.some))
has_volume_inside (low ∷ rows) e table within =
    has_volume low rows e (chain low rows table) within.from_first (rw last_is at within.to_last)

-- at a row it is that of the row
pub volume_of_row : (rows : List Row) (k : ℕ) → IsTable rows → k < length rows → vol_of rows (row_at rows k).0 ≡ Some (row_at rows k).1
volume_of_row [] k table within = absurd (omega arith)
volume_of_row (low ∷ rows) k table within = volume_at_row low rows k (chain low rows table) (omega arith)

-- from one row to the next it is on the line
pub volume_on_line : (rows : List Row) (k : ℕ) (e : ℤ) → IsTable rows → suc k < length rows → (row_at rows k).0 ≤ℤ e → e <ℤ (row_at rows (suc k)).0
    → vol_of rows e ≡ Some (between (row_at rows k) (row_at rows (suc k)) e)
volume_on_line [] k e table within from to = absurd (omega arith)
volume_on_line (low ∷ rows) k e table within from to =
    volume_between low rows k e (chain low rows table) (omega arith) from to

-- and it never falls
pub never_falls : (rows : List Row) (e later v w : ℤ) → IsTable rows → e ≤ℤ later → vol_of rows e ≡ Some v → vol_of rows later ≡ Some w → v ≤ℤ w
never_falls [] e later v w table after first next = absurd (omega (arith, table.some))
never_falls (low ∷ rows) e later v w table after first next =
    volume_rises low rows e later v w (chain low rows table) after first next

-- an answer with no value is none
none_from : (o : Option ℤ) → ((v : ℤ) → o ≡ Some v → ⊥) → o ≡ None
none_from None h = refl
none_from (Some v) h = absurd (h v refl)

-- outside there is no volume
no_volume : (rows : List Row) (e : ℤ) → IsTable rows → ¬ IsElevationInside rows e → vol_of rows e ≡ None
no_volume rows e table outside = none_from (vol_of rows e) (λ v is. outside (inside rows e v table is))

-- so below the first row and above the last
pub volume_before : (rows : List Row) (e : ℤ) → IsTable rows → e <ℤ (first_row rows).0 → vol_of rows e ≡ None
volume_before rows e table before = no_volume rows e table (λ within. omega (arith, ints, within.from_first))

pub volume_after : (rows : List Row) (e : ℤ) → IsTable rows → (last_row rows).0 <ℤ e → vol_of rows e ≡ None
volume_after rows e table after = no_volume rows e table (λ within. omega (arith, ints, within.to_last))

-- as the search finds it, at the number of rows that are no higher
pub line_volume : (rows : List Row) (place : ℕ) (e : ℤ) → IsTable rows → 0 < place → place < length rows → (row_at rows (place - 1)).0 ≤ℤ e
    → e <ℤ (row_at rows place).0 → vol_of rows e ≡ Some (between (row_at rows (place - 1)) (row_at rows place) e)
line_volume rows zero e table some within from to = absurd (omega arith)
line_volume rows (suc k) e table some within from to =
    let back : suc k - 1 ≡ k = omega arith in
    rw back (volume_on_line rows k e table within (rw back at from) to)
