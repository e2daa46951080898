-- What a table says between its rows: the volume at an elevation, and the elevation at a volume.
use Rattle.std.specs.Prelude.{ℕ, zero, suc, ◌-◌, ℤ, pos, ◌≤ℤ◌, Bool, false, ◌&&◌, if◌then◌else◌, int_le, int_lt, unsigned_abs, List, [], ◌∷◌, length, Option, None, Some, IsSomeAnd}
use Rattle.std.specs.Ordering.{int_eq}
use Rattle.rw_table.specs.Table.{Row, row_at}
use Rattle.rw_table.specs.Line.{between}

-- the volume at e, by the two neighbouring rows that e lies between, or by the last row
abbrev pub vol_from : Row → List Row → ℤ → Option ℤ
vol_from low [] e = if int_eq e low.0 then Some low.1 else None
vol_from low (high ∷ rows) e = if int_le low.0 e && int_lt e high.0 then Some (between low high e) else vol_from high rows e

-- the volume in m3 at an elevation of e mm
abbrev pub vol_of : List Row → ℤ → Option ℤ
vol_of [] e = None
vol_of (low ∷ rows) e = vol_from low rows e

abbrev pub first_row : List Row → Row
first_row rows = row_at rows 0

abbrev pub last_row : List Row → Row
last_row rows = row_at rows (length rows - 1)

-- whether there is a volume at e, and it is at most s
abbrev pub is_at_most : Option ℤ → ℤ → Bool
is_at_most None s = false
is_at_most (Some v) s = int_le v s

-- the greatest whole elevation from 0 to n whose volume is at most s, counted down from n
abbrev pub greatest_up_to : List Row → ℤ → ℕ → Option ℤ
greatest_up_to rows s zero = if is_at_most (vol_of rows (pos zero)) s then Some (pos zero) else None
greatest_up_to rows s (suc n) =
    if is_at_most (vol_of rows (pos (suc n))) s then Some (pos (suc n)) else greatest_up_to rows s n

-- the elevation in mm at a volume of s m3, which is from the first volume to the last
abbrev pub elev_of : List Row → ℤ → Option ℤ
elev_of rows s =
    if int_le (first_row rows).1 s && int_le s (last_row rows).1
    then greatest_up_to rows s (unsigned_abs (last_row rows).0)
    else None

-- an elevation from the first to the last
pub record IsElevationInside (rows : List Row) (e : ℤ) : Type 0 where
  pub from_first : (first_row rows).0 ≤ℤ e
  pub to_last : e ≤ℤ (last_row rows).0

-- a volume from the first to the last
pub record IsVolumeInside (rows : List Row) (s : ℤ) : Type 0 where
  pub from_first : (first_row rows).1 ≤ℤ s
  pub to_last : s ≤ℤ (last_row rows).1

-- there is a volume at e, and it is at most s
abbrev pub IsAtMost : List Row → ℤ → ℤ → Type 0
IsAtMost rows e s = IsSomeAnd (vol_of rows e) (λ v. v ≤ℤ s)

-- the greatest whole elevation whose volume is at most s
pub record IsGreatest (rows : List Row) (s e : ℤ) : Type 0 where
  pub inside : IsElevationInside rows e
  pub at_most : IsAtMost rows e s
  pub greatest : (other : ℤ) → IsAtMost rows other s → other ≤ℤ e
