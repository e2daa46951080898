-- What a reservoir holds, by its storage or its elevation, and what evaporates from it.
use Rattle.std.specs.Prelude.{◌==◌, nat_le, if◌then◌else◌, ℤ, pos, ◌-ℤ◌, Bool, true, false, not, ◌&&◌, ◌||◌, List, Option, None, Some, unwrap_or, option_and_then, is_some}
use Rattle.std.specs.Ordering.{int_eq}
use Rattle.std.specs.Int.{int_max}
use Rattle.rw_table.specs.Table.{Row}
use Rattle.rw_table.specs.Curve.{vol_of, elev_of, first_row}
use Rattle.rw_method.specs.declared.places.TheConstants.{POOL_ELEVATION, STORAGE}
use Rattle.rw_method.specs.declared.basis.Basis.{Basis}
use Rattle.rw_method.specs.declared.basis.Basis.TheVariants.{Nothing, Storage, Elevation}
use Rattle.rw_method.specs.declared.given.Given.{Given}
use Rattle.rw_method.specs.declared.solved.Solved.{Solved}
use Rattle.rw_method.specs.declared.solved.Solved.TheVariants.{Conflict, OutOfRange}

-- by what the contents are given: of a storage and an elevation that are both given, the one of the lesser number, and in a tie the storage
abbrev pub basis_of : Option Given → Option Given → Basis
basis_of None None = Nothing
basis_of (Some storage) None = Storage storage
basis_of None (Some elevation) = Elevation elevation
basis_of (Some storage) (Some elevation) =
    if nat_le storage.number elevation.number then Storage storage else Elevation elevation

-- the elevation at a storage and the volume at an elevation, where there is a table that has them
abbrev pub elevation_of : Option (List Row) → ℤ → Option ℤ
elevation_of table storage = option_and_then (λ rows. elev_of rows storage) table

abbrev pub volume_of : Option (List Row) → ℤ → Option ℤ
volume_of table elevation = option_and_then (λ rows. vol_of rows elevation) table

-- whether a reservoir can hold so much: the table, if there is one, has an elevation for it
abbrev pub can_hold : Option (List Row) → ℤ → Bool
can_hold None storage = true
can_hold (Some rows) storage = is_some (elev_of rows storage)

-- the contents that are given. An elevation that the table doesn't have counts as volume 0, since the answer is then OutOfRange
abbrev pub contents_by : Option (List Row) → Basis → Option Given
contents_by table Nothing = None
contents_by table (Storage storage) = Some storage
contents_by table (Elevation elevation) =
    Some (record { value = unwrap_or (volume_of table elevation.value) (pos 0); number = elevation.number })

-- what is wrong with the slot that gives the contents
abbrev pub fault_of_basis : Option (List Row) → Basis → Option Solved
fault_of_basis table Nothing = None
fault_of_basis table (Storage storage) =
    if can_hold table storage.value then None else Some (OutOfRange STORAGE storage.value)
fault_of_basis table (Elevation elevation) =
    if is_some (volume_of table elevation.value) then None else Some (OutOfRange POOL_ELEVATION elevation.value)

-- both are given with priority 0
abbrev pub are_both_zero : Option Given → Option Given → Bool
are_both_zero None elevation = false
are_both_zero (Some storage) None = false
are_both_zero (Some storage) (Some elevation) = storage.number == 0 && elevation.number == 0

-- there is such a value, and it is this one
abbrev pub is_this : Option ℤ → ℤ → Bool
is_this None value = false
is_this (Some found) value = int_eq found value

-- the elevation is the storage's, or the storage is the elevation's
abbrev pub agree : Option (List Row) → ℤ → ℤ → Bool
agree table storage elevation =
    is_this (elevation_of table storage) elevation || is_this (volume_of table elevation) storage

-- a storage and an elevation that are both given with priority 0, and don't agree
abbrev pub disagreement : Option (List Row) → Option Given → Option Given → Option Solved
disagreement table None elevation = None
disagreement table (Some storage) None = None
disagreement table (Some storage) (Some elevation) =
    if storage.number == 0 && elevation.number == 0 && not (agree table storage.value elevation.value)
    then Some (Conflict POOL_ELEVATION elevation.value (unwrap_or (elevation_of table storage.value) (pos 0)))
    else None

-- the difference of two values, where both are there
abbrev pub difference : Option ℤ → Option ℤ → Option ℤ
difference (Some a) (Some b) = Some (a -ℤ b)
difference (Some a) None = None
difference None b = None

-- how much evaporates from a storage at a rate: what is stored above the elevation that sinks by the rate, at most to the lowest
abbrev pub evaporated : List Row → ℤ → ℤ → Option ℤ
evaporated rows storage rate =
    option_and_then (λ e. difference (vol_of rows e) (vol_of rows (int_max (e -ℤ rate) (first_row rows).0)))
    (elev_of rows storage)
