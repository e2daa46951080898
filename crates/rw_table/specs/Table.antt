-- The rows that make a table, and why others make none.
use Rattle.std.specs.Prelude.{◌≡◌, ℕ, zero, suc, ◌+◌, ◌<◌, ◌≤◌, nat_lt, ℤ, pos, ◌≤ℤ◌, ◌<ℤ◌, int_lt, Bool, true, ◌&&◌, if◌then◌else◌, List, length, slice_index_or, Option, Some, None, Result}
use Rattle.std.specs.Option.{option_or}
use Rattle.rw_table.specs.declared.fault.TheConstants.{ELEVATION_MAX, ROWS_MAX, VOLUME_MAX}
use Rattle.rw_base.specs.Answers.{unless_refused}
use Rattle.rw_base.specs.Range.{is_from_to}
use Rattle.rw_table.specs.declared.fault.TableFault.{TableFault}
use Rattle.rw_table.specs.declared.fault.TableFault.TheVariants.{TooFewRows, TooManyRows, OutOfBounds, NotRising, NoMemory}

-- an elevation in mm, and the volume in m3 that the reservoir holds up to it
abbrev pub Row : Type 0
Row = ℤ × ℤ

-- the row in place k, counted from 0
abbrev pub row_at : List Row → ℕ → Row
row_at rows k = slice_index_or rows k (pos 0, pos 0)

-- an elevation from 0 to 10^7 mm, and a volume from 0 to 10^13 m3
pub record IsWithinBounds (row : Row) : Type 0 where
  pub lowest : pos 0 ≤ℤ row.0
  pub highest : row.0 ≤ℤ ELEVATION_MAX
  pub empty : pos 0 ≤ℤ row.1
  pub fullest : row.1 ≤ℤ VOLUME_MAX

-- greater in both columns
pub record IsAbove (row before : Row) : Type 0 where
  pub elevation : before.0 <ℤ row.0
  pub volume : before.1 <ℤ row.1

-- the row in place k is above the row before it, if there is one
abbrev pub IsRisingAt : List Row → ℕ → Type 0
IsRisingAt rows k = (j : ℕ) → j + 1 ≡ k → IsAbove (row_at rows k) (row_at rows j)

pub record IsGoodRow (rows : List Row) (k : ℕ) : Type 0 where
  pub bounds : IsWithinBounds (row_at rows k)
  pub rising : IsRisingAt rows k

-- 2 to 200 rows, each of them good
pub record IsTable (rows : List Row) : Type 0 where
  pub some : 2 ≤ length rows
  pub few : length rows ≤ ROWS_MAX
  pub good : (k : ℕ) → k < length rows → IsGoodRow rows k

-- ---- why rows are no table

-- rows are counted from 1
pub data TableRefusal : Type 0 where
  too_few_rows : TableRefusal
  too_many_rows : TableRefusal
  out_of_bounds : ℕ → TableRefusal
  not_rising : ℕ → TableRefusal

-- what a fault tells of the rows. Want of memory tells nothing of them
abbrev pub rows_refusal_of : TableFault → Option TableRefusal
rows_refusal_of TooFewRows = Some too_few_rows
rows_refusal_of TooManyRows = Some too_many_rows
rows_refusal_of (OutOfBounds number) = Some (out_of_bounds number)
rows_refusal_of (NotRising number) = Some (not_rising number)
rows_refusal_of NoMemory = None

abbrev pub is_within_bounds : Row → Bool
is_within_bounds row = is_from_to (pos 0) ELEVATION_MAX row.0 && is_from_to (pos 0) VOLUME_MAX row.1

abbrev pub is_above : Row → Row → Bool
is_above row before = int_lt before.0 row.0 && int_lt before.1 row.1

abbrev pub is_rising_at : List Row → ℕ → Bool
is_rising_at rows zero = true
is_rising_at rows (suc k) = is_above (row_at rows (suc k)) (row_at rows k)

-- what is wrong with the row in place k, if something is. Its bounds are judged before the rising
abbrev pub row_refusal : List Row → ℕ → Option TableRefusal
row_refusal rows k =
    if is_within_bounds (row_at rows k)
    then (if is_rising_at rows k then None else Some (not_rising (k + 1)))
    else Some (out_of_bounds (k + 1))

-- the first of the first n rows with which something is wrong, if there is one
abbrev pub rows_refusal : List Row → ℕ → Option TableRefusal
rows_refusal rows zero = None
rows_refusal rows (suc n) = option_or (rows_refusal rows n) (row_refusal rows n)

-- why rows are no table, if they aren't. Their number is judged first
abbrev pub table_refusal : List Row → Option TableRefusal
table_refusal rows =
    if nat_lt (length rows) 2 then Some too_few_rows
    else (if nat_lt ROWS_MAX (length rows) then Some too_many_rows else rows_refusal rows (length rows))

-- the table that rows make
abbrev pub table_of : List Row → Result (List Row) TableRefusal
table_of rows = unless_refused (table_refusal rows) rows
