-- The order of a table's rows, and what it gives the searches.
use Rattle.rw_table.proofs.Common.{IsAbove, IsPartitionPoint, IsPartitionedBy, IsTable, List, Row, arith, cases_eq, false, get_or_default, inl, inr}
use Rattle.rw_table.proofs.Common.{int_le, ints, length, pos, row_at, slice_index_or, suc, true, zero, ℕ, ℤ, ◌<ℤ◌, ◌<◌, ◌≡◌, ◌≤ℤ◌, ◌≤◌}
use Rattle.rw_table.proofs.Comparison.{le_passes}

-- above what is above is above
above_both : (low middle high : Row) → IsAbove middle low → IsAbove high middle → IsAbove high low
above_both low middle high first next = record {
  elevation = omega (arith, ints, first.elevation, next.elevation);
  volume = omega (arith, ints, first.volume, next.volume);
}

-- each row of a table is above each row before it
pub rises : (rows : List Row) → IsTable rows → (j k : ℕ) → j < k → k < length rows → IsAbove (row_at rows k) (row_at rows j)
rises rows table j zero before within = absurd (omega arith)
rises rows table j (suc k) before within = elim (cases_eq j k) [
  | inl same ↦ (table.good (suc k) within).rising j (omega arith)
  | inr other ↦
      above_both _ (row_at rows k) _ (rises rows table j k (omega arith) (omega arith)) ((table.good (suc k) within).rising k (omega arith))
]

-- and no row has less volume than a row before it
pub no_less : (rows : List Row) → IsTable rows → (j k : ℕ) → j ≤ k → k < length rows → (row_at rows j).1 ≤ℤ (row_at rows k).1
no_less rows table j k up_to within = elim (cases_eq j k) [
  | inl same ↦ rw same (omega (arith, ints))
  | inr other ↦ omega (arith, ints, (rises rows table j k (omega arith) within).volume)
]

-- a column of the rows that rises from place to place
pub record IsRisingColumn (rows : List Row) (column : Row → ℤ) : Type 0 where
  pub rising : (j k : ℕ) → j < k → k < length rows → column (row_at rows j) <ℤ column (row_at rows k)

-- both columns of a table rise
pub elevations_rise : (rows : List Row) → IsTable rows → IsRisingColumn rows (λ row. row.0)
elevations_rise rows table = record { rising = λ j k before within. (rises rows table j k before within).elevation }

pub volumes_rise : (rows : List Row) → IsTable rows → IsRisingColumn rows (λ row. row.1)
volumes_rise rows table = record { rising = λ j k before within. (rises rows table j k before within).volume }

-- a test 'at most z' of a rising column is passed by the rows up to some place
pub parted : (rows : List Row) (column : Row → ℤ) (z : ℤ) → IsRisingColumn rows column → IsPartitionedBy (λ row. int_le (column row) z) rows
parted rows column z rise i j d up_to within passed = elim (cases_eq i j) [
  | inl same ↦ rw same passed
  | inr other ↦
      rw (get_or_default rows i d (pos 0, pos 0) (omega arith)) (
      let at_j : int_le (column (row_at rows j)) z ≡ true = rw (get_or_default rows j d (pos 0, pos 0) within) at passed in
      let less = rise.rising i j (omega arith) within in
      le_passes (column (row_at rows i)) z (omega (arith, ints)))
]

-- the place that the search finds, in words
pub parted_at : (rows : List Row) (column : Row → ℤ) (z : ℤ) (place : ℕ)
    → IsPartitionPoint (λ row. int_le (column row) z ≡ true) (λ row. int_le (column row) z ≡ false) rows place
    → IsPartitionPoint (λ row. column row ≤ℤ z) (λ row. z <ℤ column row) rows place
parted_at rows column z place point = (
  λ k d from to.
      let at : int_le (column (slice_index_or rows k d)) z ≡ true = point.0 k d from to in
      omega (arith, ints),
  λ k d from to.
      let at : int_le (column (slice_index_or rows k d)) z ≡ false = point.1 k d from to in
      omega (arith, ints),
)
