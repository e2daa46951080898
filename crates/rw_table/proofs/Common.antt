-- The names that proofs cite, passed on from one place. Declares nothing.
pub use Rattle.rw_base.proofs.Common.{Bool, Decides, Decides-and, Decides-like, FitsSigned, IsPartitionPoint, IsPartitionedBy, IsSome, IsSomeAnd}
pub use Rattle.rw_base.proofs.Common.{List, MatchOption, None, Option, Some, [], always_returns_same, ap, arith, below_more, cases_eq, cond, false}
pub use Rattle.rw_base.proofs.Common.{get_or_default, inl, inr, int_le, ints, length, nat_lt, nat_tests, negsuc, of_calls, of_z, option_or, pos, refl}
pub use Rattle.rw_base.proofs.Common.{rules, slice_index_or, subst, suc, sym, to_z-of_z, true, unsigned_abs, w64, zero, ℕ, ℤ, ◌*◌, ◌+ℤ◌, ◌+◌, ◌-ℤ◌}
pub use Rattle.rw_base.proofs.Common.{◌-◌, ◌/◌, ◌<ℤ◌, ◌<◌, ◌↔◌, ◌∙◌, ◌∷◌, ◌≡◌, ◌≤ℤ◌, ◌≤◌, ◌⊎◌}
pub use Rattle.rw_base.specs.Answers.{Finds}
pub use Rattle.rw_table.specs.Curve.{IsAtMost, IsElevationInside, IsGreatest, IsVolumeInside, elev_of, first_row, greatest_up_to, is_at_most}
pub use Rattle.rw_table.specs.Curve.{last_row, vol_from, vol_of}
pub use Rattle.rw_table.specs.Line.{IsLastOnLine, between}
pub use Rattle.rw_table.specs.Table.{IsAbove, IsGoodRow, IsRisingAt, IsTable, IsWithinBounds, Row, TableRefusal, is_above, is_rising_at}
pub use Rattle.rw_table.specs.Table.{is_within_bounds, not_rising, rows_refusal_of, row_at, row_refusal, rows_refusal, table_refusal}
