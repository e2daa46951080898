-- The straight line from one row of a table to the next.
use Rattle.std.specs.Prelude.{ℤ, pos, ◌+ℤ◌, ◌-ℤ◌, ◌*ℤ◌, ◌≤ℤ◌, ◌<ℤ◌, int_div}
use Rattle.rw_table.specs.Table.{Row}

-- the volume at e on the straight line from one row to the next, rounded down
abbrev pub between : Row → Row → ℤ → ℤ
between low high e = low.1 +ℤ int_div ((e -ℤ low.0) *ℤ (high.1 -ℤ low.1)) (high.0 -ℤ low.0)

-- from one row to just before the next, e is the last elevation whose volume on the line is at most s
pub record IsLastOnLine (low high : Row) (s e : ℤ) : Type 0 where
  pub from_low : low.0 ≤ℤ e
  pub to_high : e <ℤ high.0
  pub at_most : between low high e ≤ℤ s
  pub last : (e +ℤ pos 1) <ℤ high.0 → s <ℤ between low high (e +ℤ pos 1)
