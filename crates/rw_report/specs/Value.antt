-- A value that a kept line was told from, as it is kept.
use Rattle.std.specs.Prelude.{ℤ, Option, None, Some, if◌then◌else◌, int_le}
use Rattle.rw_base.specs.Quantity.{quantity_max}

-- a quantity is kept as it is, and none as any number above all quantities
abbrev pub value_kept : ℤ → Option ℤ
value_kept number = if int_le number quantity_max then Some number else None
