-- Inputs of values that their slots can have.
use Rattle.std.specs.Prelude.{ℤ, List, All}
use Rattle.rw_base.specs.declared.number.Cell.{Cell}
use Rattle.rw_model.specs.Draft.{Draft}
use Rattle.rw_model.specs.Links.{IsBetween, bounds_in}

-- the slot can have the value
abbrev pub CanHave : Draft → Cell × ℤ → Type 0
CanHave basin input = IsBetween (bounds_in basin.objects basin.links basin.bounds input.0.slot.0) input.1

abbrev pub AreInside : Draft → List (Cell × ℤ) → Type 0
AreInside basin inputs = All (CanHave basin) inputs
