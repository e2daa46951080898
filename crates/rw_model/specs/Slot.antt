-- What a slot is.
use Rattle.std.specs.Prelude.{◌≤ℤ◌, ℕ, ℤ, pos, neg_ℤ, List}
use Rattle.rw_base.specs.Dimension.{Dimension, per_of}
use Rattle.rw_base.specs.Quantity.{quantity_max}
use Rattle.rw_base.specs.Unit.{volume, length, timestep}
use Rattle.rw_table.specs.declared.fault.TheConstants.{ELEVATION_MAX}
use Rattle.rw_model.specs.declared.role.Role.{Role}

-- the least and the greatest value
abbrev pub Bounds : Type 0
Bounds = ℤ × ℤ

-- its name, what it measures, who gives it its values, the widest bounds that it can have, and those that it has where none are set
pub record Slot : Type 0 where
  pub name : List ℕ
  pub dim : Dimension
  pub role : Role
  pub widest : Bounds
  pub usual : Bounds

abbrev pub flow_unit : Dimension
flow_unit = per_of volume timestep

abbrev pub rate_unit : Dimension
rate_unit = per_of length timestep

-- any quantity
abbrev pub all_quantities : Bounds
all_quantities = (neg_ℤ quantity_max, quantity_max)

-- any quantity from 0 on
abbrev pub from_zero : Bounds
from_zero = (pos 0, quantity_max)

-- the elevations in mm, and the rates of evaporation in mm/step
abbrev pub lengths : Bounds
lengths = (pos 0, ELEVATION_MAX)

-- a flow in m3/step: any quantity, and none below 0 where nothing else is set
abbrev pub flow : List ℕ → Role → Slot
flow name role = record { name = name; dim = flow_unit; role = role; widest = all_quantities; usual = from_zero }

-- a slot whose bounds are the widest where none are set
abbrev pub of_range : List ℕ → Dimension → Role → Bounds → Slot
of_range name dim role bounds = record { name = name; dim = dim; role = role; widest = bounds; usual = bounds }

-- bounds whose least is not above their greatest, and that lie within others
pub record IsInside (bounds widest : Bounds) : Type 0 where
  pub order : bounds.0 ≤ℤ bounds.1
  pub low : widest.0 ≤ℤ bounds.0
  pub high : bounds.1 ≤ℤ widest.1
