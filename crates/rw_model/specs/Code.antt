-- The numbers of the kinds.
use Rattle.std.specs.Prelude.{ℕ}
use Rattle.rw_model.specs.declared.kind.Kind.{Kind}
use Rattle.rw_model.specs.declared.kind.Kind.TheVariants.{DataObject, Gage, Confluence, Bifurcation, Reach, Reservoir, WaterUser, Canal, PowerReservoir, RoutedReach}

abbrev pub code_of : Kind → ℕ
code_of (DataObject slots) = 0
code_of Gage = 1
code_of Confluence = 2
code_of Bifurcation = 3
code_of (Reach lag history local_inflow diversion return_flow) = 4
code_of (Reservoir initial_storage table local_inflow diversion return_flow evaporation max_release) = 5
code_of (WaterUser depletion supply) = 6
code_of (Canal seepage) = 7
code_of (PowerReservoir initial_storage table max_release tailwater power) = 8
code_of (RoutedReach initial_content release) = 9
