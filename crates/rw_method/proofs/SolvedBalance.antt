-- Where a dispatch answers puts, what is held then is balanced, whatever the kind; and nothing is asked of a data object.
use Rattle.rw_method.proofs.Common.{Bifurcation, ByRule, Canal, Confluence, DataObject, Gage, IsKind, Kind, List, PowerReservoir, Put, Puts, Reach}
use Rattle.rw_method.proofs.Common.{Request, Reservoir, RoutedReach, View, WaterUser, code_of, solve_of, suc, true, zero, ◌==◌, ◌≡◌}
use Rattle.rw_method.specs.Balanced.{IsBalanced}
use Rattle.rw_method.specs.Passing.{IsAfterOwn}
use Rattle.rw_method.proofs.Answering.{Answered, answered}
use Rattle.rw_method.proofs.Balancing.{bifurcation_balanced, by_rule_balanced, canal_balanced, confluence_balanced, gage_balanced, lagged_balanced}
use Rattle.rw_method.proofs.Balancing.{reach_balanced, request_balanced, routed_balanced}
use Rattle.rw_method.proofs.Leaving.{DispatchFacts}
use Rattle.rw_method.proofs.LeftKept.{dispatch_facts}
use Rattle.rw_method.proofs.ReservoirBalance.{reservoir_balanced}
use Rattle.rw_method.proofs.PowerBalance.{power_balanced}

-- a dispatch that answers puts leaves its object balanced
pub solved_balanced : (kind : Kind) (old new : View) (puts : List Put) → IsKind kind → solve_of kind old ≡ Puts puts → IsAfterOwn old new puts
    → IsBalanced kind new
solved_balanced kind old new puts sound answers after =
    by kind sound (answered kind old puts answers) (dispatch_facts kind old puts sound (answered kind old puts answers))
  where
    by : (kind : Kind) → IsKind kind → Answered kind old puts → DispatchFacts kind old puts → IsBalanced kind new
    by (DataObject slots) sound is facts = tt
    by Gage sound is facts = gage_balanced old puts new after is facts
    by Confluence sound is facts = confluence_balanced old puts new after is facts
    by Bifurcation sound is facts = bifurcation_balanced old puts new after is facts
    by (Reach zero history local_inflow diversion return_flow) sound is facts =
        reach_balanced old puts new after history local_inflow diversion return_flow is facts sound
    by (Reach (suc lag) history local_inflow diversion return_flow) sound is facts =
        lagged_balanced old puts new after lag history local_inflow diversion return_flow is facts sound
    by (Reservoir initial_storage table local_inflow diversion return_flow evaporation max_release) sound is facts =
        reservoir_balanced initial_storage table local_inflow diversion return_flow evaporation max_release old puts sound is new after
    by (WaterUser depletion Request) sound is facts = request_balanced old puts new after depletion is facts
    by (WaterUser depletion ByRule) sound is facts = by_rule_balanced old puts new after depletion is facts
    by (Canal seepage) sound is facts = canal_balanced old puts new after seepage is facts
    by (PowerReservoir initial_storage table max_release tailwater power) sound is facts =
        power_balanced initial_storage table max_release tailwater power old puts is new after
    by (RoutedReach initial_content release) sound is facts = routed_balanced old puts new after initial_content release is facts

-- nothing is asked of an object that isn't solved
pub data_balanced : (kind : Kind) (view : View) → (code_of kind == 0) ≡ true → IsBalanced kind view
data_balanced (DataObject slots) view e = tt
data_balanced kind view e = absurd (cc)
