-- Small basins of one day and their orders of dispatches, worked out by hand.
use Rattle.std.specs.Prelude.{ℕ, zero, suc, ◌-◌, ℤ, pos, codes, true, false, List, [], ◌∷◌, ◌++◌, length, Option, Some, None}
use Rattle.rw_base.specs.Unit.{length as length_unit}
use Rattle.rw_base.specs.declared.number.Cell.{Cell}
use Rattle.rw_table.specs.Table.{Row}
use Rattle.rw_model.specs.Draft.{Draft}
use Rattle.rw_model.specs.Objects.{Object}
use Rattle.rw_model.specs.declared.control.AgendaOrder.TheVariants.{HighFirst}
use Rattle.rw_model.specs.declared.kind.Kind.{Kind}
use Rattle.rw_model.specs.declared.kind.Kind.TheVariants.{Bifurcation, Canal, Confluence, DataObject, Gage, Reach, Reservoir, WaterUser}
use Rattle.rw_model.specs.declared.kind.Supply.TheVariants.{Request}
use Rattle.rw_model.specs.declared.writer.Writer.TheVariants.{Object as ByObject}
use Rattle.rw_firing.specs.declared.look.Look.{Look}
use Rattle.rw_run.specs.declared.fault.RunFault.{RunFault}
use Rattle.rw_run.specs.declared.fault.RunFault.TheVariants.{Conflict}
use Rattle.rw_run.specs.Dispatch.{cell_at}
use Rattle.rw_run.specs.Log.{Asked, Event, opened, closed, idle, solved, fault}
use Rattle.rw_run.specs.Worked.{data_object_basin}
use Rattle.rw_dispatch.specs.Pick.{Picking}

-- two objects over one day, and a link between two of their slots
abbrev pub two_joined : Object → Object → ℕ → ℕ → Draft
two_joined one other slot there = record {
  control = (data_object_basin HighFirst 1).control;
  objects = one ∷ other ∷ [];
  links = (slot ∷ there ∷ []) ∷ [];
  bounds = [];
}

abbrev pub object_called : List ℕ → Kind → Object
object_called name kind = record { name = name; kind = kind }

-- a reservoir that stores so much at first: slots Inflow, Outflow, Storage, PoolElevation
abbrev pub reservoir : ℤ → List Row → Kind
reservoir storage rows = Reservoir storage (Some rows) false false false false None

-- ---- events

abbrev pub saw_slot : ℕ → Option ℤ → Look
saw_slot slot value = record { cell = cell_at slot 1; seen = value }

abbrev pub put_by_object : ℕ → ℕ → ℤ → Asked
put_by_object number slot value = record { cell = cell_at slot 1; content = record { value = value; number = 0; writer = ByObject (record { 0 = number }) } }

-- all that the object asks for is written
abbrev pub solves_all : ℕ → List Look → List Asked → Event
solves_all number looked puts = solved (record { object = number; step = 1; looked = looked; asked = puts; written = puts })

abbrev pub conflict_fault : ℕ → ℕ → ℤ → ℤ → RunFault
conflict_fault number slot there solves = Conflict (record { 0 = number }) (record { 0 = slot }) (record { 0 = 1 }) there solves

-- ---- a confluence, into which 3 and 4 flow, and the gage below it

abbrev pub chain : Draft
chain = two_joined (object_called (codes "C") Confluence) (object_called (codes "G") Gage) 3 4

abbrev pub chain_inputs : List (Cell × ℤ)
chain_inputs = (cell_at 1 1, pos 3) ∷ (cell_at 2 1, pos 4) ∷ []

abbrev pub chain_join : Event
chain_join = solves_all 1 (saw_slot 1 (Some (pos 3)) ∷ saw_slot 2 (Some (pos 4)) ∷ saw_slot 3 None ∷ []) (put_by_object 1 3 (pos 7) ∷ [])

abbrev pub chain_measure : Event
chain_measure = solves_all 2 (saw_slot 4 (Some (pos 7)) ∷ saw_slot 5 None ∷ []) (put_by_object 2 5 (pos 7) ∷ [])

abbrev pub chain_oldest : List Event
chain_oldest = opened 1 ∷ chain_join ∷ chain_measure ∷ closed 1 ∷ []

abbrev pub chain_newest : List Event
chain_newest = opened 1 ∷ idle 2 1 (saw_slot 4 None ∷ saw_slot 5 None ∷ []) ∷ chain_join ∷ chain_measure ∷ closed 1 ∷ []

-- the newest at first, and then the oldest
abbrev pub newest_first : Picking
newest_first zero waits = length waits - 1
newest_first (suc turn) waits = 0

-- ---- a gage, into which 2 flow, and a canal below it, out of which 1 flows

abbrev pub canal_below : ℕ → Draft
canal_below seepage = two_joined (object_called (codes "G") Gage) (object_called (codes "K") (Canal seepage)) 2 3

-- nothing seeps away
abbrev pub dry : Draft
dry = canal_below 0

-- half of it does
abbrev pub losing : Draft
losing = canal_below 500

abbrev pub losing_inputs : List (Cell × ℤ)
losing_inputs = (cell_at 1 1, pos 2) ∷ (cell_at 4 1, pos 1) ∷ []

abbrev pub losing_oldest : List Event
losing_oldest =
    opened 1 ∷
    solves_all 1 (saw_slot 1 (Some (pos 2)) ∷ saw_slot 2 None ∷ []) (put_by_object 1 2 (pos 2) ∷ []) ∷
    solves_all 2 (saw_slot 3 (Some (pos 2)) ∷ saw_slot 4 (Some (pos 1)) ∷ saw_slot 5 None ∷ []) (put_by_object 2 5 (pos 1) ∷ []) ∷
    closed 1 ∷ []

abbrev pub losing_fault : RunFault
losing_fault = conflict_fault 1 2 (pos 1) (pos 2)

abbrev pub losing_newest : List Event
losing_newest =
    opened 1 ∷
    solves_all 2 (saw_slot 3 None ∷ saw_slot 4 (Some (pos 1)) ∷ saw_slot 5 None ∷ []) (put_by_object 2 3 (pos 1) ∷ put_by_object 2 5 (pos 0) ∷ []) ∷
    fault losing_fault ∷ []

-- ---- two reservoirs whose elevations a link joins

abbrev pub pools : Draft
pools = two_joined (object_called (codes "A") (reservoir (pos 10) ((pos 0, pos 0) ∷ (pos 20, pos 20) ∷ [])))
    (object_called (codes "B") (reservoir (pos 5) ((pos 0, pos 0) ∷ (pos 20, pos 10) ∷ []))) 4 8

-- nothing flows in, and their storages stay
abbrev pub pools_inputs : List (Cell × ℤ)
pools_inputs = (cell_at 1 1, pos 0) ∷ (cell_at 3 1, pos 10) ∷ (cell_at 5 1, pos 0) ∷ (cell_at 7 1, pos 5) ∷ []

abbrev pub pools_oldest : List Event
pools_oldest =
    opened 1 ∷
    solves_all 1 (saw_slot 1 (Some (pos 0)) ∷ saw_slot 2 None ∷ saw_slot 3 (Some (pos 10)) ∷ saw_slot 4 None ∷ []) (put_by_object 1 2 (pos 0) ∷ put_by_object 1 4 (pos 10) ∷ []) ∷
    solves_all 2 (saw_slot 5 (Some (pos 0)) ∷ saw_slot 6 None ∷ saw_slot 7 (Some (pos 5)) ∷ saw_slot 8 (Some (pos 10)) ∷ []) (put_by_object 2 6 (pos 0) ∷ []) ∷
    closed 1 ∷ []

abbrev pub pools_fault : RunFault
pools_fault = conflict_fault 1 4 (pos 11) (pos 10)

abbrev pub pools_newest : List Event
pools_newest =
    opened 1 ∷
    solves_all 2 (saw_slot 5 (Some (pos 0)) ∷ saw_slot 6 None ∷ saw_slot 7 (Some (pos 5)) ∷ saw_slot 8 None ∷ []) (put_by_object 2 6 (pos 0) ∷ put_by_object 2 8 (pos 11) ∷ []) ∷
    fault pools_fault ∷ []

-- ---- two reservoirs whose storages a link joins

abbrev pub two_stores : Draft
two_stores = two_joined (object_called (codes "A") (reservoir (pos 3) ((pos 0, pos 0) ∷ (pos 10, pos 10) ∷ [])))
    (object_called (codes "B") (reservoir (pos 3) ((pos 0, pos 0) ∷ (pos 5, pos 10) ∷ []))) 3 7

-- nothing flows in, and their elevations are given
abbrev pub stores_inputs : List (Cell × ℤ)
stores_inputs = (cell_at 1 1, pos 0) ∷ (cell_at 4 1, pos 3) ∷ (cell_at 5 1, pos 0) ∷ (cell_at 8 1, pos 1) ∷ []

abbrev pub stores_oldest : List Event
stores_oldest =
    opened 1 ∷
    solves_all 1 (saw_slot 1 (Some (pos 0)) ∷ saw_slot 2 None ∷ saw_slot 3 None ∷ saw_slot 4 (Some (pos 3)) ∷ []) (put_by_object 1 2 (pos 0) ∷ put_by_object 1 3 (pos 3) ∷ []) ∷
    solves_all 2 (saw_slot 5 (Some (pos 0)) ∷ saw_slot 6 None ∷ saw_slot 7 (Some (pos 3)) ∷ saw_slot 8 (Some (pos 1)) ∷ []) (put_by_object 2 6 (pos 0) ∷ []) ∷
    closed 1 ∷ []

abbrev pub stores_fault : RunFault
stores_fault = conflict_fault 1 4 (pos 3) (pos 2)

abbrev pub stores_newest : List Event
stores_newest =
    opened 1 ∷
    solves_all 2 (saw_slot 5 (Some (pos 0)) ∷ saw_slot 6 None ∷ saw_slot 7 None ∷ saw_slot 8 (Some (pos 1)) ∷ []) (put_by_object 2 6 (pos 1) ∷ put_by_object 2 7 (pos 2) ∷ []) ∷
    fault stores_fault ∷ []

-- ---- a reservoir whose elevation a data object has too

abbrev pub gauged : Draft
gauged = two_joined (object_called (codes "A") (reservoir (pos 10) ((pos 0, pos 0) ∷ (pos 20, pos 20) ∷ [])))
    (object_called (codes "D") (DataObject (record { name = codes "Level"; dim = length_unit } ∷ []))) 4 5

-- ---- a valley: a reservoir, a reach, a confluence, a reservoir with a water user, a reach, a bifurcation and a gage

abbrev pub valley_objects : List Object
valley_objects =
    object_called (codes "U") (Reservoir (pos 5000) None false false false false None) ∷
    object_called (codes "R") (Reach 1 (pos 300 ∷ []) false false false) ∷
    object_called (codes "C") Confluence ∷
    object_called (codes "L") (Reservoir (pos 8000) None false true false false None) ∷
    object_called (codes "W") (WaterUser 400 Request) ∷
    object_called (codes "S") (Reach 0 [] false false true) ∷
    object_called (codes "B") Bifurcation ∷
    object_called (codes "G") Gage ∷ []

abbrev pub valley_links : List (List ℕ)
valley_links =
    (2 ∷ 4 ∷ []) ∷ (5 ∷ 6 ∷ []) ∷ (8 ∷ 9 ∷ []) ∷ (12 ∷ 14 ∷ []) ∷ (16 ∷ 19 ∷ []) ∷ (10 ∷ 17 ∷ []) ∷ (18 ∷ 20 ∷ []) ∷ (22 ∷ 23 ∷ []) ∷ []

abbrev pub valley : Draft
valley = record { control = (data_object_basin HighFirst 365).control; objects = valley_objects; links = valley_links; bounds = [] }

-- with an object of this kind below the bifurcation
abbrev pub valley_with : Kind → Draft
valley_with kind = record valley {
  objects = valley_objects ++ object_called (codes "K") kind ∷ [];
  links = valley_links ++ (21 ∷ 25 ∷ []) ∷ [];
}
