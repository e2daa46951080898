-- What a dispatch of an object answers, from what stands in its slots.
use Rattle.std.specs.Prelude.{◌≡◌, ◌==◌, if◌then◌else◌, ℤ, Bool, true, not, ◌&&◌, List, [], ◌∷◌, Option, None, Some, is_some}
use Rattle.rw_table.specs.Table.{Row}
use Rattle.rw_model.specs.declared.content.Content.{Content}
use Rattle.rw_model.specs.declared.kind.Kind.{Kind}
use Rattle.rw_model.specs.declared.kind.Kind.TheVariants.{Reservoir, PowerReservoir}
use Rattle.rw_method.specs.declared.places.TheConstants.{ENERGY_REQUEST, POOL_ELEVATION, STORAGE}
use Rattle.rw_method.specs.declared.put.Put.{Put}
use Rattle.rw_method.specs.declared.solved.Solved.{Solved}
use Rattle.rw_method.specs.declared.solved.Solved.TheVariants.{Idle, Puts, Conflict, OutOfRange}
use Rattle.rw_method.specs.declared.balanced.Balanced.{Balanced}
use Rattle.rw_method.specs.declared.view.View.{View}
use Rattle.rw_method.specs.View.{given}
use Rattle.rw_method.specs.Contents.{basis_of, fault_of_basis, disagreement, can_hold}
use Rattle.rw_method.specs.Power.{Plant, plant, release_for, request_of}
use Rattle.rw_method.specs.Balance.{balance_of}
use Rattle.rw_method.specs.Solving.{solved_balance}
use Rattle.rw_method.specs.Puts.{puts_of, is_bounded}

-- the first of two faults
abbrev pub or_else : Option Solved → Option Solved → Option Solved
or_else None later = later
or_else (Some fault) later = Some fault

-- where evaporation is chosen, the storage before has to have an elevation
abbrev pub fault_of_past : Bool → Option (List Row) → Option ℤ → Option Solved
fault_of_past evaporation table None = None
fault_of_past evaporation table (Some storage) =
    if evaporation && not (can_hold table storage) then Some (OutOfRange STORAGE storage) else None

-- what is wrong with a storage and an elevation that are given
abbrev pub fault_of_level : Option (List Row) → View → Option Solved
fault_of_level table view =
    or_else (fault_of_basis table (basis_of (given view STORAGE) (given view POOL_ELEVATION)))
    (disagreement table (given view STORAGE) (given view POOL_ELEVATION))

-- what is wrong with what a reservoir holds, before its balance is looked at
abbrev pub fault_of_contents : Kind → View → Option Solved
fault_of_contents (Reservoir initial_storage table local_inflow diversion return_flow evaporation max_release) view =
    or_else (fault_of_past evaporation table view.past) (fault_of_level table view)
fault_of_contents (PowerReservoir initial_storage table max_release tailwater power) view = fault_of_level (Some table) view
fault_of_contents kind view = None

-- a request that counts, and that no release gives
abbrev pub fault_of_request : Plant → View → Option Content → Option Solved
fault_of_request plant view None = None
fault_of_request plant view (Some request) =
    if is_some (release_for plant view request) then None else Some (OutOfRange ENERGY_REQUEST request.value)

-- the storage before has no elevation, or no release gives what is requested
abbrev pub fault_of_power : Plant → View → Option Solved
fault_of_power plant view =
    or_else (fault_of_past true (Some plant.table) view.past) (fault_of_request plant view (request_of view))

-- what is wrong before all else, even where too little is known
abbrev pub first_fault : Kind → View → Option Solved
first_fault (PowerReservoir initial_storage table max_release tailwater power) view =
    fault_of_power (plant table max_release tailwater power) view
first_fault kind view = None

-- whether a storage that is put is one that the reservoir can hold
abbrev pub is_held : Kind → Put → Bool
is_held (Reservoir initial_storage table local_inflow diversion return_flow evaporation max_release) put =
    if put.place == STORAGE then can_hold table put.value else true
is_held (PowerReservoir initial_storage table max_release tailwater power) put =
    if put.place == STORAGE then can_hold (Some table) put.value else true
is_held kind put = true

-- a put can be held, and is a quantity within its slot's bounds
abbrev pub fits : Kind → View → Put → Bool
fits kind view put = is_held kind put && is_bounded view put

abbrev pub first_misfit : (Put → Bool) → List Put → Option Put
first_misfit fit [] = None
first_misfit fit (put ∷ puts) = if fit put then first_misfit fit puts else Some put

-- every put fits
abbrev pub AllFit : (Put → Bool) → List Put → Type 0
AllFit fit puts = first_misfit fit puts ≡ None

-- all puts, or the first that doesn't fit
abbrev pub all_or_misfit : List Put → Option Put → Solved
all_or_misfit puts None = Puts puts
all_or_misfit puts (Some put) = OutOfRange put.place put.value

abbrev pub answer_of_puts : (Put → Bool) → List Put → Solved
answer_of_puts fit puts = all_or_misfit puts (first_misfit fit puts)

-- too little is known; or else something is wrong with the contents; or else the terms conflict; or else the puts are judged
abbrev pub answer : (Put → Bool) → List Put → Balanced → Option Solved → Solved
answer fit puts Balanced.Idle fault = Idle
answer fit puts balanced (Some fault) = fault
answer fit puts (Balanced.Conflicts place held solved) None = Conflict place held solved
answer fit puts balanced None = answer_of_puts fit puts

-- what the balance comes to
abbrev pub balanced_of : Kind → View → Balanced
balanced_of kind view = solved_balance (balance_of kind view).steady (balance_of kind view).terms

-- a fault before all else, or what is answered then
abbrev pub unless_faulty : Option Solved → Solved → Solved
unless_faulty None solved = solved
unless_faulty (Some fault) solved = fault

-- what a dispatch of an object of this kind answers from this view
abbrev pub solve_of : Kind → View → Solved
solve_of kind view =
    unless_faulty (first_fault kind view)
    (answer (fits kind view) (puts_of kind view (balanced_of kind view)) (balanced_of kind view) (fault_of_contents kind view))
