-- The lines of a trace for a dispatch or a firing that ended so, and the fault that it is.
use Rattle.std.specs.Prelude.{ℕ, Bool, true, false, List, [], ◌∷◌, ◌≡◌, map, Option, Some, None, IsSome, IfOk, IfErr, Result}
use Rattle.rw_base.specs.declared.memory.NoMemory.{NoMemory}
use Rattle.rw_run.specs.declared.fault.RunFault.{RunFault}
use Rattle.rw_run.specs.declared.fault.RunFault.TheVariants.{Conflict, ObjectOutOfRange, ZeroDivisor, RuleOutOfRange}
use Rattle.rw_firing.specs.declared.fire.FireEnd.{FireEnd}
use Rattle.rw_firing.specs.declared.fire.FireEnd.TheVariants.{Done, Unknown, ZeroDivisor as DividesByZero, OutOfRange}
use Rattle.rw_run.specs.declared.trace.TraceEvent.{TraceEvent}
use Rattle.rw_run.specs.declared.trace.TraceEvent.TheVariants.{Idle, Solve, Fire, Fault}
use Rattle.rw_run.specs.Log.{Asked}
use Rattle.rw_run.specs.RunOf.{line_of}
use Rattle.rw_run.specs.Trace.{told}
use Rattle.rw_dispatch.specs.declared.dispatch_end.DispatchEnd.{DispatchEnd}
use Rattle.rw_dispatch.specs.declared.dispatch_end.DispatchEnd.TheVariants.{Idle as IsIdle, Solved as IsSolved, Conflict as IsConflict, OutOfRange as IsOutOfRange}

-- the fault that it is, if it is one
abbrev pub fault_by : ℕ → ℕ → DispatchEnd → Option RunFault
fault_by object step IsIdle = None
fault_by object step IsSolved = None
fault_by object step (IsConflict slot held solved) = Some (Conflict (record { 0 = object }) slot (record { 0 = step }) held solved)
fault_by object step (IsOutOfRange slot value) = Some (ObjectOutOfRange (record { 0 = object }) slot (record { 0 = step }) value)

abbrev pub fault_line : Option RunFault → List TraceEvent
fault_line None = []
fault_line (Some fault) = Fault fault ∷ []

-- a fault has its line alone
abbrev pub by_fault : Option RunFault → List TraceEvent → List TraceEvent
by_fault None lines = lines
by_fault (Some fault) lines = Fault fault ∷ []

-- its lines, where these are written
abbrev pub lines_by : ℕ → ℕ → DispatchEnd → List Asked → List TraceEvent
lines_by object step IsIdle writes = Idle (record { 0 = object }) ∷ []
lines_by object step IsSolved writes = Solve (record { 0 = object }) ∷ map line_of writes
lines_by object step (IsConflict slot held solved) writes = fault_line (fault_by object step (IsConflict slot held solved))
lines_by object step (IsOutOfRange slot value) writes = fault_line (fault_by object step (IsOutOfRange slot value))

-- the fault that a firing of a rule is, if it is one
abbrev pub fault_of_rule : ℕ → ℕ → FireEnd → Option RunFault
fault_of_rule rule step Done = None
fault_of_rule rule step Unknown = None
fault_of_rule rule step DividesByZero = Some (ZeroDivisor (record { 0 = rule }) (record { 0 = step }))
fault_of_rule rule step (OutOfRange value) = Some (RuleOutOfRange (record { 0 = rule }) (record { 0 = step }) value)

abbrev pub is_done : FireEnd → Bool
is_done Done = true
is_done end = false

-- the lines of a firing that ended so after so many units, where these are written
abbrev pub lines_of_rule : ℕ → ℕ → FireEnd → ℕ → List Asked → List TraceEvent
lines_of_rule rule step end count writes = by_fault (fault_of_rule rule step end) (Fire (record { 0 = rule }) (is_done end) count ∷ map line_of writes)

-- the second trace is the first with more lines
abbrev pub TraceGrows : Option (List TraceEvent) → Option (List TraceEvent) → Type 0
TraceGrows old new = (more : List TraceEvent) × (new ≡ told old more)

-- a call tells these lines to a trace, and to the lines of its timestep, or as many as memory is there for
pub record TellsBoth (more : List TraceEvent) (trace lines new_trace new_lines : Option (List TraceEvent)) (result : Result (Unit {0}) NoMemory) : Type 0 where
  pub said : IfOk result (λ done. new_trace ≡ told trace more)
  pub noted : IfOk result (λ done. new_lines ≡ told lines more)
  pub grows : TraceGrows trace new_trace
  pub adds : TraceGrows lines new_lines
  pub wants : IfErr result (λ fault. IsSome lines)
