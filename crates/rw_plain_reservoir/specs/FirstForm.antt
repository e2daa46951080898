-- The first form of models and inputs: one reservoir whose inflow and outflow are given.
use Rattle.std.specs.Prelude.{◌≡◌, ℕ, ◌+◌, ◌<◌, ℤ, pos, List, [], ◌∷◌, length, Some, None, false}
use Rattle.std.specs.List.{slice_index_or}
use Rattle.rw_calendar.specs.Stamps.{Timesteps}
use Rattle.rw_model.specs.declared.kind.Kind.TheVariants.{Reservoir}
use Rattle.rw_model.specs.Slot.{from_zero}
use Rattle.rw_model.specs.Objects.{Object}
use Rattle.rw_model.specs.Draft.{Draft}
use Rattle.rw_model.specs.Links.{bounds_in}
use Rattle.rw_inputs.specs.Inputs.{Inputs, value_at}

-- one reservoir: its name, its initial storage in m3, and the timesteps of the run
pub record FirstModel : Type 0 where
  pub name : List ℕ
  pub initial : ℤ
  pub run : Timesteps

-- a reservoir without a table, side flows, evaporation and a greatest release
abbrev pub plain_reservoir : List ℕ → ℤ → Object
plain_reservoir name initial = record { name = name; kind = Reservoir initial None false false false false None }

-- the basin is that reservoir alone, and its storage can be any quantity from 0 on
pub record IsFirstForm (draft : Draft) (model : FirstModel) : Type 0 where
  pub alone : draft.objects ≡ plain_reservoir model.name model.initial ∷ []
  pub storage : bounds_in draft.objects draft.links draft.bounds 3 ≡ from_zero
  pub run : draft.control.stamps ≡ model.run

-- the values of a slot, one for each of so many timesteps
pub record IsFirstColumn (inputs : Inputs) (slot steps : ℕ) (values : List ℤ) : Type 0 where
  pub count : length values ≡ steps
  pub each : (t : ℕ) → t < steps → value_at inputs slot (t + 1) ≡ Some (slice_index_or values t (pos 0))

-- an inflow and an outflow for each timestep, and no storage
pub record IsFirstFlows (inputs : Inputs) (steps : ℕ) (inflows outflows : List ℤ) : Type 0 where
  pub inflow : IsFirstColumn inputs 1 steps inflows
  pub outflow : IsFirstColumn inputs 2 steps outflows
  pub storage : (t : ℕ) → t < steps → value_at inputs 3 (t + 1) ≡ None
