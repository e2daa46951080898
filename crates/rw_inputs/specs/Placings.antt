-- The inputs in the order in which a run places them: slot by slot, and for each slot timestep by timestep.
use Rattle.std.specs.Prelude.{ℕ, zero, suc, ℤ, List, [], ◌∷◌, ◌++◌, length, Option, Some, None}
use Rattle.rw_base.specs.declared.number.Cell.{Cell}
use Rattle.rw_model.specs.Draft.{Draft}
use Rattle.rw_model.specs.Objects.{all_slots}
use Rattle.rw_inputs.specs.Inputs.{Inputs, value_at}

abbrev pub if_placed : ℕ → ℕ → Option ℤ → List (Cell × ℤ)
if_placed slot step None = []
if_placed slot step (Some value) = (record { slot = record { 0 = slot }; step = record { 0 = step } }, value) ∷ []

-- what is placed in a slot in the first timesteps
abbrev pub placings_of : Inputs → ℕ → ℕ → List (Cell × ℤ)
placings_of inputs slot zero = []
placings_of inputs slot (suc step) = placings_of inputs slot step ++ if_placed slot (suc step) (value_at inputs slot (suc step))

-- what is placed in the first slots in so many timesteps
abbrev pub placings_to : Inputs → ℕ → ℕ → List (Cell × ℤ)
placings_to inputs zero steps = []
placings_to inputs (suc slot) steps = placings_to inputs slot steps ++ placings_of inputs (suc slot) steps

-- all that is placed
abbrev pub placings : Draft → Inputs → List (Cell × ℤ)
placings basin inputs = placings_to inputs (length (all_slots basin.objects)) basin.control.stamps.count
