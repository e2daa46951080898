-- The log of the inputs, and logs between timesteps.
use Rattle.rw_base.proofs.Common.{◌≡◌, ◌∙◌, ◌∷◌, ℕ, ℤ, List, [], append-nil, refl}
use Rattle.rw_base.specs.declared.number.Cell.{Cell}
use Rattle.rw_run.specs.Log.{Log, fault, placed}
use Rattle.rw_run.specs.RunOf.{end_of, last_closed, trace_of}
use Rattle.rw_run.specs.Runs.{with_inputs, rests, standing}
use Rattle.rw_run.specs.declared.run.RunEnd.TheVariants.{Settled}

pub trace-placed : (log : Log) (inputs : List (Cell × ℤ)) → trace_of (with_inputs log inputs) ≡ trace_of log
trace-placed log [] = refl
trace-placed log (input ∷ inputs) = trace-placed (placed input.0 input.1 ∷ log) inputs ∙ append-nil (trace_of log)

pub closed-placed : (log : Log) (inputs : List (Cell × ℤ)) → last_closed (with_inputs log inputs) ≡ last_closed log
closed-placed log [] = refl
closed-placed log (input ∷ inputs) = closed-placed (placed input.0 input.1 ∷ log) inputs

pub end-placed : (log : Log) (inputs : List (Cell × ℤ)) → end_of log ≡ Settled → end_of (with_inputs log inputs) ≡ Settled
end-placed log [] is = is
end-placed log (input ∷ inputs) is = end-placed (placed input.0 input.1 ∷ log) inputs refl

pub standing-placed : (log : Log) (inputs : List (Cell × ℤ)) → standing log ≡ rests 0 → standing (with_inputs log inputs) ≡ rests 0
standing-placed log [] is = is
standing-placed log (input ∷ inputs) is = standing-placed (placed input.0 input.1 ∷ log) inputs refl

-- a log between timesteps has no fault
pub settled_at_rest : (log : Log) (step : ℕ) → standing log ≡ rests step → end_of log ≡ Settled
settled_at_rest [] step is = refl
settled_at_rest (fault why ∷ log) step is = absurd (cc)
settled_at_rest (event ∷ log) step is = refl
