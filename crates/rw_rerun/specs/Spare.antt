-- An engine beside that of a session's run, from which the next run begins.
use Rattle.std.specs.Prelude.{◌≡◌, ◌≤◌, ◌<◌, ◌+◌, ℕ, if◌then◌else◌, List, [], ◌∷◌, length, option_map, drop, take, replicate, slice_get, Option, Some, None, IfSome, IsSome}
use Rattle.rw_base.specs.declared.number.Cell.{Cell}
use Rattle.rw_model.specs.Draft.{Draft}
use Rattle.rw_inputs.specs.Placings.{placings}
use Rattle.rw_inputs.specs.Inputs.{Inputs, value_at}
use Rattle.rw_series.specs.Series.{held, is_shared}
use Rattle.rw_run.specs.Log.{Cells, Log, input_content}
use Rattle.rw_run.specs.Next.{Policy}
use Rattle.rw_run.specs.Runs.{with_inputs}
use Rattle.rw_record.specs.Record.{StepRecord}
use Rattle.rw_engine.specs.Engine.{Engine}
use Rattle.rw_engine.specs.Shows.{CanReplay, IsEngineOf, KeepsOn, Shows}
use Rattle.rpl_verify.specs.Verified.{Accepted}
use Rattle.rw_rules.specs.Rules.{policy_in}
use Rattle.rw_rerun.specs.Begun.{HasTakenOver}
use Rattle.rw_rerun.specs.Kept.{AreStepLinks}
use Rattle.rw_rerun.specs.Session.{IsSessionOf, Session}
use Rattle.rw_rerun.specs.UnderWay.{IsUnderWay}
use Rattle.rw_rerun.specs.declared.pass.Pass.{Pass}
use Rattle.rw_rerun.specs.declared.spare.Spare.{Spare}

-- a run is on its way behind the timesteps that a spare engine has taken over
pub record BeginsBy (spare : Spare) (pass : Pass) : Type 0 where
  pub engine : pass.engine ≡ spare.engine
  pub none : pass.reran.items ≡ []
  pub unchanged : pass.changes.items ≡ replicate spare.behind None
  pub goes : (basin : Draft) (policy : Policy) (inputs : Inputs) (earlier log : Log) (was : List (Option StepRecord))
      → spare.behind ≤ length was → Shows basin spare.engine log
      → HasTakenOver basin policy inputs earlier (take spare.behind was) log spare.behind
      → IsUnderWay basin policy inputs earlier was pass spare.behind

-- ---- where it stands

-- it has come behind so many of the timesteps that lead from one log to another
pub record StandsIn (basin : Draft) (policy : Accepted) (start end : Log) (was : List (Option StepRecord)) (spare : Spare) : Type 0 where
  pub made : IsEngineOf basin policy spare.engine
  pub noted : IsSome spare.engine.noted
  pub few : spare.behind ≤ length was
  pub log : Log
  pub shows : Shows basin spare.engine log
  pub before : AreStepLinks basin (policy_in basin policy) 1 start (take spare.behind was) log
  pub rest : AreStepLinks basin (policy_in basin policy) (spare.behind + 1) log (drop spare.behind was) end

-- so in some run
pub record IsSpare (basin : Draft) (was : List (Option StepRecord)) (spare : Spare) : Type 0 where
  pub policy : Accepted
  pub start : Log
  pub end : Log
  pub stands : StandsIn basin policy start end was spare

-- so in some run of this policy
pub record IsSpareBy (basin : Draft) (policy : Accepted) (was : List (Option StepRecord)) (spare : Spare) : Type 0 where
  pub start : Log
  pub end : Log
  pub stands : StandsIn basin policy start end was spare

-- each timestep between these is kept
abbrev pub AreKeptFrom : List (Option StepRecord) → ℕ → ℕ → Type 0
AreKeptFrom was first last = (place : ℕ) (entry : Option StepRecord) → first ≤ place → place < last → slice_get was place ≡ Some entry → IsSome entry

-- there are so many first timesteps, and each of them is kept
pub record AreKeptFirst (was : List (Option StepRecord)) (behind : ℕ) : Type 0 where
  pub near : behind ≤ length was
  pub known : AreKeptFrom was 0 behind

-- a call brings it behind so many timesteps, in whatever run it stands
pub record BringsTo (basin : Draft) (was : List (Option StepRecord)) (behind : ℕ) (old new : Spare) : Type 0 where
  pub behind_is : new.behind ≡ behind
  pub kept : KeepsOn old.engine new.engine
  pub stands : (policy : Accepted) (start end : Log) → StandsIn basin policy start end was old → StandsIn basin policy start end was new

-- ---- what is given

-- what cells hold once each of these, with those that share its value, is given what the inputs give it
abbrev pub given_all : Draft → Inputs → List Cell → Cells → Cells
given_all basin inputs [] was other = was other
given_all basin inputs (cell ∷ cells) was other =
    given_all basin inputs cells
    (λ one. if is_shared basin cell one then option_map input_content (value_at inputs cell.slot.0 cell.step.0) else was one) other

-- a call gives all of these cells what the inputs give them, and leaves all else
pub record GivesAll (basin : Draft) (inputs : Inputs) (cells : List Cell) (old new : Engine) : Type 0 where
  pub made : (policy : Accepted) → IsEngineOf basin policy old → IsEngineOf basin policy new
  pub can : CanReplay basin new
  pub holds : (cell : Cell) → held new.series cell ≡ given_all basin inputs cells (held old.series) cell
  pub trace : new.trace ≡ old.trace
  pub noted : new.noted ≡ old.noted
  pub closed_steps : new.closed ≡ old.closed
  pub end : new.end ≡ old.end

-- ---- of a session

-- it stands in the session's run, behind timesteps of which each is kept
pub record IsSpareIn (basin : Draft) (policy : Accepted) (session : Session) (log : Log) (spare : Spare) : Type 0 where
  pub stands : StandsIn basin policy (with_inputs [] (placings basin session.inputs)) log session.kept spare
  pub known : AreKeptFrom session.kept 0 spare.behind
  pub kept : KeepsOn session.engine spare.engine

-- so does a spare engine, if there is one
abbrev pub MayBeSpare : Session → Option Spare → Type 0
MayBeSpare session spare =
    (is : IsSessionOf session.basin session.policy session) → IfSome spare (IsSpareIn session.basin session.policy session is.log)
