-- A closed timestep by itself: its events, and at what it looked with what that held before.
use Rattle.std.specs.Prelude.{◌≡◌, ◌↔◌, ℕ, ◌+◌, List, ◌∷◌, Contains}
use Rattle.std.specs.List.{flat_map}
use Rattle.rw_model.specs.Draft.{Draft}
use Rattle.rw_run.specs.Frame.{IsStepFrom, log_after}
use Rattle.rw_run.specs.Log.{Cells, Event, Log, opened}
use Rattle.rw_run.specs.Next.{Policy}
use Rattle.rw_run.specs.Runs.{Leads, rests, standing}
use Rattle.rw_run.specs.Step.{reached_by}
use Rattle.rw_run.specs.declared.held.Held.{Held}

-- behind a log that rests, the timestep after its last closed one is opened, and these events follow, of which the last closes it
pub record IsTimestep (basin : Draft) (policy : Policy) (step : ℕ) (old : Log) (first : Event) (events : List Event) : Type 0 where
  pub last : ℕ
  pub rest : standing old ≡ rests last
  pub next_one : step ≡ last + 1
  pub goes : IsStepFrom step first events
  pub leads : Leads basin policy (opened step ∷ old) (first ∷ events) (log_after (first ∷ events) (opened step ∷ old))

-- the cells at which these events looked or which their puts reach, each with what it held before them
abbrev pub AreLooked : Draft → Cells → List Event → List Held → Type 0
AreLooked basin before events looked =
    (held : Held) → Contains looked held ↔ (Contains (flat_map (reached_by basin) events) held.cell × (held.content ≡ before held.cell))
