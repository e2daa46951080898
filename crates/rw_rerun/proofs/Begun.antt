-- First timesteps, behind other inputs.
use Rattle.rw_base.proofs.Common.{◌≡◌, ◌+◌, ◌∙◌, ℕ, Bool, true, false, List, [], ◌∷◌, Contains, None, option_or, refl, ap, arith}
use Rattle.std.proofs.lemmas.List.Elements.{Contains-append_left, Contains-append_right}
use Rattle.std.specs.List.{flat_map}
use Rattle.rw_base.specs.declared.number.Cell.{Cell}
use Rattle.rw_model.specs.Draft.{Draft}
use Rattle.rw_series.specs.Series.{is_shared}
use Rattle.rw_run.specs.Frame.{AreAlike, IsFramed, IsStepFrom, log_after, looked_in}
use Rattle.rw_run.specs.Log.{Asked, Event, Log, cells_of, last_put, opened, written_by}
use Rattle.rw_run.specs.Next.{Policy}
use Rattle.rw_run.specs.Runs.{Leads, rests, standing}
use Rattle.rw_run.specs.Step.{cells_reached, cells_with, reached_by}
use Rattle.rw_run.proofs.Agains.{alike_each, alike_events}
use Rattle.rw_record.proofs.Cells.{reached_at, shared_in}
use Rattle.rw_rerun.specs.Begun.{TimestepsGo, HoldAlike, Went, cells_put, cells_touched, events_in, log_behind}

pub alike_behind : (basin : Draft) (events : List Event) (one other : Log) (cell : Cell) → cells_of basin one cell ≡ cells_of basin other cell
    → cells_of basin (log_after events one) cell ≡ cells_of basin (log_after events other) cell
alike_behind basin [] one other cell same = same
alike_behind basin (event ∷ events) one other cell same =
    alike_behind basin events (event ∷ one) (event ∷ other) cell (ap (option_or (last_put basin (written_by event) cell)) same)

pub alike : (basin : Draft) (step : ℕ) (one other : Log) (steps : List Went) (cell : Cell) → cells_of basin one cell ≡ cells_of basin other cell
    → cells_of basin (log_behind step steps one) cell ≡ cells_of basin (log_behind step steps other) cell
alike basin step one other [] cell same = same
alike basin step one other (first ∷ steps) cell same =
    alike basin (step + 1) (log_after (events_in first) (opened step ∷ one)) (log_after (events_in first) (opened step ∷ other)) steps cell
    (alike_behind basin (events_in first) (opened step ∷ one) (opened step ∷ other) cell same)

-- ---- where nothing is put

-- to a cell that no put reaches nothing is put
unreached : (basin : Draft) (puts : List Asked) (cell : Cell) → ¬ Contains (cells_reached basin puts) cell → last_put basin puts cell ≡ None
unreached basin [] cell none = refl
unreached basin (put ∷ puts) cell none = rw (unreached basin puts cell later, by (is_shared basin put.cell cell) refl) refl
  where
    later : ¬ Contains (cells_reached basin puts) cell
    later has = none (Contains-append_right (cells_with basin put.cell) (cells_reached basin puts) cell has)

    by : (shared : Bool) → is_shared basin put.cell cell ≡ shared → shared ≡ false
    by false shared = refl
    by true shared = absurd (none (reached_at basin (put ∷ puts) put cell (0, omega arith, refl) (shared_in basin put.cell cell shared)))

abbrev put_by : Draft → Event → List Cell
put_by basin event = cells_reached basin (written_by event)

unmoved_behind : (basin : Draft) (events : List Event) (log : Log) (cell : Cell) → ¬ Contains (flat_map (put_by basin) events) cell
    → cells_of basin (log_after events log) cell ≡ cells_of basin log cell
unmoved_behind basin [] log cell none = refl
unmoved_behind basin (event ∷ events) log cell none =
    unmoved_behind basin events (event ∷ log) cell
    (λ has. none (Contains-append_right (put_by basin event) (flat_map (put_by basin) events) cell has))
    ∙ ap (λ put. option_or put (cells_of basin log cell))
    (unreached basin (written_by event) cell (λ has. none (Contains-append_left (put_by basin event) (flat_map (put_by basin) events) cell has)))

pub unmoved : (basin : Draft) (step : ℕ) (log : Log) (steps : List Went) (cell : Cell) → ¬ Contains (cells_put basin steps) cell
    → cells_of basin (log_behind step steps log) cell ≡ cells_of basin log cell
unmoved basin step log [] cell none = refl
unmoved basin step log (first ∷ steps) cell none =
    unmoved basin (step + 1) (log_after (events_in first) (opened step ∷ log)) steps cell
    (λ has. none (Contains-append_right (flat_map (put_by basin) (events_in first)) (cells_put basin steps) cell has))
    ∙ unmoved_behind basin (events_in first) (opened step ∷ log) cell
    (λ has. none (Contains-append_left (flat_map (put_by basin) (events_in first)) (cells_put basin steps) cell has))

-- ---- the timesteps

pub rests_behind : (step : ℕ) (event : Event) (events : List Event) (log : Log) → IsStepFrom step event events
    → standing (log_after (event ∷ events) log) ≡ rests step
rests_behind step event [] log goes = ap (λ e. standing (e ∷ log)) goes
rests_behind step event (next ∷ events) log goes = rests_behind step next events (event ∷ log) goes.1

-- by what is known of the events of one timestep
abbrev pub Reuses : Type 0
Reuses =
    (basin : Draft) (policy : Policy) (step : ℕ) (old other end : Log) (first : Event) (events : List Event) → IsFramed policy
    → IsStepFrom step first events
    → Leads basin policy (opened step ∷ old) (first ∷ events) end → AreAlike (cells_of basin old) (cells_of basin other) (looked_in (first ∷ events))
    → Leads basin policy (opened step ∷ other) (first ∷ events) (log_after (first ∷ events) (opened step ∷ other))

pub timesteps : Reuses → (basin : Draft) (policy : Policy) (step last : ℕ) (one other : Log) (steps : List Went) → IsFramed policy
    → TimestepsGo basin policy step steps one → standing other ≡ rests last → step ≡ last + 1 → HoldAlike basin one other (cells_touched basin steps)
    → TimestepsGo basin policy step steps other
timesteps reuse basin policy step last one other [] framed are rest next_one same = tt
timesteps reuse basin policy step last one other (first ∷ steps) framed are rest next_one same = (
  record {
    last = last;
    rest = rest;
    next_one = next_one;
    goes = are.0.goes;
    leads = reuse basin policy step one other (log_after (events_in first) (opened step ∷ one)) first.first first.events framed are.0.goes are.0.leads
        (alike_events basin (cells_of basin one) (cells_of basin other) (events_in first)
        (alike_each basin (cells_of basin one) (cells_of basin other) (events_in first)
        (λ cell has. same cell (Contains-append_left (flat_map (reached_by basin) (events_in first)) (cells_touched basin steps) cell has))));
  },
  timesteps reuse basin policy (step + 1) step (log_after (events_in first) (opened step ∷ one)) (log_after (events_in first) (opened step ∷ other))
      steps framed are.1
      (rests_behind step first.first first.events (opened step ∷ other) are.0.goes) refl
      (λ cell has. alike_behind basin (events_in first) (opened step ∷ one) (opened step ∷ other) cell
      (same cell (Contains-append_right (flat_map (reached_by basin) (events_in first)) (cells_touched basin steps) cell has))),
)
