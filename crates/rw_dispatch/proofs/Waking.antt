-- Whom a dispatch wakes, by what it writes.
use Rattle.rw_dispatch.proofs.Common.{Cell, List, Option, Some, [], ap, append-nil, arith, held, length, option_or, refl, subst, sym, ℕ}
use Rattle.rw_dispatch.proofs.Common.{◌++◌, ◌∙◌, ◌≡◌}
use Rattle.rw_model.specs.Draft.{Draft}
use Rattle.rw_firing.specs.declared.look.Look.{Look}
use Rattle.rw_run.specs.Log.{Asked, Event, last_put, written_by}
use Rattle.rw_run.specs.Waiting.{is_woken, queued_after, slots_at, woken}
use Rattle.rw_dispatch.specs.Answer.{event_of}
use Rattle.rw_dispatch.specs.declared.dispatched.Dispatched.{Dispatched}
use Rattle.rw_dispatch.specs.declared.dispatched.Dispatched.TheVariants.{Solved}
use Rattle.rw_dispatch.specs.Stage.{Leaves, RunStage}
use Rattle.rw_dispatch.proofs.Queues.{none_left, woken-unowned}

-- where nothing is written, nobody is woken
none_woken : (basin : Draft) (but : Option ℕ) (queue : List ℕ) → queue ≡ queue ++ woken basin but queue []
none_woken basin but queue =
    none_left (is_woken basin but queue []) 0 (length basin.objects) queue queue (omega arith)
    (λ object above known. woken-unowned basin but queue [] object refl) (sym (append-nil queue))

queue_after : (basin : Draft) (looked : List Look) (object step : ℕ) (answer : Dispatched) (queue : List ℕ)
    → queued_after basin (event_of basin looked object step answer) queue
    ≡ queue ++ woken basin (Some object) queue (slots_at step (written_by (event_of basin looked object step answer)))
queue_after basin looked object step (Solved asked written) queue = refl
queue_after basin looked object step answer queue = none_woken basin (Some object) queue

-- what an answer's event writes is made, and wakes those that it reaches
pub leaves_written : (basin : Draft) (looked : List Look) (object step : ℕ) (event : Event) (answer : Dispatched) (writes : List Asked)
    (old new : RunStage)
    → event ≡ event_of basin looked object step answer → writes ≡ written_by event
    → ((cell : Cell) → held new.series cell ≡ option_or (last_put basin writes cell) (held old.series cell))
    → new.queue.waiting ≡ old.queue.waiting ++ woken basin (Some object) old.queue.waiting (slots_at step writes) → Leaves basin event old new
leaves_written basin looked object step event answer writes old new is written cells queue =
    let waits = old.queue.waiting in record {
      cells = λ cell. cells cell ∙ ap (λ puts. option_or (last_put basin puts cell) (held old.series cell)) written;
      queue = queue ∙ ap (λ puts. waits ++ woken basin (Some object) waits (slots_at step puts)) written
          ∙ sym (subst (λ e. queued_after basin e waits ≡ waits ++ woken basin (Some object) waits (slots_at step (written_by e)))
          (sym is) (queue_after basin looked object step answer waits));
    }
