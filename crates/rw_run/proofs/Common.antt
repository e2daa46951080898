-- The names that proofs cite, passed on from one place. Declares nothing.
pub use Rattle.rw_run.proofs.Lists.{any-times, times-append, times-filter, times-numbers}
pub use Rattle.rw_run.proofs.Ready.{AreReady, queued_after-ready}
pub use Rattle.rw_run.proofs.Waits.{idles, opens, solves}
pub use Rattle.rw_run.specs.Dispatch.{answered, asked_by, asked_for, bounds_in_place, cell_at, cell_in, content_in, denied_by, dispatch_of}
pub use Rattle.rw_run.specs.Dispatch.{dispatched, end_in, is_written, judged, looked_cells, looks_at, looks_of, or_fault, past_value, places}
pub use Rattle.rw_run.specs.Dispatch.{puts_written, slot_or_none, solved_by, view_of}
pub use Rattle.rw_run.specs.Log.{Asked, Cells, Dispatch, Event, Log, cells_of, closed, fault, placed, held_after, input_content, last_put, opened}
pub use Rattle.rw_run.specs.Log.{solved, value_in, written_by}
pub use Rattle.rw_run.specs.Next.{Policy, after_objects, agenda_of, count_if, dispatches, first_due, is_due, next, next_of, no_rules}
pub use Rattle.rw_run.specs.RunOf.{IsRunOf, end_of, last_closed, line_of, lines, trace_of}
pub use Rattle.rw_run.specs.Runs.{IsOver, IsRun, Leads, follows, follows_in, inside, with_inputs, rests, standing}
pub use Rattle.rw_run.specs.Times.{times}
pub use Rattle.rw_run.specs.Waiting.{all_waiting, first_of, first_waiting, is_but, is_owner, is_woken, numbers, queued_after, slots_at, waiting}
