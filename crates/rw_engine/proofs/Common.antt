-- The names that proofs cite, passed on from one place. Declares nothing.
pub use Rattle.rw_base.proofs.Common.{All, All-cons, All-head, All-nil, All-tail, Bool, IsSome, IsTrue, List, None, Ok, Option, Some, [], ap}
pub use Rattle.rw_base.proofs.Common.{append-nil, append_assoc, ap₂, arith, cons_option, false, filter_map, filter_map-append, get_or, if◌then◌else◌}
pub use Rattle.rw_base.proofs.Common.{length, length-set, list_any, map, nat_le, nat_lt, nat_tests, none-some, option_map, option_or, range_with_len}
pub use Rattle.rw_base.proofs.Common.{refl, rules, same_Some, set, slice_index_or, subst, suc, sym, take, true, unwrap_or, zero, ℕ, ℤ, ◌++◌, ◌+◌, ◌-◌}
pub use Rattle.rw_base.proofs.Common.{◌<◌, ◌==◌, ◌||◌, ◌∙◌, ◌∷◌, ◌≡◌, ◌≤◌}
pub use Rattle.rw_base.specs.declared.number.Cell.{Cell}
pub use Rattle.rw_dispatch.proofs.Makes.{AreBounded-put, put-set}
pub use Rattle.rw_dispatch.specs.Answer.{Tells, event_of, written_in}
pub use Rattle.rw_dispatch.specs.Stage.{AreBounded, IsHeldIn, IsStageOf, Leaves, stage}
pub use Rattle.rw_model.specs.Turn.{IsStep}
pub use Rattle.rw_dispatch.specs.declared.dispatch_end.DispatchEnd.{DispatchEnd}
pub use Rattle.rw_engine.specs.Counts.{HasCount, count_of_number, raised, room}
pub use Rattle.rw_engine.specs.Engine.{Engine}
pub use Rattle.rw_inputs.specs.Placings.{placings, placings_of, placings_to, if_placed}
pub use Rattle.rw_engine.specs.Held.{HoldsAll}
pub use Rattle.rw_engine.specs.Lines.{TraceGrows, fault_by, fault_of_rule, lines_by, lines_of_rule}
pub use Rattle.rw_engine.specs.Passing.{ComesTo, Passes}
pub use Rattle.rw_engine.specs.Shows.{IsBefore, IsEngineOf, Shows, closed_by}
pub use Rattle.rw_engine.specs.State.{DoesEvent, GoesByEvent, GoesToState, HoldsWithin, IsOnTheWay, IsRevocable, IsStill, IsWithinStep, KeepsWithin}
pub use Rattle.rw_engine.specs.State.{Reached, ended_by, ending, left, seen}
pub use Rattle.rw_engine.specs.declared.state.State.{State}
pub use Rattle.rw_inputs.specs.Inputs.{Inputs, IsInputsOf, value_at}
pub use Rattle.rw_method.specs.declared.put.Put.{Put}
pub use Rattle.rw_model.specs.Draft.{Draft, IsObject}
pub use Rattle.rw_model.specs.declared.control.RunControl.{RunControl}
pub use Rattle.rw_run.proofs.Common.{AreReady, Asked, Cells, Event, IsOver, IsRunOf, Leads, Log, Policy, all_waiting, asked_by, asked_for, cell_at}
pub use Rattle.rw_run.proofs.Common.{cell_in, cells_of, closed, count_if, dispatched, dispatches, end_of, fault, first_of, follows, follows_in}
pub use Rattle.rw_run.proofs.Common.{placed}
pub use Rattle.rw_run.proofs.Common.{held_after, idles, input_content, inside, last_closed, last_put, line_of, lines, looks_of, next, next_of}
pub use Rattle.rw_run.proofs.Common.{no_rules, opened, opens, with_inputs, places, queued_after, queued_after-ready, rests, solves, standing}
pub use Rattle.rw_run.proofs.Common.{trace_of}
pub use Rattle.rw_run.proofs.Common.{waiting, written_by}
pub use Rattle.rw_run.specs.declared.fault.RunFault.{RunFault}
pub use Rattle.rw_run.specs.declared.run.RunEnd.TheVariants.{Fault, Settled}
pub use Rattle.rw_series.specs.Series.{IsCell, IsSeriesOf, Series, Sets, held, is_shared}
pub use Rattle.rw_firing.specs.declared.look.Look.{Look}
pub use Rattle.std.proofs.Math.Numerals.{add-one}
