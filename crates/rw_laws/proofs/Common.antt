-- The names that proofs cite, passed on from one place. Declares nothing.
pub use Rattle.std.proofs.lemmas.List.{get_or_past}
pub use Rattle.std.proofs.lemmas.Map.Keys.{IsDistinct-head, IsDistinct-tail}
pub use Rattle.std.specs.List.{IsDistinct}
pub use Rattle.rw_base.proofs.Common.{All, All-cons, All-nil, AllByRecursion, Bool, Contains, Decides-int_eq, List, None, Option, Some, [], and_parts}
pub use Rattle.rw_base.proofs.Common.{ap, ap₂, arith, cond, false, filter, find, get_or_from_slice_get, if◌then◌else◌, inl, inr, is_some, length}
pub use Rattle.rw_base.proofs.Common.{length-map, length-range_with_len, list_any, map, nat_le, nat_lt, nat_tests, none-some, not, option_and_then}
pub use Rattle.rw_base.proofs.Common.{option_map, option_or, pos, recursion_from_All, refl, same_Some, slice_get, slice_get_within, subst, suc, sym}
pub use Rattle.rw_base.proofs.Common.{true, unwrap_or, ℕ, ℤ, ◌&&◌, ◌+◌, ◌-ℤ◌, ◌-◌, ◌<◌, ◌==◌, ◌||◌, ◌∙◌, ◌∷◌, ◌≡◌, ◌≢◌, ◌≤◌, ◌⊎◌}
pub use Rattle.rw_base.specs.declared.number.Cell.{Cell}
pub use Rattle.rw_model.proofs.Common.{IsBasin, IsKind, Object, Placed, all_slots, before_of, first_from, is_in_place, known_in_place, numbered-known}
pub use Rattle.rw_model.proofs.Common.{object_at, slot_at, slot_in, slot_in_place}
pub use Rattle.rw_model.specs.Basin.{IsLink}
pub use Rattle.rw_model.specs.Code.{code_of}
pub use Rattle.rw_model.specs.Draft.{Draft, IsSlot, IsSound}
pub use Rattle.rw_model.specs.Links.{group_of, is_among, is_same_link, is_together, link_from, link_of, owner_of}
pub use Rattle.rw_model.specs.Put.{end_of_put, is_same_object, is_value_kept}
pub use Rattle.rw_model.specs.Turn.{is_data}
pub use Rattle.rw_model.specs.declared.content.Content.{Content}
pub use Rattle.rw_model.specs.declared.kind.Kind.{Kind}
pub use Rattle.rw_model.specs.declared.put.PutEnd.{PutEnd}
pub use Rattle.rw_model.specs.declared.put.PutEnd.TheVariants.{Denied, Kept, Written}
pub use Rattle.rw_model.specs.declared.writer.Writer.{Writer}
pub use Rattle.rw_model.specs.declared.writer.Writer.TheVariants.{Input, Object as ByObject, Rule}
pub use Rattle.rw_base.proofs.Lists.{weaker_all, both_all, mapped_all, some_there}
pub use Rattle.rw_method.proofs.Among.{Among, all_among, all_at, all_mapped, among, contains}
pub use Rattle.rw_method.proofs.Earlier.{some_ago}
pub use Rattle.rw_method.proofs.Idling.{idle_balanced}
pub use Rattle.rw_method.proofs.Leaving.{left_begins, left_by_others}
pub use Rattle.rw_method.proofs.LeftKept.{left_by_own, own_puts_fall, puts_are_apart}
pub use Rattle.rw_method.proofs.SolvedBalance.{data_balanced, solved_balanced}
pub use Rattle.rw_method.specs.Balanced.{IsBalanced}
pub use Rattle.rw_method.specs.Left.{Left}
pub use Rattle.rw_method.specs.Passing.{IsAfterOthers, IsAfterOwn, IsPutKept, IsOwnFall, IsReplaced, IsWritten}
pub use Rattle.rw_method.specs.Past.{past_in}
pub use Rattle.rw_method.proofs.SolvedPuts.{IsPutOf, solve-puts}
pub use Rattle.rw_method.specs.Solve.{solve_of}
pub use Rattle.rw_method.specs.View.{known}
pub use Rattle.rw_method.specs.declared.put.Put.{Put}
pub use Rattle.rw_method.specs.declared.solved.Solved.{Solved}
pub use Rattle.rw_method.specs.declared.solved.Solved.TheVariants.{Puts}
pub use Rattle.rw_method.specs.declared.view.View.{View}
pub use Rattle.rw_series.proofs.Sharing.{Shared-of, among_group, known_number, linked_alike, same_turned, together_alike, together_turned}
pub use Rattle.rw_firing.specs.Fire.{Fire}
pub use Rattle.rw_series.specs.Series.{held, is_shared}
pub use Rattle.rw_firing.specs.declared.fire.FireEnd.{FireEnd}
pub use Rattle.rw_firing.specs.declared.fire.FireEnd.TheVariants.{Done, OutOfRange as EndsOutside, Unknown, ZeroDivisor as DividesByZero}
pub use Rattle.rw_firing.specs.declared.fire.RulePut.{RulePut}
pub use Rattle.rw_firing.specs.declared.look.Look.{Look}
pub use Rattle.rw_run.proofs.Lists.{times-numbers}
pub use Rattle.rw_run.proofs.SameRuns.{due_is_rule, on_agenda}
pub use Rattle.rw_run.proofs.Sinces.{none_bits}
pub use Rattle.rw_run.proofs.Placed.{closed-placed, standing-placed}
pub use Rattle.rw_run.proofs.Waits.{times-waiting}
pub use Rattle.rw_run.specs.Dispatch.{Past, answered, asked_by, asked_for, cell_at, content_in, denied_by, dispatch_of, dispatched, end_in}
pub use Rattle.rw_run.specs.Dispatch.{is_written, judged, looks_at, looks_of, or_fault, past_at, past_of, past_value, places, puts_written, solved_by}
pub use Rattle.rw_run.specs.Dispatch.{value_of_past, view_of}
pub use Rattle.rw_run.specs.Frame.{AreAlike, IsFault, cells_looked}
pub use Rattle.rw_run.specs.Log.{Asked, Cells, Event, Firing, Log, cells_of, closed, fault, fired, idle, input_content, last_put, opened, value_in}
pub use Rattle.rw_run.specs.Log.{written_by}
pub use Rattle.rw_run.specs.Next.{Policy, after_objects, agenda_of, asked_by_rule, asked_of_rule, dispatches, ended, firing_of, firings, first_due}
pub use Rattle.rw_run.specs.Next.{is_changed, is_due, is_put_again, last_firing, last_ones, next_of}
pub use Rattle.rw_run.specs.Policy.{CanAsk, IsPolicyOf, IsRule}
pub use Rattle.rw_run.specs.RunOf.{IsRunOf, last_closed}
pub use Rattle.rw_run.specs.Choice.{CanBeChosen, MayFollow, MayLead}
pub use Rattle.rw_run.specs.Runs.{IsRun, Standing, follows_by, inside, over, with_inputs, rests, standing}
pub use Rattle.rw_laws.specs.AnyOrder.{IsLed}
pub use Rattle.rw_run.specs.Step.{before_closing, is_closing}
pub use Rattle.rw_run.specs.Times.{times}
pub use Rattle.rw_run.specs.Waiting.{ends_wait, is_at, is_put_at, numbers, since, waiting, wakes}
pub use Rattle.rw_run.specs.declared.fault.RunFault.TheVariants.{ObjectLimit, RuleLimit}
pub use Rattle.rw_run.specs.declared.run.Run.{Run}
pub use Rattle.rw_dispatch.proofs.Viewed.{has_slot, known-view}
