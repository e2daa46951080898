-- The names that proofs cite, passed on from one place. Declares nothing.
pub use Rattle.std.proofs.Math.Seq.{drop-cons}
pub use Rattle.std.proofs.lemmas.Bool.{not-true}
pub use Rattle.std.proofs.lemmas.List.Elements.{All-from_recursion}
pub use Rattle.std.proofs.lemmas.Option.{slice_get-get_or}
pub use Rattle.rw_base.proofs.Common.{*ℤ-zero, All, All-append, All-cons, All-contains, All-head, All-nil, All-tail, AllByRecursion, Bool, Contains}
pub use Rattle.rw_base.proofs.Common.{Decides-int_eq, IsSome, List, None, Option, Some, [], and_parts, ap, append-nil, append_assoc, ap₂, arith}
pub use Rattle.rw_base.proofs.Common.{both_ways, cases_Bool, cases_eq, cases_lt, codes, cond, drop, false, filter, filter-append, filter_passes, find}
pub use Rattle.rw_base.proofs.Common.{get_or-map-range_with_len, get_or_from_slice_get, get_or_past, if◌then◌else◌, inl, inr, int_eq, int_min, ints}
pub use Rattle.rw_base.proofs.Common.{is_some, length, length-map, length-range_with_len, list_all, list_any, list_any-from_Contains, list_any_at}
pub use Rattle.rw_base.proofs.Common.{map, max, nat_eq_equiv, nat_le, nat_lt, nat_tests, none-some, not, option_and_then, option_map, option_or, pos}
pub use Rattle.rw_base.proofs.Common.{range_with_len, recursion_from_All, refl, same_Some, slice_get, slice_get_within, slice_index_or, subst, suc}
pub use Rattle.rw_base.proofs.Common.{sym, true, unwrap_or, zero, ℕ, ℤ, ◌&&◌, ◌++◌, ◌+ℤ◌, ◌+◌, ◌-ℤ◌, ◌-◌, ◌<◌, ◌==◌, ◌||◌, ◌∙◌, ◌∷◌, ◌≡◌, ◌≢◌, ◌≤ℤ◌}
pub use Rattle.rw_base.proofs.Common.{◌≤◌, ◌⊎◌}
pub use Rattle.rw_base.proofs.Tests.{Decides-int_le}
pub use Rattle.rw_base.specs.Dimension.{Dimension, dimension}
pub use Rattle.rw_base.specs.declared.number.Cell.{Cell}
pub use Rattle.rw_base.specs.declared.number.ObjectNo.{ObjectNo}
pub use Rattle.rw_table.specs.Table.{Row}
pub use Rattle.rw_model.proofs.Bounding.{bounds_in-quantities, known_in_place}
pub use Rattle.rw_model.proofs.Grouping.{all_known, group_known}
pub use Rattle.rw_model.proofs.Numbered.{numbered-found, numbered-known}
pub use Rattle.rw_model.specs.Basin.{IsBasin, IsLink}
pub use Rattle.rw_model.specs.Before.{before_of}
pub use Rattle.rw_model.specs.Code.{code_of}
pub use Rattle.rw_model.specs.Draft.{Draft, IsSlot, IsSound as IsSoundObject}
pub use Rattle.rw_model.specs.Kind.{IsKind}
pub use Rattle.rw_model.specs.Links.{IsBetween, bounds_in, dim_of, group_of, is_among, is_same_link, is_together, link_from, link_of, owner_of}
pub use Rattle.rw_model.specs.Links.{slot_numbers}
pub use Rattle.rw_model.specs.Objects.{Object, Placed, all_slots, first_from, is_in_place, object_at, placed_from, slot_at, slot_in_place, slots_from}
pub use Rattle.rw_model.specs.Put.{end_of_put, is_same_object}
pub use Rattle.rw_model.specs.Slot.{Bounds, Slot, all_quantities, flow, lengths, of_range, rate_unit}
pub use Rattle.rw_model.specs.Slots.{slot_in, slots_of, where_chosen}
pub use Rattle.rw_model.specs.Turn.{is_data}
pub use Rattle.rw_model.specs.declared.content.Content.{Content}
pub use Rattle.rw_model.specs.declared.control.AgendaOrder.{AgendaOrder}
pub use Rattle.rw_model.specs.declared.control.AgendaOrder.TheVariants.{HighFirst, LowFirst}
pub use Rattle.rw_model.specs.declared.data_slots.DataSlot.{DataSlot}
pub use Rattle.rw_model.specs.declared.kind.Kind.{Kind}
pub use Rattle.rw_model.specs.declared.kind.Kind.TheVariants.{Bifurcation, Canal, Confluence, DataObject, Gage, PowerReservoir, Reach, Reservoir}
pub use Rattle.rw_model.specs.declared.kind.Kind.TheVariants.{RoutedReach, WaterUser}
pub use Rattle.rw_model.specs.declared.kind.Supply.TheVariants.{Request, Rule as ByRule}
pub use Rattle.rw_model.specs.declared.put.PutEnd.TheVariants.{Denied, Kept}
pub use Rattle.rw_model.specs.declared.role.Role.TheVariants.{Derived, Fixed, Neither}
pub use Rattle.rw_model.specs.declared.writer.Writer.TheVariants.{Input, Object as ByObject}
pub use Rattle.rw_method.proofs.Earlier.{some_ago}
pub use Rattle.rw_method.proofs.PutFacts.{first_fits}
pub use Rattle.rw_method.proofs.SolvedPuts.{IsPutOf, solve-puts}
pub use Rattle.rw_method.proofs.SolvedTerm.{solved_term}
pub use Rattle.rw_method.specs.Balance.{balance_of, value_if_chosen, evaporation_from, evaporation_of, side_flows, known_sum}
pub use Rattle.rw_method.specs.Contents.{agree, are_both_zero, basis_of, can_hold, contents_by, difference, disagreement, elevation_of}
pub use Rattle.rw_method.specs.Contents.{fault_of_basis, volume_of}
pub use Rattle.rw_method.specs.Puts.{beside_basis, beside_given, evaporation_put, held_by, is_bounded, known_after, level_puts, put, put_found}
pub use Rattle.rw_method.specs.Puts.{puts_of, release_puts, seepage_put, solved_put, user_puts}
pub use Rattle.rw_method.specs.Solving.{IsSolved, gives_way_before, greatest_beside, missing, net_of, priority_of, solved_balance, solved_at, solves}
pub use Rattle.rw_method.specs.Solving.{value_from_others, weakest}
pub use Rattle.rw_method.specs.Solve.{AllFit, all_or_misfit, answer, answer_of_puts, balanced_of, fault_of_contents, fault_of_past, first_fault}
pub use Rattle.rw_method.specs.Solve.{first_misfit, fits, or_else, solve_of, unless_faulty}
pub use Rattle.rw_method.specs.Term.{IsShare, brought, brought_by, per_mille}
pub use Rattle.rw_method.specs.View.{given, given_by, is_between, known, known_value}
pub use Rattle.rw_method.specs.declared.balanced.Balanced.{Balanced}
pub use Rattle.rw_method.specs.declared.balanced.Balanced.TheVariants.{Conflicts, Holds, Idle, Solves}
pub use Rattle.rw_method.specs.declared.basis.Basis.{Basis}
pub use Rattle.rw_method.specs.declared.basis.Basis.TheVariants.{Elevation, Nothing, Storage}
pub use Rattle.rw_method.specs.declared.given.Given.{Given}
pub use Rattle.rw_method.specs.declared.put.Put.{Put}
pub use Rattle.rw_method.specs.declared.share.Share.{Share}
pub use Rattle.rw_method.specs.declared.share.Share.TheVariants.{Brings, Conveys, Routes, Takes}
pub use Rattle.rw_method.specs.declared.solved.Solved.{Solved}
pub use Rattle.rw_method.specs.declared.solved.Solved.TheVariants.{Conflict, Idle as IdleAnswer, OutOfRange, Puts}
pub use Rattle.rw_method.specs.declared.term.Term.{Term}
pub use Rattle.rw_method.specs.declared.view.View.{View}
pub use Rattle.rw_series.proofs.Bounds.{bounds-shared}
pub use Rattle.rw_series.proofs.Sharing.{Shared-of, among_group, known_number, linked_alike, together_alike, together_turned}
pub use Rattle.rw_series.specs.Series.{is_shared}
pub use Rattle.rw_firing.specs.declared.look.Look.{Look}
pub use Rattle.rw_inputs.specs.Placings.{placings, placings_of, placings_to, if_placed}
pub use Rattle.rw_inputs.specs.Inputs.{Inputs, IsInputsOf, value_at}
pub use Rattle.rw_run.proofs.Lists.{any-times, times-numbers}
pub use Rattle.rw_run.proofs.Waits.{times-waiting}
pub use Rattle.rw_run.specs.Choice.{CanBeChosen, MayFollow, MayLead}
pub use Rattle.rw_method.specs.Past.{past_in}
pub use Rattle.rw_run.specs.Dispatch.{Past, answered, asked_by, asked_for, bounds_in_place, cell_at, cell_in, content_in, denied_by, dispatch_of}
pub use Rattle.rw_run.specs.Dispatch.{dispatched, end_in, is_written, judged, looks_of, or_fault, past_at, past_of, past_value, places, puts_written}
pub use Rattle.rw_run.specs.Dispatch.{solved_by, value_of_past, view_of}
pub use Rattle.rw_run.specs.Frame.{IsFault}
pub use Rattle.rw_run.specs.Log.{Asked, Cells, Event, Log, cells_of, closed, fault, fired, placed as given_to, held_after, idle, input_content}
pub use Rattle.rw_run.specs.Log.{is_number, last_put, opened, solved, value_in, written_by}
pub use Rattle.rw_run.specs.Next.{after_objects, agenda_of, asked_next, dispatches, is_due, no_rules}
pub use Rattle.rw_run.specs.RunOf.{end_of, last_closed}
pub use Rattle.rw_run.specs.Runs.{IsOver, IsRun, Leads, Standing, follows, follows_by, inside, over, with_inputs, rests, standing}
pub use Rattle.rw_run.specs.Times.{times}
pub use Rattle.rw_run.specs.Waiting.{ends_wait, first_of, is_at, is_put_at, is_since, numbers, since, waiting, waiting_below, wakes}
pub use Rattle.rw_run.specs.declared.fault.RunFault.TheVariants.{ObjectLimit}
pub use Rattle.rw_run.specs.declared.run.RunEnd.{RunEnd}
pub use Rattle.rw_run.specs.declared.run.RunEnd.TheVariants.{Fault as FaultEnd, Settled}
pub use Rattle.rw_dispatch.proofs.Viewed.{bounds-slot, bounds_at-view, has_slot, stands_in}
