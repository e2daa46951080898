-- The names that proofs cite, passed on from one place. Declares nothing.
pub use Rattle.rw_base.proofs.Common.{*ℤ-zero, *ℤ_comm, All, All-append, All-cons, All-contains, All-nil, All-push, AllByRecursion, Bool, Contains}
pub use Rattle.rw_base.proofs.Common.{Decides-eqb, Decides-int_eq, FitsSigned, IsSome, List, None, Option, Some, [], add-one, and_parts, ap}
pub use Rattle.rw_base.proofs.Common.{append_assoc, ap₂, arith, both_ways, cases_Bool, cases_lt, common_steps, cond_both, drop, drop-cons, false}
pub use Rattle.rw_base.proofs.Common.{get_or, if◌then◌else◌, inl, inr, int_eq, int_le, int_lt, int_max, ints, is_some, length, map, max, nat_le}
pub use Rattle.rw_base.proofs.Common.{nat_tests, neg_ℤ, none-some, not, of_z, option_and_then, option_map, pos, recursion_from_All, refl, rules}
pub use Rattle.rw_base.proofs.Common.{same_Some, subst, suc, suc_ℤ-*ℤ, sym, to_z, to_z-of_z, true, unsigned_abs, unwrap_or, w128, zero, ℕ, ℤ, ◌&&◌}
pub use Rattle.rw_base.proofs.Common.{◌*ℤ◌, ◌*◌, ◌++◌, ◌+ℤ◌, ◌+◌, ◌-ℤ◌, ◌-◌, ◌/◌, ◌<ℤ◌, ◌<◌, ◌==◌, ◌||◌, ◌∙◌, ◌∷◌, ◌≡◌, ◌≢◌, ◌≤ℤ◌, ◌≤◌, ◌⊎◌}
pub use Rattle.rw_base.specs.declared.number.ObjectNo.{ObjectNo}
pub use Rattle.rw_method.specs.Balance.{balance_of, value_if_chosen, content_before, evaporation_from, evaporation_of, power_balance, side_flows}
pub use Rattle.rw_method.specs.Balance.{known_sum}
pub use Rattle.rw_method.specs.Catalogue.{first_wrong}
pub use Rattle.rw_method.specs.Contents.{agree, are_both_zero, basis_of, can_hold, contents_by, difference, disagreement, elevation_of, evaporated}
pub use Rattle.rw_method.specs.Contents.{fault_of_basis, is_this, volume_of}
pub use Rattle.rw_method.specs.Past.{past_in}
pub use Rattle.rw_method.specs.Power.{HasNoRelease, IsLeastRelease, Plant, asked_of, energy_of, first_enough, head_from, head_of, is_enough}
pub use Rattle.rw_method.specs.Power.{least_release, outflow_of, outflow_or, plant, release_for, request_beside, request_of, requested}
pub use Rattle.rw_method.specs.Puts.{asked_number, asked_put, beside_basis, beside_given, content_put, energy_puts, evaporation_put, flow_puts}
pub use Rattle.rw_method.specs.Puts.{held_after_puts, held_by, is_bounded, known_after, level_puts, power_flows, power_puts, put, put_found, puts_of}
pub use Rattle.rw_method.specs.Puts.{release_puts, released_puts, seepage_put, solved_put, user_puts}
pub use Rattle.rw_method.specs.Solving.{GivesWay, IsGreatestBeside, HasNoLowerPriority, IsSolved, HasHigherPriority, gives_way_before}
pub use Rattle.rw_method.specs.Solving.{greatest_beside, missing}
pub use Rattle.rw_method.specs.Solving.{net_of, priority_of, solved_balance, solved_at, solves, value_from_others, weakest}
pub use Rattle.rw_method.specs.Solve.{AllFit, all_or_misfit, answer, answer_of_puts, balanced_of, fault_of_contents, fault_of_level, fault_of_past}
pub use Rattle.rw_method.specs.Solve.{fault_of_request, first_fault, first_misfit, fits, is_held, or_else, solve_of, unless_faulty}
pub use Rattle.rw_method.specs.Term.{IsShare, IsWithin, bringing, brought, brought_by, least_inflow, least_routed, per_mille}
pub use Rattle.rw_method.specs.View.{given, given_by, known, known_value}
pub use Rattle.rw_method.specs.declared.balanced.Balanced.TheVariants.{Conflicts, Holds, Idle, Solves}
pub use Rattle.rw_method.specs.declared.balanced.Balanced.{Balanced}
pub use Rattle.rw_method.specs.declared.basis.Basis.TheVariants.{Elevation, Nothing, Storage}
pub use Rattle.rw_method.specs.declared.basis.Basis.{Basis}
pub use Rattle.rw_method.specs.declared.given.Given.{Given}
pub use Rattle.rw_method.specs.declared.put.Put.{Put}
pub use Rattle.rw_method.specs.declared.share.Share.TheVariants.{Brings, Conveys, Routes, Takes}
pub use Rattle.rw_method.specs.declared.share.Share.{Share}
pub use Rattle.rw_method.specs.declared.solved.Solved.TheVariants.{Conflict, Idle as IdleAnswer, OutOfRange, Puts}
pub use Rattle.rw_method.specs.declared.solved.Solved.{Solved}
pub use Rattle.rw_method.specs.declared.term.Term.{Term}
pub use Rattle.rw_method.specs.declared.view.View.{View}
pub use Rattle.rw_model.proofs.Common.{IsKind, IsStored}
pub use Rattle.rw_model.specs.Code.{code_of}
pub use Rattle.rw_model.specs.Put.{is_same_object}
pub use Rattle.rw_model.specs.declared.content.Content.{Content}
pub use Rattle.rw_model.specs.declared.data_slots.DataSlot.{DataSlot}
pub use Rattle.rw_model.specs.declared.kind.Kind.TheVariants.{Bifurcation, Canal, Confluence, DataObject, Gage, PowerReservoir, Reach, Reservoir}
pub use Rattle.rw_model.specs.declared.kind.Kind.TheVariants.{RoutedReach, WaterUser}
pub use Rattle.rw_model.specs.declared.kind.Kind.{Kind}
pub use Rattle.rw_model.specs.declared.kind.Supply.TheVariants.{Request, Rule as ByRule}
pub use Rattle.rw_model.specs.declared.kind.Supply.{Supply}
pub use Rattle.rw_model.specs.declared.writer.Writer.TheVariants.{Object as ByObject}
pub use Rattle.rw_table.proofs.Elevation.{elev_held}
pub use Rattle.rw_table.proofs.Volume.{has_volume_inside}
pub use Rattle.rw_table.specs.Curve.{IsElevationInside, IsVolumeInside, elev_of, first_row, greatest_up_to, last_row, vol_of}
pub use Rattle.rw_table.specs.Table.{IsTable, Row}
pub use Rattle.std.proofs.lemmas.List.Elements.{Contains-append_cases, Contains-append_left, Contains-append_right, Contains-get_or}
pub use Rattle.std.proofs.lemmas.List.{append-nil, length-append}
pub use Rattle.std.specs.Int.{int_min}
