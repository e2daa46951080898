-- The names that proofs cite, passed on from one place. Declares nothing.
pub use Rattle.rw_base.proofs.Common.{All, Bool, Contains, Contains-from_any, IfOk, IsDistinct-push, IsFalse, IsSome, IsTrue, List, None, Option}
pub use Rattle.rw_base.proofs.Common.{Some, [], and_parts, ap, append-nil, append_assoc, ap₂, arith, cases_Bool, drop, drop-cons, false, false≢true}
pub use Rattle.rw_base.proofs.Common.{get_or_past, nat_le, nat_lt, cases_lt, get_or_default, get_or_from_slice_get, slice_get_within}
pub use Rattle.rw_base.proofs.Common.{take-append-drop, get_or-set_other, get_or-set_same, replicate, set, take_all, take_more, take-add, drop-drop}
pub use Rattle.rw_base.proofs.Common.{length-drop, length-take, slice_get, slice_get-get_or, none-some, if◌then◌else◌, inl, inr, length, length-map}
pub use Rattle.rw_base.proofs.Common.{length-replicate, list_any, list_any-append, list_any-from_Contains, list_any_at, map, map-append, nat_eq_equiv}
pub use Rattle.rw_base.proofs.Common.{nat_tests, option_map, option_or, refl, rules, slice_index_or, subst, suc, sym, take, true, zero, ℕ, ◌&&◌, ◌*◌}
pub use Rattle.rw_base.proofs.Common.{◌++◌, ◌+◌, ◌-◌, ◌<◌, ◌==◌, ◌||◌, ◌↔◌, ◌∙◌, ◌∷◌, ◌≡◌, ◌≢◌, ◌≤◌, ◌⊎◌}
pub use Rattle.std.proofs.lemmas.Bool.{or_cases}
pub use Rattle.std.proofs.lemmas.List.{drop_more}
pub use Rattle.std.proofs.lemmas.Grind.{flat_map-append}
pub use Rattle.std.proofs.lemmas.List.Elements.{Contains-append_cases, Contains-append_left, Contains-append_right, Contains-push}
pub use Rattle.std.proofs.lemmas.List.Elements.{Contains-push_cases}
pub use Rattle.std.specs.Cmp.{IsEquivalence}
pub use Rattle.std.specs.List.{IsDistinct, flat_map}
pub use Rattle.rw_base.specs.declared.number.Cell.{Cell}
pub use Rattle.rw_model.specs.Draft.{Draft}
pub use Rattle.rw_model.specs.Links.{group_of, is_among}
pub use Rattle.rw_model.specs.Kept.{numbers_of}
pub use Rattle.rw_model.specs.declared.content.Content.{Content}
pub use Rattle.rw_run.specs.Dispatch.{cell_at}
pub use Rattle.rw_run.specs.Frame.{cells_asked, cells_looked}
pub use Rattle.rw_run.specs.Log.{Asked, Cells, Event, asked_in, held_after, last_put, looks_in, written_by}
pub use Rattle.rw_run.specs.Step.{cell_count, cells_reached, cells_with, distinct, is_same_cell, reached_by}
pub use Rattle.rw_run.specs.Timestep.{AreLooked}
pub use Rattle.rw_run.specs.declared.held.Held.{Held}
pub use Rattle.rw_series.specs.Series.{IsCell, IsSeriesOf, Series, Sets, held, is_shared}
pub use Rattle.rw_record.specs.Noted.{AddsNotes, AreHeld, AreOnce, NotesFirst, cells_noted, is_noted, noted_after, noted_in, with_noted}
