-- The names that proofs cite, passed on from one place. Declares nothing.
pub use Rattle.rw_base.proofs.Common.{All, All-push, Any-from_list_any, Bool, IfSome, IsSome, List, None, Option, Some, [], add-one, and_parts, ap}
pub use Rattle.rw_base.proofs.Common.{append-nil, append_assoc, ap₂, arith, cond, drop, drop-cons, eqb-true, false, filter, filter-append, get_or}
pub use Rattle.rw_base.proofs.Common.{get_or-map-range_with_len, get_or_default, if◌then◌else◌, int_le, ints, length, list_any, list_any_more, map}
pub use Rattle.rw_base.proofs.Common.{map-append, nat_eq, nat_lt, nat_tests, not, option_and_then, option_map, option_or, pos, refl, rules, set}
pub use Rattle.rw_base.proofs.Common.{slice_get, slice_index_or, subst, suc, sym, take, take_all, true, unwrap_or, zero, ℕ, ℤ, ◌&&◌, ◌++◌, ◌+◌, ◌-◌}
pub use Rattle.rw_base.proofs.Common.{◌<◌, ◌==◌, ◌||◌, ◌∙◌, ◌∷◌, ◌≡◌, ◌≤ℤ◌, ◌≤◌}
pub use Rattle.rw_base.specs.declared.number.Cell.{Cell}
pub use Rattle.rw_base.specs.declared.number.ObjectNo.{ObjectNo}
pub use Rattle.rw_base.specs.declared.number.SlotNo.{SlotNo}
pub use Rattle.rw_dispatch.specs.Owners.{HasReached, has_object_mark}
pub use Rattle.rw_dispatch.specs.Putting.{ArePuts, CanPut, IsPassed}
pub use Rattle.rw_dispatch.specs.Queue.{KeepsQueue, Queue, is_object_marked, unmarked}
pub use Rattle.rw_dispatch.specs.Stage.{AreBounded, IsHeldIn}
pub use Rattle.rw_method.specs.View.{IsBounded, IsViewOf, bounds_in_view, is_between, known, known_value}
pub use Rattle.rw_method.specs.declared.put.Put.{Put}
pub use Rattle.rw_method.specs.declared.view.View.{View}
pub use Rattle.rw_model.specs.declared.content.Content.{Content}
pub use Rattle.rw_model.specs.declared.kind.Kind.{Kind}
pub use Rattle.rw_series.specs.Series.{Series, Sets, held, is_shared}
