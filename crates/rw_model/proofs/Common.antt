-- The names that proofs cite, passed on from one place. Declares nothing.
pub use Rattle.rw_model.proofs.Bounding.{bounds_in-within, known_by_name, known_in_place, some_crossed}
pub use Rattle.rw_model.proofs.BuildFacts.{bound-iff, object-iff}
pub use Rattle.rw_model.proofs.Drafting.{IsDraft-begin, IsDraft-bound, IsDraft-link, IsDraft-object}
pub use Rattle.rw_model.proofs.Linked.{basin_iff}
pub use Rattle.rw_model.proofs.Numbered.{numbered-found, numbered-known}
pub use Rattle.rw_model.proofs.Numbering.{IsOfOwner-is_in_place, StandsAt-stored, first_from-all_slots}
pub use Rattle.rw_model.specs.Basin.{IsBasin, IsDraft, IsLink, finish_refusal}
pub use Rattle.rw_model.specs.Before.{before_of}
pub use Rattle.rw_model.specs.Build.{bound_refusal, object_refusal, with_link}
pub use Rattle.rw_model.specs.Draft.{Bound, Draft, IsControl, IsObject, IsSlot, IsSound}
pub use Rattle.rw_model.specs.Kept.{numbers_of, place_of}
pub use Rattle.rw_model.specs.Kind.{IsAmount, IsKind, IsStored}
pub use Rattle.rw_model.specs.Links.{IsBetween, bounds_in, group_of, is_among, is_same_link, is_together, link_from, link_of, link_refusal, meet}
pub use Rattle.rw_model.specs.Links.{meet_all, own_bounds, owner_of, slot_numbers}
pub use Rattle.rw_model.specs.Name.{IsDigit, IsLetter, IsName}
pub use Rattle.rw_model.specs.Objects.{Object, Placed, all_slots, first_from, is_in_place, is_named, numbered, object_at, object_from, object_named}
pub use Rattle.rw_model.specs.Objects.{placed_from, slot_at, slot_in_place, slot_named, slots_from}
pub use Rattle.rw_model.specs.Put.{end_of_put}
pub use Rattle.rw_model.specs.Slot.{Bounds, IsInside, Slot, all_quantities, from_zero, of_range}
pub use Rattle.rw_model.specs.Slots.{slot_in, slots_of, where_chosen}
