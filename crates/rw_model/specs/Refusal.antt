-- Why a builder refuses what it is told.
use Rattle.std.specs.Prelude.{ℕ, Option, Some, None}
use Rattle.rw_model.specs.declared.fault.BuildFault.{BuildFault}
use Rattle.rw_model.specs.declared.fault.BuildFault.TheVariants.{DuplicateName, UnknownSlot, LinkedTwice, LinkWithinObject, LinkDimension, LinkBounds, BadParameter, TooMany, NoMemory}

pub data BuildRefusal : Type 0 where
  duplicate_name : BuildRefusal
  unknown_slot : BuildRefusal
  linked_twice : BuildRefusal
  link_within_object : BuildRefusal
  link_dimension : BuildRefusal
  link_bounds : BuildRefusal
  bad_parameter : BuildRefusal
  too_many : ℕ → BuildRefusal

-- what a fault tells of what was told. Want of memory tells nothing of it
abbrev pub build_refusal_of : BuildFault → Option BuildRefusal
build_refusal_of DuplicateName = Some duplicate_name
build_refusal_of UnknownSlot = Some unknown_slot
build_refusal_of LinkedTwice = Some linked_twice
build_refusal_of LinkWithinObject = Some link_within_object
build_refusal_of LinkDimension = Some link_dimension
build_refusal_of LinkBounds = Some link_bounds
build_refusal_of BadParameter = Some bad_parameter
build_refusal_of (TooMany most) = Some (too_many most)
build_refusal_of NoMemory = None
