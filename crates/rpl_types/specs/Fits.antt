-- When a type fits another, and what is wrong where it doesn't.
use Rattle.std.specs.Prelude.{ℕ, ◌==◌, nat_le, nat_lt, max, List, [], ◌∷◌, length, Option, Some, None, Result, if◌then◌else◌}
use Rattle.rw_base.specs.declared.limits.TheConstants.{LIST_MAX}
use Rattle.rw_base.specs.Answers.{unless_refused}
use Rattle.rw_base.specs.Dimension.{Dimension}
use Rattle.rw_model.specs.Links.{is_same_dim}
use Rattle.rpl_tree.specs.declared.rpl_type.RplType.{RplType}
use Rattle.rpl_tree.specs.declared.rpl_type.RplType.TheVariants.{Numeric, Boolean, Datetime, Slot, NumericList, SlotList}
use Rattle.rpl_types.specs.declared.type_kind.TypeKind.{TypeKind}
use Rattle.rpl_types.specs.declared.type_kind.TypeKind.TheVariants.{UnknownName, UnknownSlot, UnknownUnit, NotSettable, WrongType, WrongUnit, WrongCount, NotEarlier, DuplicateName, TargetStep, ListTooLong, LiteralRange, NoTable, TooCostly}

-- a type, or why there is none
abbrev pub Typed : Type 0
Typed = Result RplType TypeKind

-- for how many items a list may have room
abbrev pub longest : ℕ
longest = LIST_MAX

-- ---- which of several refusals is given

-- where a refusal stands in the order of those at one node
abbrev pub refusal_order : TypeKind → ℕ
refusal_order DuplicateName = 0
refusal_order UnknownName = 1
refusal_order NotEarlier = 2
refusal_order UnknownSlot = 3
refusal_order NotSettable = 4
refusal_order TargetStep = 5
refusal_order UnknownUnit = 6
refusal_order LiteralRange = 7
refusal_order NoTable = 8
refusal_order WrongCount = 9
refusal_order WrongType = 10
refusal_order WrongUnit = 11
refusal_order ListTooLong = 12
refusal_order TooCostly = 13

-- of two that may be due the one that stands first
abbrev pub sooner : Option TypeKind → Option TypeKind → Option TypeKind
sooner None b = b
sooner (Some a) None = Some a
sooner (Some a) (Some b) = if nat_lt (refusal_order b) (refusal_order a) then Some b else Some a

-- ---- one type for another

abbrev pub unit_misfit : Dimension → Dimension → Option TypeKind
unit_misfit a b = if is_same_dim a b then None else Some WrongUnit

-- a list of so many items, where there may be so many
abbrev pub length_misfit : ℕ → ℕ → Option TypeKind
length_misfit n most = if nat_le n most then None else Some ListTooLong

-- why a value of the first type can't stand where one of the second is asked for
abbrev pub misfit : RplType → RplType → Option TypeKind
misfit (Numeric a) (Numeric b) = unit_misfit a b
misfit Boolean Boolean = None
misfit Datetime Datetime = None
misfit (Slot a) (Slot b) = unit_misfit a b
misfit (NumericList n a) (NumericList m b) = sooner (unit_misfit a b) (length_misfit n m)
misfit (SlotList n a) (SlotList m b) = sooner (unit_misfit a b) (length_misfit n m)
misfit _ _ = Some WrongType

-- why not all of them can stand where the type is asked for
abbrev pub misfit_among : List RplType → RplType → Option TypeKind
misfit_among [] asked = None
misfit_among (t ∷ ts) asked = sooner (misfit t asked) (misfit_among ts asked)

-- why not each of them can stand where the one in its place is asked for
abbrev pub misfit_in_places : List RplType → List RplType → Option TypeKind
misfit_in_places (t ∷ ts) (asked ∷ more) = sooner (misfit t asked) (misfit_in_places ts more)
misfit_in_places _ _ = None

-- why these can't be the arguments where those are asked for
abbrev pub arguments_misfit : List RplType → List RplType → Option TypeKind
arguments_misfit ts asked = if length ts == length asked then misfit_in_places ts asked else Some WrongCount

-- the type of what is either the one or the other: of two lists that with more room
abbrev pub joined_type : RplType → RplType → Typed
joined_type (NumericList n a) (NumericList m b) = unless_refused (unit_misfit a b) (NumericList (max n m) a)
joined_type (SlotList n a) (SlotList m b) = unless_refused (unit_misfit a b) (SlotList (max n m) a)
joined_type a b = unless_refused (misfit a b) a
