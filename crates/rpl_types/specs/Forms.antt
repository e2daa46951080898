-- The type that each form has by the types of its parts, or why it has none.
use Rattle.std.specs.Prelude.{ℕ, ◌+◌, ℤ, pos, neg_ℤ, ◌*ℤ◌, bytes_eq, Bool, true, false, ◌&&◌, List, [], ◌∷◌, length, Option, Some, None, unwrap_or, Ok, Err, if◌then◌else◌}
use Rattle.rw_base.specs.Answers.{unless_refused}
use Rattle.rw_base.specs.Dimension.{Dimension, times_of, per_of}
use Rattle.rw_base.specs.Range.{is_from_to}
use Rattle.rw_base.specs.Unit.{units, unit_in, volume, length as length_unit, timestep, plain_number}
use Rattle.rw_model.specs.Draft.{Draft}
use Rattle.rw_model.specs.Links.{dim_of}
use Rattle.rw_model.specs.Objects.{slot_named}
use Rattle.rpl_tree.specs.declared.words.OneWord.{OneWord}
use Rattle.rpl_tree.specs.declared.words.OneWord.TheVariants.{Not, Minus, Known, Length, Month, Day, Year}
use Rattle.rpl_tree.specs.declared.words.TwoWord.{TwoWord}
use Rattle.rpl_tree.specs.declared.words.TwoWord.TheVariants.{Or, And, Equal, Unequal, Less, LessEqual, Greater, GreaterEqual, Plus, Minus as Less_by, Times, Divide, Append, Item}
use Rattle.rpl_tree.specs.declared.words.ConvertWord.{ConvertWord}
use Rattle.rpl_tree.specs.declared.words.ConvertWord.TheVariants.{StorageToElevation, ElevationToStorage}
use Rattle.rpl_tree.specs.Operators.{is_quantity}
use Rattle.rpl_tree.specs.World.{can_put_ahead, can_set}
use Rattle.rpl_tree.specs.Tree.{Tree, at}
use Rattle.rpl_tree.specs.declared.rpl_type.RplType.{RplType}
use Rattle.rpl_tree.specs.declared.rpl_type.RplType.TheVariants.{Numeric, Boolean, Datetime, Slot, NumericList, SlotList}
use Rattle.rpl_types.specs.declared.type_kind.TypeKind.{TypeKind}
use Rattle.rpl_types.specs.declared.type_kind.TypeKind.TheVariants.{UnknownName, UnknownSlot, UnknownUnit, NotSettable, WrongType, WrongUnit, TargetStep, LiteralRange, NoTable}
use Rattle.rpl_types.specs.Fits.{Typed, longest, sooner, unit_misfit, length_misfit, misfit, misfit_among, joined_type}

-- a number that measures nothing
abbrev pub plain : RplType
plain = Numeric plain_number

-- the type, where what is asked holds of the parts
abbrev pub only_if : Bool → RplType → Typed
only_if true t = Ok t
only_if false t = Err WrongType

abbrev pub is_boolean : RplType → Bool
is_boolean Boolean = true
is_boolean _ = false

abbrev pub is_datetime : RplType → Bool
is_datetime Datetime = true
is_datetime _ = false

-- the type of a list's items
abbrev pub element_type : RplType → Typed
element_type (NumericList m d) = Ok (Numeric d)
element_type (SlotList m d) = Ok (Slot d)
element_type _ = Err WrongType

-- ---- leaves

-- the number in base units is a quantity
abbrev pub literal_in_unit : ℤ → Option (Dimension × ℤ) → Typed
literal_in_unit n None = Err UnknownUnit
literal_in_unit n (Some unit) = if is_quantity (n *ℤ unit.1) then Ok (Numeric unit.0) else Err LiteralRange

abbrev pub literal_type : ℤ → Option (List ℕ) → Typed
literal_type n unit = literal_in_unit n (unit_in units (unwrap_or unit []))

abbrev pub found_slot_type : Draft → Option ℕ → Typed
found_slot_type basin None = Err UnknownSlot
found_slot_type basin (Some s) = Ok (Slot (dim_of basin.objects s))

abbrev pub slot_type : Draft → List ℕ → List ℕ → Typed
slot_type basin o s = found_slot_type basin (slot_named basin.objects o s)

-- the types of the names that can be used, innermost first
abbrev pub TypeScope : Type 0
TypeScope = List (List ℕ × RplType)

abbrev pub name_type : TypeScope → List ℕ → Typed
name_type [] x = Err UnknownName
name_type (variable ∷ scope) x = if bytes_eq variable.0 x then Ok variable.1 else name_type scope x

-- ---- one part

abbrev pub negative_type : RplType → Typed
negative_type (Numeric d) = Ok (Numeric d)
negative_type _ = Err WrongType

abbrev pub length_type : RplType → Typed
length_type (NumericList m d) = Ok plain
length_type (SlotList m d) = Ok plain
length_type _ = Err WrongType

-- `s[d]` and nothing around it
abbrev pub is_look : Tree → Bool
is_look (at s d) = true
is_look _ = false

-- the second tells whether the part is a look at a slot
abbrev pub one_type : OneWord → Bool → RplType → Typed
one_type Not looks t = only_if (is_boolean t) Boolean
one_type Minus looks t = negative_type t
one_type Known looks t = only_if looks Boolean
one_type Length looks t = length_type t
one_type Month looks t = only_if (is_datetime t) plain
one_type Day looks t = only_if (is_datetime t) plain
one_type Year looks t = only_if (is_datetime t) plain

-- ---- two parts

abbrev pub compared_type : RplType → RplType → Typed
compared_type (Numeric a) (Numeric b) = unless_refused (unit_misfit a b) Boolean
compared_type Datetime Datetime = Ok Boolean
compared_type _ _ = Err WrongType

-- a number to a number, or timesteps to a date
abbrev pub sum_type : RplType → RplType → Typed
sum_type (Numeric a) (Numeric b) = unless_refused (unit_misfit a b) (Numeric a)
sum_type Datetime (Numeric b) = unless_refused (unit_misfit b timestep) Datetime
sum_type _ _ = Err WrongType

-- between two dates there are timesteps
abbrev pub difference_type : RplType → RplType → Typed
difference_type Datetime Datetime = Ok (Numeric timestep)
difference_type a b = sum_type a b

abbrev pub is_exponent : ℤ → Bool
is_exponent z = is_from_to (neg_ℤ (pos 6)) (pos 6) z

abbrev pub is_dimension : Dimension → Bool
is_dimension d = is_exponent d.volume && is_exponent d.length && is_exponent d.step && is_exponent d.energy

-- the dimension, where each of its exponents is from -6 to 6
abbrev pub a_dimension : Dimension → Option Dimension
a_dimension d = if is_dimension d then Some d else None

abbrev pub measured_in : Option Dimension → Typed
measured_in None = Err WrongUnit
measured_in (Some d) = Ok (Numeric d)

-- a product or a quotient, by what becomes of the dimensions
abbrev pub product_type : (Dimension → Dimension → Dimension) → RplType → RplType → Typed
product_type made (Numeric a) (Numeric b) = measured_in (a_dimension (made a b))
product_type made _ _ = Err WrongType

abbrev pub append_type : RplType → RplType → Typed
append_type (NumericList m a) (Numeric b) =
    unless_refused (sooner (unit_misfit a b) (length_misfit (m + 1) longest)) (NumericList (m + 1) a)
append_type (SlotList m a) (Slot b) = unless_refused (sooner (unit_misfit a b) (length_misfit (m + 1) longest)) (SlotList (m + 1) a)
append_type _ _ = Err WrongType

abbrev pub item_type : RplType → RplType → Typed
item_type (NumericList m a) (Numeric b) = unless_refused (unit_misfit b plain_number) (Numeric a)
item_type (SlotList m a) (Numeric b) = unless_refused (unit_misfit b plain_number) (Slot a)
item_type _ _ = Err WrongType

abbrev pub two_type : TwoWord → RplType → RplType → Typed
two_type Or a b = only_if (is_boolean a && is_boolean b) Boolean
two_type And a b = only_if (is_boolean a && is_boolean b) Boolean
two_type Equal a b = compared_type a b
two_type Unequal a b = compared_type a b
two_type Less a b = compared_type a b
two_type LessEqual a b = compared_type a b
two_type Greater a b = compared_type a b
two_type GreaterEqual a b = compared_type a b
two_type Plus a b = sum_type a b
two_type Less_by a b = difference_type a b
two_type Times a b = product_type times_of a b
two_type Divide a b = product_type per_of a b
two_type Append a b = append_type a b
two_type Item a b = item_type a b

-- the value of a slot at a date
abbrev pub look_type : RplType → RplType → Typed
look_type (Slot d) Datetime = Ok (Numeric d)
look_type _ _ = Err WrongType

-- ---- tables

-- what the table is asked for, and what it answers
abbrev pub asks : ConvertWord → Dimension
asks StorageToElevation = volume
asks ElevationToStorage = length_unit

abbrev pub answers : ConvertWord → Dimension
answers StorageToElevation = length_unit
answers ElevationToStorage = volume

abbrev pub table_type : ConvertWord → Bool → RplType → Typed
table_type word false t = Err NoTable
table_type word true t = unless_refused (misfit t (Numeric (asks word))) (Numeric (answers word))

-- whether there is an object, and whether it has a table
abbrev pub convert_type : ConvertWord → Bool → Bool → RplType → Typed
convert_type word false table t = Err UnknownName
convert_type word true table t = table_type word table t

-- ---- several parts

abbrev pub choice_type : RplType → RplType → RplType → Typed
choice_type Boolean y n = joined_type y n
choice_type _ y n = Err WrongType

-- a list of what stands in braces
abbrev pub list_type : List RplType → Typed
list_type (Numeric d ∷ ts) =
    unless_refused (sooner (misfit_among ts (Numeric d)) (length_misfit (length ts + 1) longest)) (NumericList (length ts + 1) d)
list_type (Slot d ∷ ts) =
    unless_refused (sooner (misfit_among ts (Slot d)) (length_misfit (length ts + 1) longest)) (SlotList (length ts + 1) d)
list_type _ = Err WrongType

-- a list of numbers, each for an item of the list
abbrev pub mapped_type : RplType → RplType → Typed
mapped_type (NumericList m d) (Numeric e) = Ok (NumericList m e)
mapped_type (SlotList m d) (Numeric e) = Ok (NumericList m e)
mapped_type _ _ = Err WrongType

-- what each turn answers fits the accumulator
abbrev pub total_type : RplType → RplType → Typed
total_type total body = unless_refused (misfit body total) total

-- ---- assignments

-- why the value can't be set there
abbrev pub found_target_misfit : Draft → Option ℕ → ℤ → RplType → Option TypeKind
found_target_misfit basin None ahead t = Some UnknownSlot
found_target_misfit basin (Some s) ahead t =
    if can_set basin s then (if can_put_ahead basin ahead then misfit t (Numeric (dim_of basin.objects s)) else Some TargetStep)
    else Some NotSettable

abbrev pub target_misfit : Draft → List ℕ → List ℕ → ℤ → RplType → Option TypeKind
target_misfit basin o s ahead t = found_target_misfit basin (slot_named basin.objects o s) ahead t

-- a condition is a truth
abbrev pub condition_misfit : RplType → Option TypeKind
condition_misfit Boolean = None
condition_misfit _ = Some WrongType
