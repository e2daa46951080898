-- Functions as calls see them, and what the head of a declaration says of its types.
use Rattle.std.specs.Prelude.{ℕ, ◌==◌, ℤ, pos, int_le, unsigned_abs, codes, bytes_eq, Bool, false, ◌&&◌, ◌||◌, List, [], ◌∷◌, length, map, Option, Some, None, is_some, Ok, Err, if◌then◌else◌}
use Rattle.std.specs.List.{list_any}
use Rattle.rw_base.specs.Answers.{unless_refused}
use Rattle.rw_base.specs.Dimension.{Dimension, times_per_of}
use Rattle.rw_base.specs.Unit.{units, unit_in, plain_number}
use Rattle.rpl_tree.specs.Kinds.{Head}
use Rattle.rpl_tree.specs.Mean.{function_heads, predefined_functions}
use Rattle.rpl_tree.specs.Tree.{TypeName, numeric, boolean, datetime, slot_type, numeric_list, slot_list, Parameter}
use Rattle.rpl_tree.specs.declared.rpl_type.RplType.{RplType}
use Rattle.rpl_tree.specs.declared.rpl_type.RplType.TheVariants.{Numeric, Boolean, Datetime, Slot, NumericList, SlotList}
use Rattle.rpl_types.specs.declared.type_kind.TypeKind.{TypeKind}
use Rattle.rpl_types.specs.declared.type_kind.TypeKind.TheVariants.{ListTooLong, NotEarlier, UnknownName, UnknownUnit, WrongCount, WrongType}
use Rattle.rpl_types.specs.Fits.{Typed, arguments_misfit, longest, misfit_among, sooner}
use Rattle.rpl_types.specs.Forms.{TypeScope, a_dimension, measured_in, plain}

-- ---- calls

-- a function that was declared: its name, the types of its parameters, and that of its result
pub record Signature : Type 0 where
  pub name : List ℕ
  pub takes : List RplType
  pub result : RplType

-- what a declaration can call: the functions before it, and the names of those that it can't call yet
pub record Callable : Type 0 where
  pub earlier : List Signature
  pub later : List (List ℕ)

abbrev pub count_named : List Head → List ℕ → Option ℕ
count_named [] f = None
count_named (head ∷ heads) f = if bytes_eq head.name f then Some (length head.takes) else count_named heads f

-- how many arguments the predefined function of the name takes
abbrev pub predefined_count : List ℕ → Option ℕ
predefined_count f = count_named (function_heads predefined_functions) f

abbrev pub signature_named : List Signature → List ℕ → Option Signature
signature_named [] f = None
signature_named (known ∷ functions) f = if bytes_eq known.name f then Some known else signature_named functions f

-- numbers of one dimension, and what is made of it
abbrev pub numbers_type : (Dimension → Dimension) → List RplType → Typed
numbers_type made (Numeric d ∷ ts) = unless_refused (misfit_among ts (Numeric d)) (Numeric (made d))
numbers_type made _ = Err WrongType

-- a sign measures nothing, and any other function of numbers that measure the same answers what its arguments are
abbrev pub measured_by : List ℕ → Dimension → Dimension
measured_by f d = if bytes_eq (codes "Sign") f then plain_number else d

-- a product of two numbers over a third measures what they do together
abbrev pub product_over_type : List RplType → Typed
product_over_type (Numeric a ∷ Numeric b ∷ Numeric c ∷ []) = measured_in (a_dimension (times_per_of a b c))
product_over_type _ = Err WrongType

-- what a predefined function makes of its arguments
abbrev pub made_by : List ℕ → List RplType → Typed
made_by f ts = if bytes_eq (codes "MulDiv") f then product_over_type ts else numbers_type (measured_by f) ts

-- by the types of its arguments, where it takes so many
abbrev pub predefined_type : List ℕ → ℕ → List RplType → Typed
predefined_type f count ts = if length ts == count then made_by f ts else Err WrongCount

abbrev pub unknown_type : List (List ℕ) → List ℕ → Typed
unknown_type later f = if list_any (bytes_eq f) later then Err NotEarlier else Err UnknownName

abbrev pub declared_type : Callable → List ℕ → Option Signature → List RplType → Typed
declared_type callable f None ts = unknown_type callable.later f
declared_type callable f (Some known) ts = unless_refused (arguments_misfit ts known.takes) known.result

abbrev pub called_type : Callable → List ℕ → Option ℕ → List RplType → Typed
called_type callable f None ts = declared_type callable f (signature_named callable.earlier f) ts
called_type callable f (Some count) ts = predefined_type f count ts

abbrev pub call_type : Callable → List ℕ → List RplType → Typed
call_type callable f ts = called_type callable f (predefined_count f) ts

-- ---- types as they are written

-- what is made of a unit's dimension
abbrev pub with_unit : Option (Dimension × ℤ) → (Dimension → Typed) → Typed
with_unit None made = Err UnknownUnit
with_unit (Some unit) made = made unit.0

abbrev pub with_room : ℤ → (ℕ → RplType) → Typed
with_room m made = if int_le (pos 1) m && int_le m (pos longest) then Ok (made (unsigned_abs m)) else Err ListTooLong

abbrev pub written_type : TypeName → Typed
written_type (numeric unit) = with_unit (unit_in units unit) (λ d. Ok (Numeric d))
written_type boolean = Ok Boolean
written_type datetime = Ok Datetime
written_type (slot_type unit) = with_unit (unit_in units unit) (λ d. Ok (Slot d))
written_type (numeric_list m unit) = with_unit (unit_in units unit) (λ d. with_room m (λ n. NumericList n d))
written_type (slot_list m unit) = with_unit (unit_in units unit) (λ d. with_room m (λ n. SlotList n d))

-- ---- heads

-- what is wrong, if something is
abbrev pub refusal_in : Typed → Option TypeKind
refusal_in (Ok t) = None
refusal_in (Err kind) = Some kind

-- why the types of parameters and a result aren't fine
abbrev pub head_misfit : List Parameter → TypeName → Option TypeKind
head_misfit [] result = refusal_in (written_type result)
head_misfit (p ∷ ps) result = sooner (refusal_in (written_type p.of_type)) (head_misfit ps result)

-- the type that is written, and a plain number where that is none
abbrev pub type_or_plain : Typed → RplType
type_or_plain (Ok t) = t
type_or_plain (Err kind) = plain

abbrev pub type_here : TypeName → RplType
type_here written = type_or_plain (written_type written)

-- the parameters as variables
abbrev pub param_scope : List Parameter → TypeScope
param_scope ps = map (λ (p : Parameter). (p.name, type_here p.of_type)) ps

abbrev pub signature : List ℕ → List Parameter → TypeName → Signature
signature f ps result =
    record { name = f; takes = map (λ (p : Parameter). type_here p.of_type) ps; result = type_here result }

abbrev pub is_named_as : List ℕ → Parameter → Bool
is_named_as name p = bytes_eq name p.name

-- two parameters have one name
abbrev pub repeats_name : List Parameter → Bool
repeats_name [] = false
repeats_name (p ∷ ps) = list_any (is_named_as p.name) ps || repeats_name ps

-- the name is taken, or two parameters share one
abbrev pub is_duplicate : List Signature → List ℕ → List Parameter → Bool
is_duplicate earlier f ps = is_some (predefined_count f) || is_some (signature_named earlier f) || repeats_name ps
