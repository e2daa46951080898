-- What the tables of objects, links and bounds tell a builder.
use Rattle.std.specs.Prelude.{Bool, ℕ, ◌==◌, nat_le, nat_lt, ◌&&◌, List, [], ◌∷◌, length, if◌then◌else◌, unwrap_or, Result, Ok, Err, codes}
use Rattle.std.specs.List.{position_or_len, before_first, after_first}
use Rattle.toml.specs.Data.{Data}
use Rattle.rw_model.specs.declared.limits.TheConstants.{LINK_MAX}
use Rattle.rw_model.specs.Slot.{Bounds}
use Rattle.rw_model.specs.Objects.{Object, slot_named}
use Rattle.rw_model.specs.Draft.{Draft}
use Rattle.rw_model.specs.Build.{with_object, with_link, with_bound}
use Rattle.rw_model_toml.specs.Refusal.{ModelRefusal, ◌>>=◌, refused_as, bad_build, out_of_range}
use Rattle.rw_model_toml.specs.Path.{key_path}
use Rattle.rw_model_toml.specs.Value.{integer_of, text_of, items_of, members_of}
use Rattle.rw_model_toml.specs.Key.{required, only_listed}
use Rattle.rw_model_toml.specs.ListOf.{list_read}
use Rattle.rw_model_toml.specs.Names.{name_of}
use Rattle.rw_model_toml.specs.Kinds.{kind_read}

-- ---- objects

-- the object is told to the builder, at a path
unfoldable pub object_told : List ℕ → Draft → Object → Result Draft ModelRefusal
object_told at draft object = refused_as (bad_build at) (with_object draft object)

-- the object whose table stands at the path
unfoldable pub object_read : List ℕ → Data → Draft → Result Draft ModelRefusal
object_read at value draft = do
  table ← members_of at value
  name ← name_of at table
  word ← required text_of at (codes "kind") table
  kind ← kind_read at word table
  object_told at draft (record { name = name; kind = kind })

-- ---- names of slots

-- `.`
abbrev pub is_dot : ℕ → Bool
is_dot b = b == 46

-- the number of the slot that a text `Object.Slot` names, and 0, which no slot has, where it names none
abbrev pub slot_number : List Object → List ℕ → ℕ
slot_number objects text =
    if nat_lt (position_or_len is_dot text) (length text)
    then unwrap_or (slot_named objects (before_first is_dot text) (after_first is_dot text)) 0
    else 0

-- ---- links

-- the slot that the value at the path names, by its number
abbrev pub slot_read : List Object → List ℕ → Data → Result ℕ ModelRefusal
slot_read objects path value = text_of path value >>= λ text. Ok (slot_number objects text)

-- 2 to 8 of them
abbrev pub few_linked : List ℕ → List ℕ → Result (List ℕ) ModelRefusal
few_linked path slots = if nat_le 2 (length slots) && nat_le (length slots) LINK_MAX then Ok slots else Err (out_of_range path)

-- the link is told to the builder
unfoldable pub link_told : List ℕ → Draft → List ℕ → Result Draft ModelRefusal
link_told at draft slots = refused_as (bad_build at) (with_link draft slots)

-- the link whose table stands at the path
unfoldable pub link_read : List ℕ → Data → Draft → Result Draft ModelRefusal
link_read at value draft = do
  table ← members_of at value
  items ← required items_of at (codes "slots") table
  slots ← list_read (slot_read draft.objects) (key_path at (codes "slots")) 1 items
  few ← few_linked (key_path at (codes "slots")) slots
  listed ← only_listed (codes "slots" ∷ []) at table
  link_told at draft slots

-- ---- bounds

-- the bounds of a slot are told to the builder
unfoldable pub bound_told : List ℕ → Draft → ℕ → Bounds → Result Draft ModelRefusal
bound_told at draft slot bounds = refused_as (bad_build at) (with_bound draft slot bounds)

-- the bound whose table stands at the path
unfoldable pub bound_read : List ℕ → Data → Draft → Result Draft ModelRefusal
bound_read at value draft = do
  table ← members_of at value
  text ← required text_of at (codes "slot") table
  min ← required integer_of at (codes "min") table
  max ← required integer_of at (codes "max") table
  listed ← only_listed (codes "slot" ∷ codes "min" ∷ codes "max" ∷ []) at table
  bound_told at draft (slot_number draft.objects text) (min, max)
