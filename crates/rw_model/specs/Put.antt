-- The put rules: what becomes of a put to a cell, by what the cell holds.
use Rattle.std.specs.Prelude.{◌≡◌, ◌==◌, nat_le, if◌then◌else◌, Bool, false, ◌&&◌, Option, None, Some}
use Rattle.std.specs.Ordering.{int_eq}
use Rattle.rw_base.specs.declared.number.ObjectNo.{ObjectNo}
use Rattle.rw_model.specs.declared.writer.Writer.{Writer}
use Rattle.rw_model.specs.declared.writer.Writer.TheVariants.{Input, Rule, Object}
use Rattle.rw_model.specs.declared.content.Content.{Content}
use Rattle.rw_model.specs.declared.put.PutEnd.{PutEnd}
use Rattle.rw_model.specs.declared.put.PutEnd.TheVariants.{Written, Kept, Denied}

-- both are the same object
abbrev pub is_same_object : Writer → Writer → Bool
is_same_object (Object a) (Object b) = a.0 == b.0
is_same_object (Object a) Input = false
is_same_object (Object a) (Rule b) = false
is_same_object Input new = false
is_same_object (Rule a) new = false

-- both are the same object, as a fact
abbrev pub IsSameObject : Writer → Writer → Type 0
IsSameObject held new = (object : ObjectNo) × (held ≡ Object object) × (new ≡ Object object)

-- the same value, under a number that is the held one or larger
abbrev pub is_value_kept : Content → Content → Bool
is_value_kept held new = int_eq held.value new.value && nat_le held.number new.number

-- a value of priority 0 gives way only to the object that wrote it, any other to a priority that isn't lower
abbrev pub gives_way : Content → Content → Bool
gives_way held new = if held.number == 0 then is_same_object held.writer new.writer else nat_le new.number held.number

-- an unknown cell is written. A value that is there already is kept; otherwise it is overwritten where it gives way
abbrev pub end_of_put : Option Content → Content → PutEnd
end_of_put None new = Written
end_of_put (Some held) new = if is_value_kept held new then Kept else (if gives_way held new then Written else Denied held)
