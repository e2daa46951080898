-- What each operator makes of values, and how much it counts. A value of a wrong kind leaves it stuck.
use Rattle.std.specs.Prelude.{ℕ, ◌+◌, ℤ, pos, neg_ℤ, ◌+ℤ◌, ◌-ℤ◌, ◌*ℤ◌, int_le, int_lt, unsigned_abs, nat_lt, Bool, true, false, not, ◌&&◌, List, [], ◌∷◌, ◌++◌, length, map, Option, Some, None, if◌then◌else◌}
use Rattle.std.specs.Ordering.{int_eq}
use Rattle.rw_base.specs.Quantity.{quantity_max}
use Rattle.rw_base.specs.Quotient.{floor_div}
use Rattle.rw_model.specs.Objects.{numbered}
use Rattle.rw_firing.specs.declared.fire.FireEnd.TheVariants.{ZeroDivisor, OutOfRange}
use Rattle.rpl_tree.specs.Value.{Kind, numbers_kind, slots_kind, Value, a_number, a_truth, a_date, a_slot, numbers, slots, kind_of_value, is_same_kind}
use Rattle.rpl_tree.specs.Outcome.{Outcome, after, ends, gives, is_stuck, spent, ◌>>=◌}

-- a whole number from -Q to Q
abbrev pub is_quantity : ℤ → Bool
is_quantity z = int_le (pos 0 -ℤ quantity_max) z && int_le z quantity_max

-- the exact result, or the end where it is no quantity
abbrev pub exactly : (ℤ → Value) → ℤ → Outcome Value
exactly make z = if is_quantity z then gives (make z) 1 else ends (OutOfRange z) 1

-- ---- arithmetic

-- a number to a number, or to a date
abbrev pub sum_of : Value → Value → Outcome Value
sum_of (a_number x) (a_number y) = exactly a_number (x +ℤ y)
sum_of (a_date d) (a_number y) = exactly a_date (d +ℤ y)
sum_of _ _ = is_stuck

-- a number from a number, or from a date, or a date from a date, which is a number
abbrev pub difference_of : Value → Value → Outcome Value
difference_of (a_number x) (a_number y) = exactly a_number (x -ℤ y)
difference_of (a_date d) (a_number y) = exactly a_date (d -ℤ y)
difference_of (a_date d) (a_date e) = exactly a_number (d -ℤ e)
difference_of _ _ = is_stuck

abbrev pub product_of : Value → Value → Outcome Value
product_of (a_number x) (a_number y) = exactly a_number (x *ℤ y)
product_of _ _ = is_stuck

-- rounded down
abbrev pub quotient_of : Value → Value → Outcome Value
quotient_of (a_number x) (a_number y) = if int_eq y (pos 0) then ends ZeroDivisor 1 else exactly a_number (floor_div x y)
quotient_of _ _ = is_stuck

abbrev pub negative_of : Value → Outcome Value
negative_of (a_number x) = gives (a_number (neg_ℤ x)) 1
negative_of _ = is_stuck

-- ---- tests

-- two numbers, or two dates
abbrev pub compared : (ℤ → ℤ → Bool) → Value → Value → Outcome Value
compared test (a_number x) (a_number y) = gives (a_truth (test x y)) 1
compared test (a_date d) (a_date e) = gives (a_truth (test d e)) 1
compared test _ _ = is_stuck

abbrev pub equal_of : Value → Value → Outcome Value
equal_of = compared int_eq

abbrev pub less_of : Value → Value → Outcome Value
less_of = compared int_lt

abbrev pub at_most_of : Value → Value → Outcome Value
at_most_of = compared int_le

abbrev pub not_of : Value → Outcome Value
not_of (a_truth b) = gives (a_truth (not b)) 1
not_of _ = is_stuck

-- one of two branches, by a truth. The jump over the other counts, before the branch or after it
abbrev pub chosen : {A : Type 0} → Value → Outcome A → Outcome A → Outcome A
chosen (a_truth true) first second = after (spent 1) (first >>= (λ x. gives x 2))
chosen (a_truth false) first second = after (spent 2) (second >>= (λ x. gives x 1))
chosen _ first second = is_stuck

-- ---- lists

-- the values as a list of numbers, each put behind those before it
abbrev pub all_numbers : ℕ → List ℤ → List Value → Outcome Value
all_numbers m zs [] = gives (numbers m zs) (m + 1)
all_numbers m zs (a_number z ∷ vs) = all_numbers m (zs ++ z ∷ []) vs
all_numbers m zs (_ ∷ vs) = is_stuck

-- the values as a list of slots
abbrev pub all_slot_values : ℕ → List ℕ → List Value → Outcome Value
all_slot_values m ss [] = gives (slots m ss) (m + 1)
all_slot_values m ss (a_slot s ∷ vs) = all_slot_values m (ss ++ s ∷ []) vs
all_slot_values m ss (_ ∷ vs) = is_stuck

-- the list of the values, at least one, with room for just them
abbrev pub list_of : List Value → Outcome Value
list_of [] = is_stuck
list_of (a_number z ∷ vs) = all_numbers (length vs + 1) (z ∷ []) vs
list_of (a_slot s ∷ vs) = all_slot_values (length vs + 1) (s ∷ []) vs
list_of (_ ∷ vs) = is_stuck

-- the list with one element more, and room for one more
abbrev pub append_of : Value → Value → Outcome Value
append_of (numbers m zs) (a_number z) = gives (numbers (m + 1) (zs ++ z ∷ [])) (m + 2)
append_of (slots m ss) (a_slot s) = gives (slots (m + 1) (ss ++ s ∷ [])) (m + 2)
append_of _ _ = is_stuck

-- what stands in a place, where places count from 1
abbrev pub in_place : {A : Type 0} → List A → ℤ → Option A
in_place things i = if int_le (pos 1) i then numbered things (unsigned_abs i) else None

-- the element in a place, or the end where there is no such place
abbrev pub item_or_end : {A : Type 0} → (A → Value) → ℤ → Option A → Outcome Value
item_or_end make i None = ends (OutOfRange i) 1
item_or_end make i (Some thing) = gives (make thing) 1

abbrev pub item_of : Value → Value → Outcome Value
item_of (numbers m zs) (a_number i) = item_or_end a_number i (in_place zs i)
item_of (slots m ss) (a_number i) = item_or_end a_slot i (in_place ss i)
item_of _ _ = is_stuck

-- how many elements there are, which may be fewer than there is room for
abbrev pub length_of : Value → Outcome Value
length_of (numbers m zs) = gives (a_number (pos (length zs))) 1
length_of (slots m ss) = gives (a_number (pos (length ss))) 1
length_of _ = is_stuck

-- the elements
abbrev pub elements_of : Value → Option (List Value)
elements_of (numbers m zs) = Some (map a_number zs)
elements_of (slots m ss) = Some (map a_slot ss)
elements_of _ = None

-- ---- room

-- a list with more room, which counts as many words as it then takes
abbrev pub roomier : Kind → Value → Outcome Value
roomier (numbers_kind m) (numbers n zs) = if nat_lt n m then gives (numbers m zs) (m + 1) else is_stuck
roomier (slots_kind m) (slots n ss) = if nat_lt n m then gives (slots m ss) (m + 1) else is_stuck
roomier _ _ = is_stuck

-- a value in a place of a kind: as it is where it is of that kind, and a list with less room is given more
abbrev pub widened : Kind → Value → Outcome Value
widened kind v = if is_same_kind kind (kind_of_value v) then gives v 0 else roomier kind v
