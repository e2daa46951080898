-- The values of expressions, their kinds, and how many words each takes.
use Rattle.std.specs.Prelude.{ℕ, ◌+◌, ◌==◌, ℤ, Bool, true, false, List, [], ◌∷◌}

-- a number, a truth, a date, a slot, or a list that has room for so many numbers or slots
pub data Kind : Type 0 where
  number_kind : Kind
  truth_kind : Kind
  date_kind : Kind
  slot_kind : Kind
  numbers_kind : ℕ → Kind
  slots_kind : ℕ → Kind

-- a date is the number of a timestep, which need not be one of the run. A list has its room beside its elements
pub data Value : Type 0 where
  a_number : ℤ → Value
  a_truth : Bool → Value
  a_date : ℤ → Value
  a_slot : ℕ → Value
  numbers : ℕ → List ℤ → Value
  slots : ℕ → List ℕ → Value

abbrev pub kind_of_value : Value → Kind
kind_of_value (a_number z) = number_kind
kind_of_value (a_truth b) = truth_kind
kind_of_value (a_date d) = date_kind
kind_of_value (a_slot s) = slot_kind
kind_of_value (numbers room zs) = numbers_kind room
kind_of_value (slots room ss) = slots_kind room

abbrev pub is_same_kind : Kind → Kind → Bool
is_same_kind number_kind number_kind = true
is_same_kind truth_kind truth_kind = true
is_same_kind date_kind date_kind = true
is_same_kind slot_kind slot_kind = true
is_same_kind (numbers_kind m) (numbers_kind n) = m == n
is_same_kind (slots_kind m) (slots_kind n) = m == n
is_same_kind _ _ = false

-- how many words a value of the kind takes: one, and for a list one for each element that it has room for and one for their number
abbrev pub weight : Kind → ℕ
weight (numbers_kind m) = m + 1
weight (slots_kind m) = m + 1
weight _ = 1

abbrev pub weights : List Kind → ℕ
weights [] = 0
weights (k ∷ ks) = weight k + weights ks

-- ---- lists

-- for how many elements a list has room
abbrev pub room_of : Kind → ℕ
room_of (numbers_kind m) = m
room_of (slots_kind m) = m
room_of _ = 0

-- the kind of its elements
abbrev pub element_of : Kind → Kind
element_of (slots_kind m) = slot_kind
element_of _ = number_kind

-- the list of so many elements of a kind
abbrev pub list_kind : ℕ → Kind → Kind
list_kind m slot_kind = slots_kind m
list_kind m _ = numbers_kind m
