-- Kinds of values: which are the same, and which those of lists and their elements are.
use Rattle.std.specs.Prelude.{ℕ, ◌+◌, ◌==◌, Bool, true, false, ◌&&◌, List, [], ◌∷◌, Option, Some, None}
use Rattle.rpl_code.specs.declared.kind.ValueKind.{ValueKind}
use Rattle.rpl_code.specs.declared.kind.ValueKind.TheVariants as K
use Rattle.rpl_code.specs.Weight.{words_of}

abbrev pub is_same_value_kind : ValueKind → ValueKind → Bool
is_same_value_kind K.N K.N = true
is_same_value_kind K.B K.B = true
is_same_value_kind K.D K.D = true
is_same_value_kind K.S K.S = true
is_same_value_kind (K.NList m) (K.NList n) = m == n
is_same_value_kind (K.SList m) (K.SList n) = m == n
is_same_value_kind _ _ = false

abbrev pub are_same_kinds : List ValueKind → List ValueKind → Bool
are_same_kinds [] [] = true
are_same_kinds (kind ∷ kinds) (other_kind ∷ left_kinds) = is_same_value_kind kind other_kind && are_same_kinds kinds left_kinds
are_same_kinds _ _ = false

-- both are there, and the same
abbrev pub is_that_kind : Option ValueKind → Option ValueKind → Bool
is_that_kind (Some kind) (Some other_kind) = is_same_value_kind kind other_kind
is_that_kind _ _ = false

-- how many words values of these kinds take
abbrev pub words_of_all : List ValueKind → ℕ
words_of_all [] = 0
words_of_all (kind ∷ kinds) = words_of kind + words_of_all kinds

-- for how many elements a list of the kind has room
abbrev pub list_room : ValueKind → ℕ
list_room (K.NList m) = m
list_room (K.SList m) = m
list_room _ = 0

-- the kind of a list's elements
abbrev pub element_kind : ValueKind → Option ValueKind
element_kind (K.NList m) = Some K.N
element_kind (K.SList m) = Some K.S
element_kind _ = None

-- the kind of a list with so much room for elements of a kind, if there are such lists
abbrev pub list_value_kind : ℕ → ValueKind → Option ValueKind
list_value_kind m K.N = Some (K.NList m)
list_value_kind m K.S = Some (K.SList m)
list_value_kind m _ = None

-- the first of a list
abbrev pub top_of : {A : Type 0} → List A → Option A
top_of [] = None
top_of (thing ∷ things) = Some thing
