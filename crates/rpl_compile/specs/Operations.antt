-- The instructions of operators and words, which kinds of code the kinds of expressions are, and how many lines each form takes.
use Rattle.std.specs.Prelude.{ℕ, ◌+◌, ◌*ℤ◌, ℤ, pos, List, [], ◌∷◌, map, reverse, Option, Some, None, unwrap_or, if◌then◌else◌}
use Rattle.rw_base.specs.Dimension.{Dimension}
use Rattle.rw_base.specs.Unit.{units, unit_in}
use Rattle.rpl_code.specs.declared.kind.ValueKind.{ValueKind}
use Rattle.rpl_code.specs.declared.kind.ValueKind.TheVariants as K
use Rattle.rpl_code.specs.declared.instruction.Instruction.{Instruction}
use Rattle.rpl_code.specs.declared.instruction.Instruction.TheVariants as I
use Rattle.rpl_tree.specs.declared.words.OneWord.{OneWord}
use Rattle.rpl_tree.specs.declared.words.OneWord.TheVariants.{Not, Minus, Known, Length, Month, Day, Year}
use Rattle.rpl_tree.specs.declared.words.TwoWord.{TwoWord}
use Rattle.rpl_tree.specs.declared.words.TwoWord.TheVariants.{Or, And, Equal, Unequal, Less, LessEqual, Greater, GreaterEqual, Plus, Minus as Less_by, Times, Divide, Append, Item}
use Rattle.rpl_tree.specs.declared.words.ConvertWord.{ConvertWord}
use Rattle.rpl_tree.specs.declared.words.ConvertWord.TheVariants.{StorageToElevation, ElevationToStorage}
use Rattle.rpl_tree.specs.Value.{Kind, number_kind, truth_kind, date_kind, slot_kind, numbers_kind, slots_kind, is_same_kind, room_of}

abbrev pub code_kind : Kind → ValueKind
code_kind number_kind = K.N
code_kind truth_kind = K.B
code_kind date_kind = K.D
code_kind slot_kind = K.S
code_kind (numbers_kind m) = K.NList m
code_kind (slots_kind m) = K.SList m

abbrev pub code_kinds : List Kind → List ValueKind
code_kinds kinds = map code_kind kinds

-- a place that is jumped to, with the kinds of its operands, last one first
abbrev pub target : List Kind → Instruction
target kinds = I.Target (reverse (code_kinds kinds))

-- ---- numbers

abbrev pub factor_of : Option (Dimension × ℤ) → ℤ
factor_of None = pos 1
factor_of (Some unit) = unit.1

-- a number of base units
abbrev pub number_line : ℤ → Option (List ℕ) → Instruction
number_line n unit = I.Num (n *ℤ factor_of (unit_in units (unwrap_or unit [])))

-- ---- operators

-- of a word, but for KNOWN
abbrev pub one_line : OneWord → Instruction
one_line Not = I.Not
one_line Minus = I.Neg
one_line Known = I.Known
one_line Length = I.Length
one_line Month = I.Month
one_line Day = I.Day
one_line Year = I.Year

-- a test of numbers, or of dates
abbrev pub test_line : Kind → Instruction → Instruction → Instruction
test_line date_kind of_numbers of_dates = of_dates
test_line _ of_numbers of_dates = of_numbers

abbrev pub sum_line : Kind → Instruction
sum_line date_kind = I.Shift
sum_line _ = I.Add

abbrev pub difference_line : Kind → Kind → Instruction
difference_line date_kind date_kind = I.Between
difference_line date_kind _ = I.Back
difference_line _ _ = I.Sub

-- of operands of these kinds; a test's opposite is NOT of it. OR and AND have branches instead
abbrev pub two_lines : TwoWord → Kind → Kind → List Instruction
two_lines Or k l = []
two_lines And k l = []
two_lines Equal k l = test_line k I.Eq I.Deq ∷ []
two_lines Unequal k l = test_line k I.Eq I.Deq ∷ I.Not ∷ []
two_lines Less k l = test_line k I.Lt I.Dlt ∷ []
two_lines LessEqual k l = test_line k I.Le I.Dle ∷ []
two_lines Greater k l = test_line k I.Le I.Dle ∷ I.Not ∷ []
two_lines GreaterEqual k l = test_line k I.Lt I.Dlt ∷ I.Not ∷ []
two_lines Plus k l = sum_line k ∷ []
two_lines Less_by k l = difference_line k l ∷ []
two_lines Times k l = I.Mul ∷ []
two_lines Divide k l = I.Div ∷ []
two_lines Append k l = I.Append ∷ []
two_lines Item k l = I.Item ∷ []

abbrev pub convert_line : ConvertWord → List ℕ → Instruction
convert_line StorageToElevation object = I.ToElevation object
convert_line ElevationToStorage object = I.ToStorage object

-- ---- room

-- a list of a kind with less room than its place asks for is given that room
abbrev pub widening : Kind → Kind → List Instruction
widening place kind = if is_same_kind place kind then [] else I.Widen (room_of place) ∷ []

-- ---- how many lines

abbrev pub widening_size : Kind → Kind → ℕ
widening_size place kind = if is_same_kind place kind then 0 else 1

-- of an IF, by those of its condition and its branches
abbrev pub choice_size : ℕ → ℕ → ℕ → ℕ
choice_size c first second = c + (1 + (first + (2 + (second + 1))))

-- KNOWN takes the place of the look
abbrev pub one_size : OneWord → ℕ → ℕ
one_size Known e = e
one_size _ e = e + 1

abbrev pub two_size : TwoWord → ℕ → ℕ → ℕ
two_size Or l r = choice_size l 1 r
two_size And l r = choice_size l r 1
two_size Unequal l r = l + (r + 2)
two_size Greater l r = l + (r + 2)
two_size GreaterEqual l r = l + (r + 2)
two_size _ l r = l + (r + 1)
