-- The kind of value that an expression has, by the kinds of its names.
use Rattle.std.specs.Prelude.{ℕ, ◌+◌, nat_lt, unsigned_abs, List, [], ◌∷◌, bytes_eq, if◌then◌else◌}
use Rattle.rpl_tree.specs.declared.words.OneWord.{OneWord}
use Rattle.rpl_tree.specs.declared.words.OneWord.TheVariants.{Not, Minus, Known, Length, Month, Day, Year}
use Rattle.rpl_tree.specs.declared.words.TwoWord.{TwoWord}
use Rattle.rpl_tree.specs.declared.words.TwoWord.TheVariants.{Or, And, Equal, Unequal, Less, LessEqual, Greater, GreaterEqual, Plus, Minus as Less_by, Times, Divide, Append, Item}
use Rattle.rpl_tree.specs.Value.{Kind, number_kind, truth_kind, date_kind, slot_kind, numbers_kind, slots_kind, list_kind, element_of, room_of}
use Rattle.rpl_tree.specs.Tree.{TypeName, numeric, boolean, datetime, slot_type, numeric_list, slot_list, Tree, Trees, literal, truth, now, slot, name, call, brackets, list, choice, bind, each, mapped, one, two, convert, at, no_trees, tree}

-- what a call has to know of a function: its name, the kinds of its parameters, and the kind of its result
pub record Head : Type 0 where
  pub name : List ℕ
  pub takes : List Kind
  pub result : Kind

-- the kinds of the names that can be used, innermost first
abbrev pub Names : Type 0
Names = List (List ℕ × Kind)

-- of names and functions that aren't there it is that of a number
abbrev pub kind_named : Names → List ℕ → Kind
kind_named [] x = number_kind
kind_named (entry ∷ names) x = if bytes_eq entry.0 x then entry.1 else kind_named names x

abbrev pub result_named : List Head → List ℕ → Kind
result_named [] f = number_kind
result_named (head ∷ heads) f = if bytes_eq head.name f then head.result else result_named heads f

-- the kinds that it takes
abbrev pub takes_named : List Head → List ℕ → List Kind
takes_named [] f = []
takes_named (head ∷ heads) f = if bytes_eq head.name f then head.takes else takes_named heads f

abbrev pub kind_of_type : TypeName → Kind
kind_of_type (numeric unit) = number_kind
kind_of_type boolean = truth_kind
kind_of_type datetime = date_kind
kind_of_type (slot_type unit) = slot_kind
kind_of_type (numeric_list m unit) = numbers_kind (unsigned_abs m)
kind_of_type (slot_list m unit) = slots_kind (unsigned_abs m)

-- of two lists that with more room
abbrev pub join : Kind → Kind → Kind
join a b = if nat_lt (room_of a) (room_of b) then b else a

abbrev pub one_kind : OneWord → Kind
one_kind Not = truth_kind
one_kind Known = truth_kind
one_kind Minus = number_kind
one_kind Length = number_kind
one_kind Month = number_kind
one_kind Day = number_kind
one_kind Year = number_kind

abbrev pub difference_kind : Kind → Kind → Kind
difference_kind date_kind number_kind = date_kind
difference_kind _ _ = number_kind

abbrev pub two_kind : TwoWord → Kind → Kind → Kind
two_kind Or a b = truth_kind
two_kind And a b = truth_kind
two_kind Equal a b = truth_kind
two_kind Unequal a b = truth_kind
two_kind Less a b = truth_kind
two_kind LessEqual a b = truth_kind
two_kind Greater a b = truth_kind
two_kind GreaterEqual a b = truth_kind
two_kind Plus a b = a
two_kind Less_by a b = difference_kind a b
two_kind Times a b = number_kind
two_kind Divide a b = number_kind
two_kind Append a b = list_kind (room_of a + 1) b
two_kind Item a b = element_of a

abbrev pub count_of : Trees → ℕ
count_of no_trees = 0
count_of (tree t ts) = count_of ts + 1

module _ (heads : List Head) where
  abbrev mutual
    pub tree_kind : Names → Tree → Kind
    tree_kind names (literal n unit) = number_kind
    tree_kind names (truth b) = truth_kind
    tree_kind names now = date_kind
    tree_kind names (slot o s) = slot_kind
    tree_kind names (name x) = kind_named names x
    tree_kind names (call f ts) = result_named heads f
    tree_kind names (brackets t) = tree_kind names t
    tree_kind names (list ts) = list_kind (count_of ts) (first_kind names ts)
    tree_kind names (choice c y n) = join (tree_kind names y) (tree_kind names n)
    tree_kind names (bind x e b) = tree_kind ((x, tree_kind names e) ∷ names) b
    tree_kind names (each x l a f b) = tree_kind names f
    tree_kind names (mapped x l b) = numbers_kind (room_of (tree_kind names l))
    tree_kind names (one word e) = one_kind word
    tree_kind names (two word l r) = two_kind word (tree_kind names l) (tree_kind names r)
    tree_kind names (convert word o e) = number_kind
    tree_kind names (at s d) = number_kind

    pub first_kind : Names → Trees → Kind
    first_kind names no_trees = number_kind
    first_kind names (tree t ts) = tree_kind names t
