-- Lists of kinds, each held once, by number.
use Rattle.std.specs.Prelude.{◌≡◌, ◌≢◌, ◌<◌, ◌≤◌, ◌+◌, ◌*◌, ◌==◌, ◌&&◌, Bool, false, ℕ, zero, suc, List, [], ◌∷◌, ◌++◌, length, Option, Some, None, slice_get}
use Rattle.std.specs.Ordering.{nat_cmp}
use Rattle.std.specs.BTreeMap.{BTreeMap, get}
use Rattle.rpl_code.specs.declared.kind.ValueKind.{ValueKind}
use Rattle.rpl_code.specs.declared.kind.ValueKind.TheVariants as K
use Rattle.rpl_tree.specs.Budget.{capped, limits}
use Rattle.rpl_verify.specs.declared.stacks.Node.{Node}
use Rattle.rpl_verify.specs.Kinds.{is_same_value_kind, words_of_all}
use Rattle.rpl_verify.specs.Places.{rest_of}

-- the list of a number
abbrev pub at : List (List ValueKind) → ℕ → List ValueKind
at [] n = []
at (kinds ∷ lists) zero = kinds
at (kinds ∷ lists) (suc n) = at lists n

-- each node stands for its kind on top of a list before it
abbrev pub lists_after : List (List ValueKind) → List Node → List (List ValueKind)
lists_after lists [] = lists
lists_after lists (node ∷ nodes) = lists_after (lists ++ (node.kind ∷ at lists node.below) ∷ []) nodes

abbrev pub lists : List Node → List (List ValueKind)
lists nodes = lists_after ([] ∷ []) nodes

-- what had a number keeps it
pub record Grows (old new : List (List ValueKind)) : Type 0 where
  pub more : List (List ValueKind)
  pub is : new ≡ old ++ more

pub record IsPushed (old new : List (List ValueKind)) (kind : ValueKind) (below n : ℕ) : Type 0 where
  pub within : n < length new
  pub made : at new n ≡ kind ∷ at old below

-- the number of a list without its top
pub record IsListBelow (lists : List (List ValueKind)) (n m : ℕ) : Type 0 where
  pub within : m < length lists
  pub is : at lists m ≡ rest_of (at lists n)

-- ---- how they are held

-- kinds are told apart by these
abbrev pub kind_code : ValueKind → ℕ
kind_code K.N = 0
kind_code K.B = 1
kind_code K.D = 2
kind_code K.S = 3
kind_code (K.NList room) = 4 + 2 * room
kind_code (K.SList room) = 5 + 2 * room

abbrev pub key_of : ℕ → ValueKind → ℕ
key_of below kind = below * 262144 + kind_code kind

-- the node at a place
pub record IsNode (nodes : List Node) (place : ℕ) (node : Node) : Type 0 where
  pub low : node.below ≤ place
  pub made : at (lists nodes) (suc place) ≡ node.kind ∷ at (lists nodes) node.below
  pub high : node.height ≡ suc (length (at (lists nodes) node.below))
  pub flat : node.height ≤ suc place
  pub heavy : node.words ≡ capped limits.words (words_of_all (node.kind ∷ at (lists nodes) node.below))
  pub small : kind_code node.kind < 262144

-- a number that is found under a key
pub record IsKnown (nodes : List Node) (key number : ℕ) : Type 0 where
  pub place : ℕ
  pub node : Node
  pub is : number ≡ suc place
  pub here : slice_get nodes place ≡ Some node
  pub key_is : key_of node.below node.kind ≡ key

-- the list of the next number stands on this one, with this kind on top
abbrev pub stands_on : ℕ → ValueKind → Option Node → Bool
stands_on below kind None = false
stands_on below kind (Some node) = (node.below == below) && is_same_value_kind node.kind kind

abbrev pub is_next : List Node → ℕ → ValueKind → Bool
is_next nodes below kind = stands_on below kind (slice_get nodes below)

-- each list has one number: that behind the list below it, or else the one under its key
pub record IsKept (its_nodes : List Node) (kept : BTreeMap ℕ ℕ) : Type 0 where
  pub wide : length (lists its_nodes) ≡ suc (length its_nodes)
  pub empty : at (lists its_nodes) 0 ≡ []
  pub nodes : (index : ℕ) (node : Node) → slice_get its_nodes index ≡ Some node → IsNode its_nodes index node
  pub told : (index : ℕ) (node : Node) → slice_get its_nodes index ≡ Some node → node.below ≢ index
      → get nat_cmp kept (key_of node.below node.kind) ≡ Some (suc index)
  pub apart : (index : ℕ) (node : Node) → slice_get its_nodes index ≡ Some node → node.below ≢ index → is_next its_nodes node.below node.kind ≡ false
  pub known : (key number : ℕ) → get nat_cmp kept key ≡ Some number → IsKnown its_nodes key number
