-- Rulesets as definitions see them: trees with no place in memory. Names, units and strings are their bytes.
use Rattle.std.specs.Prelude.{ℕ, ℤ, Bool, List, Option}
use Rattle.rpl_tree.specs.declared.words.OneWord.{OneWord}
use Rattle.rpl_tree.specs.declared.words.TwoWord.{TwoWord}
use Rattle.rpl_tree.specs.declared.words.ConvertWord.{ConvertWord}

-- a type as it is written: a number or slot of a unit, a truth, a date, or a list of so many
pub data TypeName : Type 0 where
  numeric : List ℕ → TypeName
  boolean : TypeName
  datetime : TypeName
  slot_type : List ℕ → TypeName
  numeric_list : ℤ → List ℕ → TypeName
  slot_list : ℤ → List ℕ → TypeName

-- an expression, in the order of `Expr`
mutual
  pub data Tree : Type 0 where
    literal : ℤ → Option (List ℕ) → Tree
    truth : Bool → Tree
    now : Tree
    slot : List ℕ → List ℕ → Tree
    name : List ℕ → Tree
    call : List ℕ → Trees → Tree
    brackets : Tree → Tree
    list : Trees → Tree
    choice : Tree → Tree → Tree → Tree
    bind : List ℕ → Tree → Tree → Tree
    each : List ℕ → Tree → List ℕ → Tree → Tree → Tree
    mapped : List ℕ → Tree → Tree → Tree
    one : OneWord → Tree → Tree
    two : TwoWord → Tree → Tree → Tree
    convert : ConvertWord → List ℕ → Tree → Tree
    at : Tree → Tree → Tree

  pub data Trees : Type 0 where
    no_trees : Trees
    tree : Tree → Trees → Trees

-- a statement, in the order of `Statement`
mutual
  pub data Act : Type 0 where
    assign : List ℕ → List ℕ → ℤ → Tree → Act
    branch : Tree → Acts → Acts → Act
    with_name : List ℕ → Tree → Acts → Act

  pub data Acts : Type 0 where
    no_acts : Acts
    act : Act → Acts → Acts

pub record Parameter : Type 0 where
  pub name : List ℕ
  pub of_type : TypeName

pub data Declared : Type 0 where
  rule : List ℕ → Acts → Declared
  function : List ℕ → List Parameter → TypeName → Tree → Declared
