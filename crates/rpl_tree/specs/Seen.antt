-- The ruleset that the declared types hold, as a plain tree.
use Rattle.std.specs.Prelude.{List, [], ◌∷◌, map, option_map}
use Rattle.rpl_tree.specs.declared.expression.Expr.{Expr}
use Rattle.rpl_tree.specs.declared.expression.Expr.TheVariants.{Number, Truth, Now, Slot, Name, Call', Brackets', List', If', Let', For', Map', One', Two', Convert', At'}
use Rattle.rpl_tree.specs.declared.expression.Expr.{Row_of-Expr, end_of-Expr, more_of-Expr}
use Rattle.rpl_tree.specs.declared.statement.Statement.{Statement}
use Rattle.rpl_tree.specs.declared.statement.Statement.TheVariants.{Assign, If' as Branch, With'}
use Rattle.rpl_tree.specs.declared.statement.Statement.{Row_of-Statement, end_of-Statement, more_of-Statement}
use Rattle.rpl_tree.specs.declared.rules.ParsedRules.{ParsedRules}
use Rattle.rpl_tree.specs.declared.rules.Declaration.{Declaration}
use Rattle.rpl_tree.specs.declared.rules.Declaration.TheVariants.{Rule, Function}
use Rattle.rpl_tree.specs.declared.rules.Param.{Param}
use Rattle.rpl_tree.specs.declared.rules.TypeText.{TypeText}
use Rattle.rpl_tree.specs.declared.rules.TypeText.TheVariants.{Numeric, Boolean, Datetime, Slot as SlotType, NumericList, SlotList}
use Rattle.rpl_tree.specs.Tree.{TypeName, numeric, boolean, datetime, slot_type, numeric_list, slot_list, Tree, Trees, literal, truth, now, slot, name, call, brackets, list, choice, bind, each, mapped, one, two, convert, at, no_trees, tree, Act, Acts, assign, branch, with_name, no_acts, act, Parameter, Declared, rule, function}

abbrev pub type_of : TypeText → TypeName
type_of (Numeric unit) = numeric unit.items
type_of Boolean = boolean
type_of Datetime = datetime
type_of (SlotType unit) = slot_type unit.items
type_of (NumericList m unit) = numeric_list m unit.items
type_of (SlotList m unit) = slot_list m unit.items

abbrev mutual
  pub tree_of : Expr → Tree
  tree_of (Number n unit) = literal n (option_map (λ u. u.items) unit)
  tree_of (Truth b) = truth b
  tree_of Now = now
  tree_of (Slot s) = slot s.object.items s.slot.items
  tree_of (Name x) = name x.items
  tree_of (Call' f shape args) = call f.items (trees_of args)
  tree_of (Brackets' p e) = brackets (tree_of e)
  tree_of (List' shape es) = list (trees_of es)
  tree_of (If' p c q y r n) = choice (tree_of c) (tree_of y) (tree_of n)
  tree_of (Let' x p e q b) = bind x.items (tree_of e) (tree_of b)
  tree_of (For' names p l q f r b) =
      each names.value.name.items (tree_of l) names.value.total.items (tree_of f) (tree_of b)
  tree_of (Map' x p l q b) = mapped x.items (tree_of l) (tree_of b)
  tree_of (One' word p e) = one word (tree_of e)
  tree_of (Two' word p l r) = two word (tree_of l) (tree_of r)
  tree_of (Convert' word o p e) = convert word o.items (tree_of e)
  tree_of (At' p s d) = at (tree_of s) (tree_of d)

  pub trees_of : {m : _} → Row_of-Expr m → Trees
  trees_of end_of-Expr = no_trees
  trees_of (more_of-Expr e es) = tree (tree_of e) (trees_of es)

-- the same of a list
abbrev pub trees_in : List Expr → Trees
trees_in [] = no_trees
trees_in (e ∷ es) = tree (tree_of e) (trees_in es)

abbrev mutual
  pub act_of : Statement → Act
  act_of (Assign target ahead e) = assign target.object.items target.slot.items ahead (tree_of e)
  act_of (Branch c p first q second) = branch (tree_of c) (acts_of first) (acts_of second)
  act_of (With' x e shape body) = with_name x.items (tree_of e) (acts_of body)

  pub acts_of : {m : _} → Row_of-Statement m → Acts
  acts_of end_of-Statement = no_acts
  acts_of (more_of-Statement s ss) = act (act_of s) (acts_of ss)

abbrev pub parameter_of : Param → Parameter
parameter_of p = record { name = p.name.items; of_type = type_of p.kind }

abbrev pub acts_in : List Statement → Acts
acts_in [] = no_acts
acts_in (s ∷ ss) = act (act_of s) (acts_in ss)

abbrev pub declared_of : Declaration → Declared
declared_of (Rule called_so body) = rule called_so.items (acts_in body.items)
declared_of (Function called_so params result body) =
    function called_so.items (map parameter_of params.items) (type_of result) (tree_of body)

abbrev pub rules_of : ParsedRules → List Declared
rules_of rules = map declared_of rules.declarations.items
