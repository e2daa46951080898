-- The plain tree of a list of expressions, and of a list of statements, as the reading speaks of them.
use Rattle.rw_base.proofs.Common.{◌≡◌, ℕ, List, [], ◌∷◌, map, refl, ap, ap₂, ◌∙◌, Vec, Global}
use Rattle.rpl_tree.specs.declared.expression.Expr.{Expr}
use Rattle.rpl_tree.specs.declared.expression.Expr.TheVariants.{Call, List as Listed}
use Rattle.rpl_tree.specs.declared.statement.Statement.{Statement}
use Rattle.rpl_tree.specs.declared.statement.Statement.TheVariants.{If as Branched, With}
use Rattle.rpl_tree.proofs.Common.{tree, call, list, act, branch, with_name, tree_of, trees_in, act_of, acts_in}
use Rattle.rpl_tree.proofs.Viewed as Tree
use Rattle.rpl_parse.specs.Reading.{trees_of}
use Rattle.rpl_parse.specs.ReadingActs.{acts_of}

trees_listed : (expressions : List Expr) → trees_in expressions ≡ trees_of (map tree_of expressions)
trees_listed [] = refl
trees_listed (first ∷ expressions) = ap (tree (tree_of first)) (trees_listed expressions)

pub acts_listed : (statements : List Statement) → acts_in statements ≡ acts_of (map act_of statements)
acts_listed [] = refl
acts_listed (first ∷ statements) = ap (act (act_of first)) (acts_listed statements)

pub tree_of_list : (expressions : Vec Expr Global) → tree_of (Listed expressions) ≡ list (trees_of (map tree_of expressions.items))
tree_of_list expressions = Tree.tree_of_list expressions ∙ ap list (trees_listed expressions.items)

pub tree_of_call : (function_name : Vec ℕ Global) (expressions : Vec Expr Global)
    → tree_of (Call function_name expressions) ≡ call function_name.items (trees_of (map tree_of expressions.items))
tree_of_call function_name expressions = Tree.tree_of_call function_name expressions ∙ ap (call function_name.items) (trees_listed expressions.items)

pub act_of_branch : (condition : Expr) (first second : Vec Statement Global)
    → act_of (Branched condition first second) ≡ branch (tree_of condition) (acts_of (map act_of first.items)) (acts_of (map act_of second.items))
act_of_branch condition first second = Tree.act_of_branch condition first second
    ∙ ap₂ (branch (tree_of condition)) (acts_listed first.items) (acts_listed second.items)

pub act_of_with : (new_name : Vec ℕ Global) (expression : Expr) (body : Vec Statement Global)
    → act_of (With new_name expression body) ≡ with_name new_name.items (tree_of expression) (acts_of (map act_of body.items))
act_of_with new_name first body = Tree.act_of_with new_name first body ∙ ap (with_name new_name.items (tree_of first)) (acts_listed body.items)
