-- The plain trees of lists of expressions, and of lists of statements, by the elements of their vectors.
use Rattle.rw_base.proofs.Common.{◌≡◌, ℕ, List, [], ◌∷◌, refl, ap, ap₂, ◌∙◌, Vec, Global, Count}
use Rattle.rpl_tree.specs.declared.expression.Expr.{Expr, Row_of-Expr, end_of-Expr, more_of-Expr, items-the_row-Expr, items_hidden-the_row-Expr-0}
use Rattle.rpl_tree.specs.declared.expression.Expr.TheVariants.{Call, Call', List as Listed, List'}
use Rattle.rpl_tree.specs.declared.statement.Statement.{Statement, Row_of-Statement, end_of-Statement, more_of-Statement, items-the_row-Statement}
use Rattle.rpl_tree.specs.declared.statement.Statement.{items_hidden-the_row-Statement-0}
use Rattle.rpl_tree.specs.declared.statement.Statement.TheVariants.{If as Branched, If', With, With'}
use Rattle.rpl_tree.specs.Tree.{Tree, no_trees, tree, call, list, act, branch, with_name}
use Rattle.rpl_tree.specs.Seen.{tree_of, trees_of, trees_in, act_of, acts_of, acts_in}

-- ---- expressions

row_trees : (n : _) (row : Row_of-Expr n) → trees_of row ≡ trees_in (items-the_row-Expr n row)
row_trees n end_of-Expr = refl
row_trees n (more_of-Expr e rest) = ap (tree (tree_of e)) (row_trees _ rest)

abbrev row_of : Expr → (n : Count) × Row_of-Expr n
row_of (List' shape row) = (_, row)
row_of (Call' f shape row) = (_, row)
row_of _ = (_, end_of-Expr)

pub tree_of_list : (es : Vec Expr Global) → tree_of (Listed es) ≡ list (trees_in es.items)
tree_of_list es = let row = row_of (Listed es) in ap list (row_trees row.0 row.1 ∙ ap trees_in (items_hidden-the_row-Expr-0 es))

pub tree_of_call : (f : Vec ℕ Global) (es : Vec Expr Global) → tree_of (Call f es) ≡ call f.items (trees_in es.items)
tree_of_call f es = let row = row_of (Call f es) in ap (call f.items) (row_trees row.0 row.1 ∙ ap trees_in (items_hidden-the_row-Expr-0 es))

-- a call with one argument
pub call_of_one : (f : Vec ℕ Global) (es : Vec Expr Global) (e : Expr) (x : List ℕ) (t : Tree)
    → f.items ≡ x → es.items ≡ e ∷ [] → tree_of e ≡ t → tree_of (Call f es) ≡ call x (tree t no_trees)
call_of_one f es e x t named holds means =
    tree_of_call f es ∙ ap₂ call named (ap trees_in holds ∙ ap (λ (u : Tree). tree u no_trees) means)

-- ---- statements

row_acts : (n : _) (row : Row_of-Statement n) → acts_of row ≡ acts_in (items-the_row-Statement n row)
row_acts n end_of-Statement = refl
row_acts n (more_of-Statement s rest) = ap (act (act_of s)) (row_acts _ rest)

abbrev first_row : Statement → (n : Count) × Row_of-Statement n
first_row (If' c shape first shape2 second) = (_, first)
first_row (With' x e shape body) = (_, body)
first_row _ = (_, end_of-Statement)

abbrev second_row : Statement → (n : Count) × Row_of-Statement n
second_row (If' c shape first shape2 second) = (_, second)
second_row _ = (_, end_of-Statement)

pub act_of_branch : (c : Expr) (ys ns : Vec Statement Global)
    → act_of (Branched c ys ns) ≡ branch (tree_of c) (acts_in ys.items) (acts_in ns.items)
act_of_branch c ys ns =
    let first = first_row (Branched c ys ns) in
    let second = second_row (Branched c ys ns) in
    ap₂ (branch (tree_of c)) (row_acts first.0 first.1 ∙ ap acts_in (items_hidden-the_row-Statement-0 ys))
    (row_acts second.0 second.1 ∙ ap acts_in (items_hidden-the_row-Statement-0 ns))

pub act_of_with : (x : Vec ℕ Global) (e : Expr) (body : Vec Statement Global)
    → act_of (With x e body) ≡ with_name x.items (tree_of e) (acts_in body.items)
act_of_with x e body =
    let row = first_row (With x e body) in
    ap (with_name x.items (tree_of e)) (row_acts row.0 row.1 ∙ ap acts_in (items_hidden-the_row-Statement-0 body))
