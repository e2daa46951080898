-- How many elements a list of trees has.
use Rattle.rw_base.proofs.Common.{◌≡◌, List, [], ◌∷◌, length, refl, arith}
use Rattle.rpl_tree.specs.declared.expression.Expr.{Expr}
use Rattle.rpl_tree.proofs.Common.{count_of, trees_in}

pub count_is : (expressions : List Expr) → count_of (trees_in expressions) ≡ length expressions
count_is [] = refl
count_is (first ∷ expressions) = let rest = count_is expressions in omega (arith, rest)
