-- How many elements a list of trees has.
use Rattle.rpl_compile.proofs.Common.{List, [], arith, count_of, length, refl, trees_in, ◌∷◌, ◌≡◌}
use Rattle.rpl_tree.specs.declared.expression.Expr.{Expr}

pub count_is : (expressions : List Expr) → count_of (trees_in expressions) ≡ length expressions
count_is [] = refl
count_is (first ∷ expressions) = let rest = count_is expressions in omega (arith, rest)
