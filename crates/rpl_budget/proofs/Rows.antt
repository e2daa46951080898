-- Arguments from a place on, for the parameters from there on.
use Rattle.rw_base.proofs.Common.{◌≡◌, ℕ, zero, suc, ◌+◌, ◌<◌, List, [], ◌∷◌, drop, length, refl, sym, ap, ap₂, ◌∙◌, arith, get_or, drop_more}
use Rattle.rpl_tree.specs.declared.expression.Expr.{Expr}
use Rattle.rpl_tree.proofs.Common.{Names, tree_of, trees_in}
use Rattle.rpl_budget.specs.declared.kind.TreeKind.{TreeKind}
use Rattle.rpl_budget.specs.declared.load.Load.{Load}
use Rattle.rpl_budget.specs.Pass.{Measured, Priced, argument, pass, pass_arguments, kinds_but_first}
use Rattle.rpl_budget.specs.Seen.{tree_kinds_seen}

rest_after : (kinds : List TreeKind) (place : ℕ) → kinds_but_first (tree_kinds_seen (drop place kinds)) ≡ tree_kinds_seen (drop (suc place) kinds)
rest_after [] zero = refl
rest_after [] (suc place) = refl
rest_after (kind ∷ kinds) zero = refl
rest_after (kind ∷ kinds) (suc place) = rest_after kinds place

rest_seen : (kinds : List TreeKind) (place : ℕ) → kinds_but_first (tree_kinds_seen (drop place kinds)) ≡ tree_kinds_seen (drop (place + 1) kinds)
rest_seen kinds place = let next : suc place ≡ place + 1 = omega arith in rest_after kinds place ∙ ap (λ n. tree_kinds_seen (drop n kinds)) next

-- an argument and those behind it
pub arguments_on : (functions : List Priced) (names : Names) (takes : List TreeKind) (expressions : List Expr) (place : ℕ) (expression : Expr)
    (value : Measured) (others : Load) → place < length expressions → expression ≡ get_or expressions place expression
    → value ≡ pass functions names (tree_of expression)
    → others ≡ pass_arguments functions names (tree_kinds_seen (drop (place + 1) takes)) (trees_in (drop (place + 1) expressions))
    → argument (tree_kinds_seen (drop place takes)) value others
    ≡ pass_arguments functions names (tree_kinds_seen (drop place takes)) (trees_in (drop place expressions))
arguments_on functions names takes expressions place expression value others less expression_is value_is others_are =
    let here : drop place expressions ≡ expression ∷ drop (place + 1) expressions = drop_more expressions place expression less
    ∙ ap (λ x. x ∷ drop (place + 1) expressions) (sym expression_is) in
    ap₂ (argument (tree_kinds_seen (drop place takes))) value_is
    (others_are ∙ ap (λ kinds. pass_arguments functions names kinds (trees_in (drop (place + 1) expressions))) (sym (rest_seen takes place)))
    ∙ ap (λ es. pass_arguments functions names (tree_kinds_seen (drop place takes)) (trees_in es)) (sym here)
