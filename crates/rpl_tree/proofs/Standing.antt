-- OR is the IF that it stands for.
use Rattle.std.proofs.Common.{◌≡◌, true, List, ap, sym}
use Rattle.rpl_tree.specs.declared.words.TwoWord.TheVariants.{Or}
use Rattle.rpl_tree.specs.Value.{Kind, truth_kind, a_truth}
use Rattle.rpl_tree.specs.Outcome.{gives, ◌>>=◌}
use Rattle.rpl_tree.specs.Operators.{chosen, widened}
use Rattle.rpl_tree.specs.World.{World}
use Rattle.rpl_tree.specs.Tree.{Tree, choice, truth, two}
use Rattle.rpl_tree.specs.Kinds.{join}
use Rattle.rpl_tree.specs.Mean.{Env, Function, kind_in, value_of}

pub or_stands : (world : World) (functions : List Function) (env : Env) (l r : Tree) → kind_in world functions env r ≡ truth_kind
    → value_of world functions env (two Or l r) ≡ value_of world functions env (choice l (truth true) r)
or_stands world functions env l r e =
    ap (λ (k : Kind). value_of world functions env l
    >>= (λ x. chosen x (gives (a_truth true) 1 >>= widened (join truth_kind k)) (value_of world functions env r >>= widened (join truth_kind k))))
    (sym e)
