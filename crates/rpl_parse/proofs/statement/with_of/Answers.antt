use Rattle.std.proofs.Common.{ap, map, ◌∙◌, ℕ, List}
use Rattle.rpl_tree.proofs.Common.{with_name, tree_of, act_of}
use Rattle.rpl_parse.specs.ReadingActs.{acts_of}
use Rattle.rpl_parse.proofs.Viewed.{act_of_with}
use Rattle.rpl_parse.proofs.statement.with_of.Goals as goal

pub returns-clause-ok : goal.returns-clause-ok
returns-clause-ok c =
    act_of_with c.in_ok-name.name c.args.value c.args.body
    ∙ ap (λ (called_so : List ℕ). with_name called_so (tree_of c.args.value) (acts_of (map act_of c.args.body.items))) c.in_ok-name.ensures.ok
