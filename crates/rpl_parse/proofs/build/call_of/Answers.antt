use Rattle.std.proofs.Common.{ap, map, ◌∙◌, ℕ, List}
use Rattle.rpl_tree.proofs.Common.{call, tree_of}
use Rattle.rpl_parse.specs.Reading.{trees_of}
use Rattle.rpl_parse.proofs.Viewed.{tree_of_call}
use Rattle.rpl_parse.proofs.build.call_of.Goals as goal

pub returns-clause-ok : goal.returns-clause-ok
returns-clause-ok c =
    tree_of_call c.in_ok-name.name c.args.args
    ∙ ap (λ (called_so : List ℕ). call called_so (trees_of (map tree_of c.args.args.items))) c.in_ok-name.ensures.ok
