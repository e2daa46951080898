use Rattle.rpl_compile.proofs.Common.{rules_of, ◌∙◌}
use Rattle.rpl_compile.proofs.BlocksWritten.{translated}
use Rattle.rpl_compile.proofs.ruleset.into_blocks.Goals as goal

pub returns : goal.returns
returns c =
    c.in_ok-blocks.ensures
    ∙ translated c.args.basin.now c.object_count-objects.ensures.valid (rules_of c.args.rules) c.requires.rooms c.requires.kinded
