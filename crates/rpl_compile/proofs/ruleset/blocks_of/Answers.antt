use Rattle.rpl_compile.proofs.Common.{rules_of, ◌∙◌}
use Rattle.rpl_compile.proofs.BlocksWritten.{translated}
use Rattle.rpl_compile.proofs.ruleset.blocks_of.Goals as goal

pub returns : goal.returns
returns c =
    c.in_ok-blocks.ensures
    ∙ translated c.args.basin.now c.object_count-objects.ensures.valid (rules_of c.args.rules.now) c.requires.rooms c.requires.kinded
