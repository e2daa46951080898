use Rattle.rpl_compile.proofs.Common.{IsCode, rules_of, subst, sym}
use Rattle.rpl_compile.proofs.Compiled.{typed_rules}
use Rattle.rpl_compile.proofs.Spelling.{compiled_can_be_spelt}
use Rattle.rpl_compile.proofs.TypedKinds.{typed_is_kinded}
use Rattle.rpl_compile.proofs.TypedRooms.{typed_is_roomy}
use Rattle.rpl_compile.proofs.compiling.code_of.Goals as goal

pub blocks_of-requires-clause-kinded : goal.blocks_of-requires-clause-kinded
blocks_of-requires-clause-kinded c =
    typed_is_kinded c.args.basin.now (rules_of c.rules-rules.result.now)
    (typed_rules c.args.basin.now c.args.typed.now.rules c.rules-rules.result.now c.rules-rules.ensures.rules c.requires)

pub blocks_of-requires-clause-rooms : goal.blocks_of-requires-clause-rooms
blocks_of-requires-clause-rooms c =
    typed_is_roomy c.args.basin.now (rules_of c.rules-rules.result.now)
    (typed_rules c.args.basin.now c.args.typed.now.rules c.rules-rules.result.now c.rules-rules.ensures.rules c.requires)

pub of-requires : goal.of-requires
of-requires c =
    subst IsCode (sym c.in_ok-blocks.ensures)
    (compiled_can_be_spelt c.args.basin.now (rules_of c.rules-rules.result.now) c.object_count-objects.ensures.valid
    (typed_rules c.args.basin.now c.args.typed.now.rules c.rules-rules.result.now c.rules-rules.ensures.rules c.requires)
    c.rules-rules.ensures.limited)
