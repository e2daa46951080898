use Rattle.rpl_compile.proofs.Common.{IsCode, rules_of, subst, sym}
use Rattle.rpl_compile.proofs.Compiled.{typed_rules}
use Rattle.rpl_compile.proofs.Spelling.{compiled_can_be_spelt}
use Rattle.rpl_compile.proofs.TypedKinds.{typed_is_kinded}
use Rattle.rpl_compile.proofs.TypedRooms.{typed_is_roomy}
use Rattle.rpl_compile.proofs.compiling.into_code.Goals as goal

pub into_blocks-requires-clause-kinded : goal.into_blocks-requires-clause-kinded
into_blocks-requires-clause-kinded c =
    typed_is_kinded c.args.basin.now (rules_of c.into_rules-rules.result)
    (typed_rules c.args.basin.now c.args.typed.rules c.into_rules-rules.result c.into_rules-rules.ensures.rules c.requires)

pub into_blocks-requires-clause-rooms : goal.into_blocks-requires-clause-rooms
into_blocks-requires-clause-rooms c =
    typed_is_roomy c.args.basin.now (rules_of c.into_rules-rules.result)
    (typed_rules c.args.basin.now c.args.typed.rules c.into_rules-rules.result c.into_rules-rules.ensures.rules c.requires)

pub of-requires : goal.of-requires
of-requires c =
    subst IsCode (sym c.in_ok-blocks.ensures)
    (compiled_can_be_spelt c.args.basin.now (rules_of c.into_rules-rules.result) c.object_count-objects.ensures.valid
    (typed_rules c.args.basin.now c.args.typed.rules c.into_rules-rules.result c.into_rules-rules.ensures.rules c.requires)
    c.into_rules-rules.ensures.limited)
