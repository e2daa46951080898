use Rattle.rpl_compile.proofs.Common.{rules_of}
use Rattle.rpl_compile.proofs.Compiled.{typed_rules}
use Rattle.rpl_compile.proofs.TypedKinds.{typed_is_kinded}
use Rattle.rpl_compile.proofs.TypedRooms.{typed_is_roomy}
use Rattle.rpl_compile.proofs.compiling.code_text.Goals as goal

pub text_of-requires-clause-kinded : goal.text_of-requires-clause-kinded
text_of-requires-clause-kinded c =
    typed_is_kinded c.args.basin.now (rules_of c.rules-rules.result.now)
    (typed_rules c.args.basin.now c.args.typed.now.rules c.rules-rules.result.now c.rules-rules.ensures.rules c.requires)

pub text_of-requires-clause-rooms : goal.text_of-requires-clause-rooms
text_of-requires-clause-rooms c =
    typed_is_roomy c.args.basin.now (rules_of c.rules-rules.result.now)
    (typed_rules c.args.basin.now c.args.typed.now.rules c.rules-rules.result.now c.rules-rules.ensures.rules c.requires)
