use Rattle.rpl_compile.proofs.Common.{ap, refusal, misfit_refusal_of}
use Rattle.rpl_compile.proofs.Compiled.{never_refused}
use Rattle.rpl_compile.proofs.compiling.compile_away.Goals as goal

pub unreachable-requires : goal.unreachable-requires
unreachable-requires c =
    let why = refusal c.in-Err-Refused.field-0-0 c.in-Err-Refused.field-0-1 c.in-Err-Refused.field-0-2 in
    never_refused c.args.basin.now c.args.typed.rules c.rules-rules.result.now c.in_ok-code.code why c.rules-rules.ensures.rules
    c.rules-rules.ensures.limited c.requires c.in_ok-code.ensures
    (c.in-Err-Refused.ensures.0 why (ap misfit_refusal_of c.in-Err-Refused.field-0-is))
