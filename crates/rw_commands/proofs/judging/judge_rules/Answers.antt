use Rattle.rw_commands.proofs.Common.{refl, subst, sym}
use Rattle.rw_base.proofs.Common.{IsOk}
use Rattle.rw_commands.proofs.CauseLemmas.{accepted_rules, refused_rules}
use Rattle.rw_commands.proofs.judging.judge_rules.Goals as goal

pub refusal_of_types-requires : goal.refusal_of_types-requires
refusal_of_types-requires c = λ why tells. refused_rules _ _ _ why c.in-Ok.ensures.read (c.in-Err-check.ensures.answers.0 why tells)

pub returns-in-Err : goal.returns-in-Err
returns-in-Err c = c.in-Err.ensures.read c.args.basin.now

pub returns-in-Ok-check : goal.returns-in-Ok-check
returns-in-Ok-check c =
    let is = accepted_rules c.args.basin.now c.args.text.now _ _ c.in-Ok.ensures.read c.in-Ok-check.ensures.answers in
    record { is = (refl, is); fits = subst IsOk (sym is.typed) refl }
