use Rattle.std.proofs.Common.{sym, ◌∙◌, subst}
use Rattle.rpl_verify.specs.Steps.{scope_in}
use Rattle.rpl_verify.specs.Answered.{GoesAt}
use Rattle.rpl_verify.proofs.JudgeFacts.{named}
use Rattle.rpl_verify.proofs.judge.judge.Goals as goal

pub returns-in-None : goal.returns-in-None
returns-in-None c =
    let w = c.args.walk.now in
    let scope = scope_in c.args.basin.now c.args.blocks.now c.args.number c.args.head.now c.args.locals.now w.spots in
    let same = named scope c.args.place w.before c.args.instruction.now (sym (c.name_misfit.ensures c.args.locals.now w.spots) ∙ c.in-None.is) in
    subst (λ given. GoesAt c.args.place given w c.act_at.new.walk c.act_at.result) (sym same)
    (c.act_at.ensures c.args.basin.now c.args.number c.args.head.now)
