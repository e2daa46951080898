use Rattle.std.proofs.Common.{◌-◌, ◌+◌, suc, sym, ◌∙◌, arith}
use Rattle.rpl_verify.proofs.Caps.{index-drop}
use Rattle.rpl_verify.proofs.table.look.Goals as goal

pub returns-then-to-place : goal.returns-then-to-place
returns-then-to-place c =
    let t = c.if-to-place.true in
    c.read.ensures ∙ sym (index-drop (suc c.args.place) c.args.most.now (c.args.to - suc c.args.place) c.args.to (omega (arith, t)))

pub returns-else-to-place : goal.returns-else-to-place
returns-else-to-place c =
    let t = c.if-to-place.false in
    c.read-else-to-place.ensures ∙ sym (index-drop (suc c.args.place) c.args.most.now (c.args.to - suc c.args.place) (c.args.place + 1)
    (omega (arith, t)))
