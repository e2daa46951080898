use Rattle.std.proofs.Common.{sym}
use Rattle.rpl_verify.proofs.WalkFacts.{closes}
use Rattle.rpl_verify.proofs.walk.Walk.close.Goals as goal

pub returns : goal.returns
returns c =
    let s = c.self.inside in
    closes s.stacks s.kinds s.opens.items c.pop.new.self.items c.in-Some.last s.landings.items c.args.self.now c.args.sort c.self.view_is
    c.in-Some.ensures.items (sym c.if-not-ends_here.ensures)
