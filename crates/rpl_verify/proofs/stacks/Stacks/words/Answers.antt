use Rattle.std.proofs.Common.{arith}
use Rattle.rpl_verify.proofs.StackFacts.{node_of}
use Rattle.rpl_verify.proofs.stacks.Stacks.words.Goals as goal

pub returns-then-n-eq0 : goal.returns-then-n-eq0
returns-then-n-eq0 c = let h = c.self.invariant.empty in rw (c.if-n-eq0.true, ← c.self.view_is, h) (omega arith)

pub returns : goal.returns
returns c =
    let i =
    node_of c.self.inside.nodes.items c.self.inside.numbers c.args.self.now c.args.n c.index.result.now c.self.view_is c.self.invariant
    c.if-n-eq0.false c.requires c.index.ensures in
    i.heavy
