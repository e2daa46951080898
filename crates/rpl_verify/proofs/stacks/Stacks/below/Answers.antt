use Rattle.std.proofs.Common.{refl, sym, ap, arith}
use Rattle.rpl_verify.specs.Places.{rest_of}
use Rattle.rpl_verify.proofs.StackFacts.{node_of}
use Rattle.rpl_verify.proofs.stacks.Stacks.below.Goals as goal

pub returns-then-n-eq0 : goal.returns-then-n-eq0
returns-then-n-eq0 c =
    let h = c.self.invariant.empty in
    let r = c.requires in
    let z = c.if-n-eq0.true in
    record { within = omega (arith, r, z); is = rw (z, ← c.self.view_is, h) refl }

pub returns : goal.returns
returns c =
    let i =
    node_of c.self.inside.nodes.items c.self.inside.numbers c.args.self.now c.args.n c.index.result.now c.self.view_is c.self.invariant
    c.if-n-eq0.false c.requires c.index.ensures in
    record { within = i.low; is = sym (ap rest_of i.made) }
