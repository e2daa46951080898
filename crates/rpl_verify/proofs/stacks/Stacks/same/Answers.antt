use Rattle.std.proofs.Common.{◌<◌, sym, length}
use Rattle.rpl_verify.specs.Stacks.{at, lists}
use Rattle.rpl_verify.proofs.KindFacts.{same_kinds_refl}
use Rattle.rpl_verify.proofs.StackFacts.{differ}
use Rattle.rpl_verify.proofs.stacks.Stacks.same.Goals as goal

pub returns-then-a-b : goal.returns-then-a-b
returns-then-a-b c = rw c.if-a-b.true (sym (same_kinds_refl (at c.args.self.now c.args.b)))

pub returns : goal.returns
returns c =
    let v = c.self.view_is in
    let a : c.args.a < length (lists c.self.inside.nodes.items) = rw v c.requires.a_in in
    let b : c.args.b < length (lists c.self.inside.nodes.items) = rw v c.requires.b_in in
    rw (← v) (sym (differ c.self.inside.nodes.items c.self.inside.numbers c.args.a c.args.b c.self.invariant a b c.if-a-b.false))
