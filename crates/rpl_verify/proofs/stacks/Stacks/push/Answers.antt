use Rattle.rw_base.proofs.Common.{◌≡◌, true, ◌+◌, sym, ap, ◌∙◌, subst}
use Rattle.rpl_verify.specs.Stacks.{is_next, IsPushed}
use Rattle.rpl_verify.proofs.StackFacts.{made_next}
use Rattle.rpl_verify.proofs.stacks.Stacks.push.Goals as goal

pub returns-then-is_next-clause-made : goal.returns-then-is_next-clause-made
returns-then-is_next-clause-made c =
    let t : is_next c.self.inside.nodes.items c.args.below c.args.kind ≡ true =
    sym (ap (λ ns. is_next ns c.args.below c.args.kind) c.deref.ensures.value) ∙ sym c.is_next.ensures ∙ c.if-is_next.true in
    subst (λ ls. IsPushed ls ls c.args.kind c.args.below (c.args.below + 1)) c.self.view_is
    (made_next c.self.inside.nodes.items c.self.inside.numbers c.args.below c.args.kind c.self.invariant t)
