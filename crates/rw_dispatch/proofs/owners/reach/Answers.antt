use Rattle.rw_base.proofs.Common.{arith, sym, ◌∙◌}
use Rattle.rw_dispatch.proofs.Owning.{left-out, reached-more}
use Rattle.rw_dispatch.proofs.owners.reach.Goals as goal

pub returns-then-is_but : goal.returns-then-is_but
returns-then-is_but c = λ seen has. left-out _ c.args.object seen c.args.reached.now (sym c.is_but.ensures ∙ c.if-is_but.true) has

pub returns : goal.returns
returns c = λ seen has.
    reached-more _ c.args.object seen c.args.reached.now _ c.requires.first (sym c.is_but.ensures ∙ c.if-is_but.false) c.set_bit.ensures.many
    c.set_bit.ensures.added c.lesser-reached.ensures.one (omega (arith, c.lesser-reached.ensures.other, c.from.ensures))
    c.greater-reached.ensures.one (omega (arith, c.greater-reached.ensures.other, c.from-2.ensures)) has
