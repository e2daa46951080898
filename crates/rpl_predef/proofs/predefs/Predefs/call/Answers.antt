use Rattle.std.proofs.Common.{rules, arith, ◌≡◌, ◌∙◌, ap, sym, ◌+◌, ◌-◌}
use Rattle.rw_base.specs.Predefined.{predefined_of}
use Rattle.rpl_predef.proofs.Order.{in_order}
use Rattle.rpl_predef.proofs.predefs.Predefs.call.Goals as goal

pub returns : goal.returns
returns g c =
    let place = c.from.result - 1 in
    let counted : c.args.k ≡ 1 + place = omega (arith, c.from.ensures, c.requires) in
    let right = in_order (λ p. p.row) c.args.self.now.rows.items 1 place c.index.result.now c.args.self.now.ordered (search rules) in
    let own : c.index.result.now.row ≡ c.args.k = ap (λ p. p.row) c.index.ensures ∙ right ∙ sym counted in
    c.call.ensures ∙ ap (λ k. predefined_of k c.args.a c.args.b c.args.c) own
