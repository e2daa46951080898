use Rattle.rw_base.proofs.Common.{◌++◌, ◌∷◌, [], ◌≡◌, ap, arith, length, subst, sym, ◌∙◌}
use Rattle.rpl_types.specs.Seen.{AreFirst, with_first}
use Rattle.rpl_types.proofs.Placed.{first_with_last}
use Rattle.rpl_types.proofs.functions.Functions.push.Goals as goal

pub invariant_of-self-2 : goal.invariant_of-self-2
invariant_of-self-2 c =
    let s = c.args.signature in
    let all = c.self.inside.signatures.items in
    let longer = c.push_reserved.ensures.items ∙ ap (λ some. some ++ s ∷ []) c.in_ok-reserve.ensures.items in
    let place : c.len.result ≡ length all =
    let kept = ap length c.in_ok-reserve.ensures.items in omega (arith, c.len.ensures, c.reserve.new.self.ok.0, kept) in
    subst (λ some. AreFirst some c.add_first.new.places) (sym longer)
    (subst (AreFirst (all ++ s ∷ [])) (sym (c.in_ok-add_first.ensures.ok ∙ ap (λ n. with_first s.name.now n c.self.inside.places) place))
    (first_with_last s all c.self.inside.places c.self.invariant))
