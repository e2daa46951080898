use Rattle.rw_base.proofs.Common.{◌≡◌, ◌+◌, ◌++◌, ◌∷◌, [], ap, map, take, sym, ◌∙◌, map-append, take_all, take_more}
use Rattle.rpl_tree.specs.Seen.{parameter_of}
use Rattle.rpl_types.proofs.Heading.{same_signature, taken, taken_more}
use Rattle.rpl_types.proofs.heads.signature.Goals as goal

pub loop-param-preserved : goal.loop-param-preserved
loop-param-preserved c =
    let at = c.loop-param.param-index in
    let low = c.loop-param-test.true in
    let step : take (at + 1) c.args.params.now ≡ take at c.args.params.now ++ c.param-item.result ∷ [] =
    take_more c.args.params.now at c.param-item.result low ∙ ap (λ p. take at c.args.params.now ++ p ∷ []) (sym c.param-item.is) in
    taken_more c.loop-param.takes.items _ c.type_here.result (parameter_of c.param-item.result) (map parameter_of (take at c.args.params.now)) _
    c.loop-param.invariant c.in-Ok.ensures.items c.type_here.ensures
    (ap (map parameter_of) step ∙ map-append parameter_of (take at c.args.params.now) (c.param-item.result ∷ []))

pub returns-clause-ok : goal.returns-clause-ok
returns-clause-ok c =
    let whole = take_all c.loop-param.param-index c.args.params.now c.loop-param-test.false in
    same_signature _ _ _ _ _ (c.loop-param.invariant ∙ ap (λ ps. taken (map parameter_of ps)) whole) c.type_here-2.ensures
