use Rattle.rw_base.proofs.Common.{None, Some, [], ap, length, rules, ◌++◌, ◌∙◌, ◌∷◌, ◌≡◌}
use Rattle.rw_rerun.proofs.Exchanges.{exchange_on}
use Rattle.rw_rerun.proofs.exchange.exchange.Goals as goal

pub loop-change-preserved-in-Some-change : goal.loop-change-preserved-in-Some-change
loop-change-preserved-in-Some-change c =
    let at : c.len-place.result ≡ length c.pop.new.self.items = search rules in
    let on =
    exchange_on c.loop-change.kept.items _ c.loop-change.changes.items c.pop.new.self.items (Some c.in-Some-change.record) c.len-place.result at
    (c.in-Some.ensures.items ∙ ap (λ change. c.pop.new.self.items ++ change ∷ []) c.in-Some-change.is) c.loop-change.invariant.near
    c.loop-change.invariant.whole in record { near = on.0; whole = on.1 }

pub loop-change-preserved-in-Some-change-2 : goal.loop-change-preserved-in-Some-change-2
loop-change-preserved-in-Some-change-2 c =
    let at : c.len-place.result ≡ length c.pop.new.self.items = search rules in
    let on =
    exchange_on c.loop-change.kept.items _ c.loop-change.changes.items c.pop.new.self.items (Some c.in-Some-change.record) c.len-place.result at
    (c.in-Some.ensures.items ∙ ap (λ change. c.pop.new.self.items ++ change ∷ []) c.in-Some-change.is) c.loop-change.invariant.near
    c.loop-change.invariant.whole in record { near = on.0; whole = on.1 }

pub loop-change-preserved : goal.loop-change-preserved
loop-change-preserved c =
    let none : c.in-Some.change ≡ None = search rules in
    let at : c.len-place.result ≡ length c.pop.new.self.items = search rules in
    let on = exchange_on c.loop-change.kept.items _ c.loop-change.changes.items c.pop.new.self.items None c.len-place.result at
    (c.in-Some.ensures.items ∙ ap (λ change. c.pop.new.self.items ++ change ∷ []) none) c.loop-change.invariant.near c.loop-change.invariant.whole in
    record { near = on.0; whole = on.1 }
