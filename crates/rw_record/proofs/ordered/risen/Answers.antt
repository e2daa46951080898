use Rattle.rw_record.proofs.Common.{Contains, Held, List, ap, length, rules, subst, sym, ◌∙◌, ◌↔◌, ◌≡◌, ◌≤◌}
use Rattle.rw_record.specs.InOrder.{RisesSo, picked_out}
use Rattle.rw_record.proofs.InOrder.{members}
use Rattle.rw_record.proofs.ordered.risen.Goals as goal

pub rising-requires : goal.rising-requires
rising-requires c =
    let same : length c.args.order.now.items ≡ length c.args.items.now = search rules in
    subst (λ n. n ≤ 6000) (sym (ap length c.as_slice.ensures.value ∙ same)) c.requires.few

pub returns-in-Some-clause-members : goal.returns-in-Some-clause-members
returns-in-Some-clause-members c =
    let items = c.args.items.now in
    let order = c.as_slice.result.now in
    let same : length c.args.order.now.items ≡ length items = search rules in
    let made : (c.in-Some.list ≡ picked_out items order) × RisesSo items order = search rules in
    subst (λ (list : List Held). (one : Held) → Contains list one ↔ Contains items one) (sym made.0)
    (members items order c.requires.once (record { all = ap length c.as_slice.ensures.value ∙ same; so = made.1 }))
