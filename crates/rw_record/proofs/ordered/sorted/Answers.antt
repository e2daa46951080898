use Rattle.rw_record.proofs.Common.{Contains, Held, List, ap, length, subst, sym, ◌∙◌, ◌↔◌, ◌≡◌, ◌≤◌}
use Rattle.rw_record.specs.InOrder.{RisesAll, picked_out}
use Rattle.rw_record.specs.Record.{AreRisingCells}
use Rattle.rw_record.proofs.InOrder.{for_ok, members}
use Rattle.rw_record.proofs.ordered.sorted.Goals as goal

pub of-requires : goal.of-requires
of-requires c = subst (λ n. n ≤ 6000) (sym (ap length c.as_slice.ensures.value ∙ c.in_ok-sort.ensures.all)) c.requires.few

pub returns-clause-rising : goal.returns-clause-rising
returns-clause-rising c =
    let rises = subst (RisesAll c.args.items.now) (sym c.as_slice.ensures.value) c.in_ok-sort.ensures in
    for_ok (λ (list : List Held). list ≡ picked_out c.args.items.now c.as_slice.result.now) (λ (list : List Held). AreRisingCells list)
    c.of.result c.of.ensures (λ list is. subst AreRisingCells (sym is) rises.so.up)

pub returns-clause-members : goal.returns-clause-members
returns-clause-members c =
    let items = c.args.items.now in
    let order = c.as_slice.result.now in
    let rises = subst (RisesAll items) (sym c.as_slice.ensures.value) c.in_ok-sort.ensures in
    for_ok (λ (list : List Held). list ≡ picked_out items order) (λ (list : List Held). (one : Held) → Contains list one ↔ Contains items one)
    c.of.result c.of.ensures
    (λ list is. subst (λ (list : List Held). (one : Held) → Contains list one ↔ Contains items one) (sym is)
    (members items order c.requires.once rises))
