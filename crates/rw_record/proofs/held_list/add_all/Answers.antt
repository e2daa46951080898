use Rattle.rw_record.proofs.Common.{[], ap, arith, length, length-take, rules, subst, sym, take, take_all, take_more, ◌+◌, ◌++◌, ◌<◌, ◌∙◌, ◌∷◌, ◌≡◌}
use Rattle.rw_base.proofs.Common.{get_or}
use Rattle.rw_record.specs.HeldList.{AreListed}
use Rattle.rw_record.specs.InOrder.{picked_out}
use Rattle.rw_record.proofs.InOrder.{few_picked, picked_push}
use Rattle.rw_record.proofs.Listing.{none_listed}
use Rattle.rw_record.proofs.held_list.add_all.Goals as goal

pub loop-place-init : goal.loop-place-init
loop-place-init c = none_listed c.args.cells.now.items c.args.contents.now.items c.requires.cells c.requires.contents

pub add_found-requires : goal.add_found-requires
add_found-requires c =
    let so_far = take c.loop-place.place-index c.args.order.now in
    let some = length-take c.loop-place.place-index c.args.order.now in
    let fewer = few_picked c.args.items.now so_far in
    let all = c.requires.few in
    let few = c.loop-place.invariant.few in
    let room : length c.loop-place.contents.items < 65535 = omega (arith, some, fewer, all, few) in search rules

pub loop-place-preserved : goal.loop-place-preserved
loop-place-preserved c =
    let items = c.args.items.now in
    let order = c.args.order.now in
    let at = c.loop-place.place-index in
    let place = get_or order at 0 in
    let next : take (at + 1) order ≡ take at order ++ place ∷ [] = take_more order at 0 c.loop-place-test.true in
    subst (λ them. AreListed them c.add_found.new.cells.items c.add_found.new.contents.items)
    (sym (ap (picked_out items) next ∙ picked_push items (take at order) place))
    (c.in_ok-add_found.ensures (picked_out items (take at order)) c.loop-place.invariant)

pub returns : goal.returns
returns c =
    subst (λ them. AreListed (picked_out c.args.items.now them) c.loop-place.cells.items c.loop-place.contents.items)
    (take_all c.loop-place.place-index c.args.order.now c.loop-place-test.false) c.loop-place.invariant
