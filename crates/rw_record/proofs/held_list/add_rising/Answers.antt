use Rattle.rw_record.proofs.Common.{[], ap, arith, length, length-take, rules, subst, sym, take, take_all, take_more, ◌+◌, ◌++◌, ◌<◌, ◌∙◌, ◌∷◌, ◌≡◌}
use Rattle.rw_base.proofs.Common.{get_or}
use Rattle.rw_record.specs.HeldList.{AreListed}
use Rattle.rw_record.specs.InOrder.{RisesSo, RisesTo, picked_out}
use Rattle.rw_record.proofs.InOrder.{few_picked, none_yet, one_above, picked_there}
use Rattle.rw_record.proofs.Listing.{none_listed}
use Rattle.rw_record.proofs.held_list.add_rising.Goals as goal

pub loop-place-init : goal.loop-place-init
loop-place-init c =
    (none_yet c.args.items.now _, none_listed c.args.cells.now.items c.args.contents.now.items c.requires.cells c.requires.contents)

pub add-requires : goal.add-requires
add-requires c =
    let so_far = take c.loop-place.place-index c.args.order.now in
    let some = length-take c.loop-place.place-index c.args.order.now in
    let fewer = few_picked c.args.items.now so_far in
    let all = c.requires.few in
    let few = c.loop-place.invariant.1.few in
    let room : length c.loop-place.contents.items < 65535 = omega (arith, some, fewer, all, few) in search rules

pub loop-place-preserved : goal.loop-place-preserved
loop-place-preserved c =
    let items = c.args.items.now in
    let order = c.args.order.now in
    let at = c.loop-place.place-index in
    let place = get_or order at 0 in
    let one = c.in-Some.one.now in
    let next : take (at + 1) order ≡ take at order ++ place ∷ [] = take_more order at 0 c.loop-place-test.true in
    let more : picked_out items (take (at + 1) order) ≡ picked_out items (take at order) ++ one ∷ [] =
    ap (picked_out items) next ∙ picked_there items (take at order) place one c.in-Some.ensures.there in (
      subst (λ them. RisesTo items them one.cell) (sym next)
          (one_above items (take at order) place c.loop-place.last one c.loop-place.invariant.0 c.in-Some.ensures),
      subst (λ them. AreListed them c.add.new.cells.items c.add.new.contents.items) (sym more)
          (c.in_ok-add-in-Some.ensures (picked_out items (take at order)) c.loop-place.invariant.1),
    )

pub returns : goal.returns
returns c = λ yes.
    let all = take_all c.loop-place.place-index c.args.order.now c.loop-place-test.false in (
      subst (RisesSo c.args.items.now) all c.loop-place.invariant.0.so,
      subst (λ them. AreListed (picked_out c.args.items.now them) c.loop-place.cells.items c.loop-place.contents.items) all
          c.loop-place.invariant.1,
    )
