use Rattle.rw_model.proofs.PlaceNumbers.{numbers-more}
use Rattle.rw_model.proofs.numbers.push_numbers.Goals as goal

pub loop-place-preserved : goal.loop-place-preserved
loop-place-preserved c =
    numbers-more c.args.objects.now c.args.before c.loop-place.place _ _ _ c.loop-place-test.true c.loop-place.invariant c.slot_in_place.ensures
    c.in_ok-push.ensures.items
