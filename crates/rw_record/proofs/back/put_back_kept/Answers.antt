use Rattle.rw_record.proofs.Common.{drop, held, subst, ◌+◌, ◌≤◌}
use Rattle.rw_base.proofs.Lists.{dropped_to}
use Rattle.rw_record.specs.Notes.{CanTakeBack}
use Rattle.rw_record.proofs.Backing.{all_back, one_back}
use Rattle.rw_record.proofs.back.put_back_kept.Goals as goal

pub loop-place-preserved : goal.loop-place-preserved
loop-place-preserved c = record {
  made = c.put_one.ensures.made;
  back = λ before was can.
      let items = c.args.items.now in
      let at = c.loop-place.place in
      let one = c.get.result in
      one_back c.args.basin.now before one (drop (at + 1) items) was c.loop-place.series c.put_one.new.series
      c.loop-place.invariant.made c.put_one.ensures.put c.put_one.ensures.passed
      (subst (CanTakeBack before (held c.loop-place.series)) (dropped_to items at one c.get.ensures) (c.loop-place.invariant.back before was can));
}

pub returns-clause-back : goal.returns-clause-back
returns-clause-back c before was can cell =
    all_back before c.loop-place.series c.args.items.now c.loop-place.place
    (subst (λ n. n ≤ c.loop-place.place) c.len-place-end.ensures c.loop-place-test.false) (c.loop-place.invariant.back before was can) cell
