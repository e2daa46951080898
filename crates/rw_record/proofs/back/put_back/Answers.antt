use Rattle.rw_record.proofs.Common.{drop, drop_more, sym, subst, held, ◌∙◌, ◌∷◌, ◌+◌, ◌≡◌, ap}
use Rattle.rw_record.specs.Notes.{CanTakeBack}
use Rattle.rw_record.proofs.Backing.{all_back, one_back}
use Rattle.rw_record.proofs.back.put_back.Goals as goal

pub loop-one-preserved : goal.loop-one-preserved
loop-one-preserved c = record {
  made = c.put_one.ensures.made;
  back = λ before was can.
      let at = c.loop-one.one-index in
      let rest : drop at c.args.items.now ≡ c.one-item.result ∷ drop (at + 1) c.args.items.now =
      drop_more c.args.items.now at c.one-item.result c.loop-one-test.true ∙ ap (λ one. one ∷ drop (at + 1) c.args.items.now) (sym c.one-item.is) in
      one_back c.args.basin.now before c.one-item.result (drop (at + 1) c.args.items.now) was c.loop-one.series c.put_one.new.series
      c.loop-one.invariant.made
      c.put_one.ensures.put c.put_one.ensures.passed
      (subst (CanTakeBack before (held c.loop-one.series)) rest (c.loop-one.invariant.back before was can));
}

pub returns-clause-back : goal.returns-clause-back
returns-clause-back c before was can cell =
    all_back before c.loop-one.series c.args.items.now c.loop-one.one-index c.loop-one-test.false (c.loop-one.invariant.back before was can) cell
