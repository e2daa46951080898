use Rattle.rw_record.proofs.Common.{held, refl, rules, ◌≡◌}
use Rattle.rw_record.proofs.Holding.{all_of, one_more}
use Rattle.rw_record.proofs.alike.is_alike.Goals as goal

pub loop-one-preserved : goal.loop-one-preserved
loop-one-preserved c =
    let same : held c.args.series.now c.one-item.result.cell ≡ c.one-item.result.content = search rules in
    one_more (held c.args.series.now) c.args.looked.now c.loop-one.one-index c.one-item.result c.loop-one-test.true c.one-item.is same
    c.loop-one.invariant

pub returns : goal.returns
returns c =
    (λ yes. all_of (held c.args.series.now) c.args.looked.now c.loop-one.one-index c.loop-one-test.false c.loop-one.invariant, λ all. refl)
