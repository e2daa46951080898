use Rattle.std.proofs.Common.{◌≡◌, ◌++◌, ◌+◌, List, ℕ, arith, refl, subst}
use Rattle.rw_io.specs.Handed.{BrokeOff, IsOnItsWay}
use Rattle.rw_series.specs.Series.{held}
use Rattle.rw_report.specs.Section.{for_each, row, values_in}
use Rattle.rw_report.proofs.Growing.{next}
use Rattle.rw_report.proofs.Handing.{broke_each}
use Rattle.rw_report.proofs.handed.hand_rows.Goals as goal

pub loop-before-preserved : goal.loop-before-preserved
loop-before-preserved g c =
    let lines = row c.args.basin.now (values_in (held c.args.series.now)) in
    let done = c.loop-before.before in
    let near = c.loop-before-test.true in (
      omega (arith, near),
      λ before front way.
          subst (IsOnItsWay before (g.K.Sink.seen c.hand_row.new.out) c.hand_row.new.gathered)
          (next lines done front (front ++ for_each lines done) ((front ++ for_each lines done) ++ lines (done + 1)) refl refl)
          (c.in-Ok.ensures before (front ++ for_each lines done) (c.loop-before.invariant.1 before front way)),
    )

pub returns-in-Err : goal.returns-in-Err
returns-in-Err g c = λ before front way.
    let lines = row c.args.basin.now (values_in (held c.args.series.now)) in
    let done = c.loop-before.before in
    let near = c.loop-before-test.true in
    broke_each before _ lines (done + 1) c.args.closed front (omega (arith, near))
    (subst (BrokeOff before (g.K.Sink.seen c.hand_row.new.out))
    (next lines done front (front ++ for_each lines done) ((front ++ for_each lines done) ++ lines (done + 1)) refl refl)
    (c.in-Err.ensures before (front ++ for_each lines done) (c.loop-before.invariant.1 before front way)))
