use Rattle.std.proofs.Common.{Some, ap, arith, length, refl, slice_get, subst, ◌∙◌, ◌≡◌}
use Rattle.std.proofs.lemmas.Option.{slice_get_read}
use Rattle.rw_series.specs.Series.{held}
use Rattle.rw_report.specs.Kept.{TellFirst}
use Rattle.rw_report.proofs.Keeping.{tells_one_more}
use Rattle.rw_report.proofs.kept.count_current.Goals as goal

pub loop-before-init : goal.loop-before-init
loop-before-init c = (c.requires.first, c.requires.same)

pub loop-before-preserved : goal.loop-before-preserved
loop-before-preserved c =
    let lines = c.args.lines.now in
    let place = c.loop-before.before in
    let line = c.index-lines-from.result in
    let at = c.from.ensures in
    let near = c.loop-before-test.true in
    let few = c.requires.there in
    let there : slice_get lines place ≡ Some line =
    ap (slice_get lines) (omega (arith, at))
    ∙ slice_get_read lines (length lines) c.from.result line refl (omega (arith, at, near, few)) c.index-lines-from.is in (
      omega (arith, near),
      tells_one_more c.args.basin.now (held c.args.series.now) lines place line there
          (c.is_current.ensures.tells c.if-not-is_current.false) c.loop-before.invariant.1,
    )

pub returns-clause-same : goal.returns-clause-same
returns-clause-same c =
    let done = c.loop-before-test.false in
    let few = c.loop-before.invariant.0 in
    let same : c.loop-before.before ≡ c.args.most = omega (arith, done, few) in
    subst (λ n. TellFirst c.args.basin.now (held c.args.series.now) n c.args.lines.now) same c.loop-before.invariant.1
