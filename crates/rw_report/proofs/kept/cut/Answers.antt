use Rattle.std.proofs.Common.{Some, ap, arith, length, refl, slice_get, ◌-◌, ◌∙◌, ◌≡◌}
use Rattle.std.proofs.lemmas.Option.{slice_get_read}
use Rattle.rw_report.specs.Kept.{first_texts}
use Rattle.rw_report.proofs.Keeping.{texts_more}
use Rattle.rw_report.proofs.kept.cut.Goals as goal

pub loop-left-preserved : goal.loop-left-preserved
loop-left-preserved c =
    let lines = c.args.lines.now in
    let left = c.loop-left.left in
    let line = c.index-lines-from.result in
    let at = c.from.ensures in
    let more = c.loop-left-test.true in
    let few = c.loop-left.invariant.0.1 in
    let told = c.requires.told in
    let there : slice_get lines (left - 1) ≡ Some line =
    ap (slice_get lines) (omega (arith, at))
    ∙ slice_get_read lines (length lines) c.from.result line refl (omega (arith, at, more, few, told)) c.index-lines-from.is in (
      (omega (arith, more), omega (arith, few)),
      c.cut_last.ensures (first_texts (left - 1) lines)
          (c.loop-left.invariant.1 ∙ texts_more lines (left - 1) left line (omega (arith, more)) there),
    )
