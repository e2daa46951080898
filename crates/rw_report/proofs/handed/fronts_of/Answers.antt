use Rattle.std.proofs.Common.{◌++◌, ◌∷◌, ◌∙◌, ◌+◌, [], ap, arith, length, length-append, subst, sym}
use Rattle.rw_report.specs.Pieces.{AreTexts}
use Rattle.rw_report.specs.Section.{row_front}
use Rattle.rw_report.proofs.Adding.{texts_more}
use Rattle.rw_report.proofs.handed.fronts_of.Goals as goal

pub loop-before-preserved : goal.loop-before-preserved
loop-before-preserved c =
    let l = c.loop-before in
    let pushed = c.in_ok-push.ensures.items in
    let one = c.in_ok-front_of.field-0 in (
      ap length pushed ∙ omega (arith, length-append l.texts.items (one ∷ []), l.invariant.0),
      subst (AreTexts (row_front c.args.basin.now)) (sym pushed)
          (texts_more (row_front c.args.basin.now) l.texts.items one l.before l.invariant.0 c.in_ok-front_of.ensures l.invariant.1),
    )
