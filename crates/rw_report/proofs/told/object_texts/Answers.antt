use Rattle.std.proofs.Common.{◌++◌, ◌∷◌, ◌∙◌, ◌+◌, [], ap, arith, length, length-append, subst, sym}
use Rattle.rw_report.specs.Pieces.{AreTexts, object_line}
use Rattle.rw_report.proofs.Adding.{texts_more}
use Rattle.rw_report.proofs.told.object_texts.Goals as goal

pub loop-before-preserved : goal.loop-before-preserved
loop-before-preserved c =
    let l = c.loop-before in
    let pushed = c.in_ok-push.ensures.items in
    let one = c.in_ok-object_text.field-0 in (
      ap length pushed ∙ omega (arith, length-append l.texts.items (one ∷ []), l.invariant.0),
      subst (AreTexts (object_line c.args.basin.now c.args.word.now)) (sym pushed)
          (texts_more (object_line c.args.basin.now c.args.word.now) l.texts.items one l.before l.invariant.0
          c.in_ok-object_text.ensures l.invariant.1),
    )
