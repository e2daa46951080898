use Rattle.std.proofs.Common.{◌++◌, ◌∷◌, ◌∙◌, ◌+◌, [], ap, arith, length, length-append, subst, sym}
use Rattle.rw_report.specs.Pieces.{AreTexts, slot_behind}
use Rattle.rw_report.proofs.Adding.{texts_more}
use Rattle.rw_report.proofs.told.slot_texts.Goals as goal

pub loop-before-preserved : goal.loop-before-preserved
loop-before-preserved c =
    let l = c.loop-before in
    let pushed = c.in_ok-push.ensures.items in
    let one = c.in_ok-slot_text.field-0 in (
      ap length pushed ∙ omega (arith, length-append l.texts.items (one ∷ []), l.invariant.0),
      subst (AreTexts (slot_behind c.args.basin.now c.args.front.now)) (sym pushed)
          (texts_more (slot_behind c.args.basin.now c.args.front.now) l.texts.items one l.before l.invariant.0
          c.in_ok-slot_text.ensures l.invariant.1),
    )
