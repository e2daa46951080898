use Rattle.rw_base.proofs.Common.{◌+◌, ◌∷◌, [], ◌++◌, ap, sym, ◌∙◌, map-append}
use Rattle.rw_base.specs.declared.number.SlotNo.{SlotNo}
use Rattle.rw_model.specs.Kept.{numbers_of}
use Rattle.rw_model.proofs.Grouping.{range_more}
use Rattle.rw_model.proofs.groups.slots_up_to.Goals as goal

pub loop-before-preserved : goal.loop-before-preserved
loop-before-preserved c =
    ap numbers_of c.in_ok-push.ensures.items
    ∙ map-append (λ (slot : SlotNo). slot.0) c.loop-before.slots.items (record { 0 = c.loop-before.before + 1 } ∷ [])
    ∙ ap (λ xs. xs ++ (c.loop-before.before + 1) ∷ []) c.loop-before.invariant
    ∙ sym (range_more c.loop-before.before)
