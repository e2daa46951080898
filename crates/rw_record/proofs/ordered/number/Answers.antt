use Rattle.rw_record.proofs.Common.{[], ap, arith, suc, sym, ◌+◌, ◌++◌, ◌∙◌, ◌∷◌, ◌≡◌}
use Rattle.std.specs.List.{range_with_len}
use Rattle.rw_record.proofs.InOrder.{numbered}
use Rattle.rw_record.proofs.ordered.number.Goals as goal

pub loop-place-preserved : goal.loop-place-preserved
loop-place-preserved c =
    let place = c.loop-place.place in
    let next : suc place ≡ place + 1 = omega arith in
    c.in_ok-push.ensures.items ∙ ap (λ order. order ++ place ∷ []) c.loop-place.invariant ∙ sym (numbered 0 place place (omega arith))
    ∙ ap (range_with_len 0) next
