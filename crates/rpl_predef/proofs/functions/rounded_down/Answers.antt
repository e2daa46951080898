use Rattle.rw_base.proofs.Common.{arith, ◌≡◌, ◌∙◌, sym, refl, ap, ap₂, subst, of_z, w64, IsSome}
use Rattle.rw_base.specs.Predefined.{rounded_down}
use Rattle.rpl_predef.proofs.Rounding.{difference, quantity_fits, made}
use Rattle.rpl_predef.proofs.functions.rounded_down.Goals as goal

pub overflow_sub-number : goal.overflow_sub-number
overflow_sub-number c =
    let n = c.get-number.ensures.bounds in
    let s = c.get-step.ensures.bounds in
    let quantity = c.predefined_answers.ensures 5 _ _ c.get-step.result n s s in
    rw (difference _ _ (λ e. c.if-step-eq0.false (ap (of_z w64) e)) n s quantity) (quantity_fits _ quantity)

pub unwrap-requires : goal.unwrap-requires
unwrap-requires c =
    let n = c.get-number.ensures.bounds in
    let s = c.get-step.ensures.bounds in
    let quantity = c.predefined_answers.ensures 5 _ _ c.get-step.result n s s in
    let rounded = difference _ _ (λ e. c.if-step-eq0.false (ap (of_z w64) e)) n s quantity in
    subst (λ o. IsSome o) (sym (made c.of.result _ _ rounded c.of.ensures quantity)) refl

pub returns : goal.returns
returns c =
    let n = c.get-number.ensures.bounds in
    let s = c.get-step.ensures.bounds in
    let quantity = c.predefined_answers.ensures 5 _ _ c.get-step.result n s s in
    let rounded = difference _ _ (λ e. c.if-step-eq0.false (ap (of_z w64) e)) n s quantity in
    let answer = made c.of.result _ _ rounded c.of.ensures quantity in
    let same : c.unwrap.result ≡ rounded_down c.get-number.result c.get-step.result = grind (arith, c.unwrap.ensures, answer) in
    same ∙ ap₂ rounded_down c.get-number.ensures.value c.get-step.ensures.value
