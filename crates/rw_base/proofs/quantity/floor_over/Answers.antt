use Rattle.rw_base.proofs.Common.{◌≡◌, ◌∙◌, ◌*ℤ◌, rules, to_z-of_z, sym, ap, ap₂, to_z, of_z, w128}
use Rattle.rw_base.specs.Predefined.{nearest_quantity}
use Rattle.rw_base.specs.Quotient.{floor_div}
use Rattle.rw_base.proofs.Products.{mul_div_is}
use Rattle.rw_base.proofs.quantity.floor_over.Goals as goal

pub returns : goal.returns
returns c =
    let product : to_z w128 (of_z w128 c.product_of.result) ≡ c.args.a *ℤ c.args.b =
    to_z-of_z w128 _ (search (rules, c.product_of.type_inv)) ∙ c.product_of.ensures.exact
    ∙ ap₂ (λ x y. x *ℤ y) (to_z-of_z _ _ c.ranges.a) (to_z-of_z _ _ c.ranges.b) in
    let divisor : to_z w128 (of_z w128 c.from.result) ≡ c.args.c =
    to_z-of_z w128 _ (search (rules, c.from.type_inv)) ∙ c.from.ensures ∙ to_z-of_z _ _ c.ranges.c in
    let quotient : to_z w128 (of_z w128 c.floor_of_product.result) ≡ c.floor_of_product.result =
    to_z-of_z w128 _ (search (rules, c.floor_of_product.type_inv)) in
    c.nearest.ensures ∙ ap nearest_quantity (quotient ∙ c.floor_of_product.ensures.exact ∙ ap₂ floor_div product divisor)
    ∙ sym (mul_div_is c.args.a c.args.b c.args.c c.requires.nonzero)
