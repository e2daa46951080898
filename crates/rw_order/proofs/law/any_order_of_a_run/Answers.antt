use Rattle.rw_base.proofs.Common.{ap, sym, ◌∙◌, option_map}
use Rattle.rw_model.specs.declared.content.Content.{Content}
use Rattle.rw_inputs.specs.Placings.{placings}
use Rattle.rw_order.proofs.law.any_order_of_a_run.Goals as goal

pub returns : goal.returns
returns c = λ basin inputs log other run valid free made whole is settled any.
    let inside = c.inputs_are_inside.ensures basin inputs made in
    let first = c.orders.ensures.run basin (placings basin inputs) log whole in
    let ends = sym is.end ∙ settled in
    let own = c.any_order.ensures basin (placings basin inputs) log log valid free inside first ends first in
    let orders = c.any_order.ensures basin (placings basin inputs) log other valid free inside first ends any in (
      orders.0,
      orders.1 ∙ sym own.1 ∙ sym is.closed_steps,
      λ cell. ap (option_map (λ (content : Content). content.value)) (is.cells cell) ∙ orders.2 cell,
    )
