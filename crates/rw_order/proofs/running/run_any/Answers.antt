use Rattle.rw_base.proofs.Common.{ap, option_map, sym, ◌∙◌}
use Rattle.rw_model.specs.declared.content.Content.{Content}
use Rattle.rw_run.specs.Next.{no_rules}
use Rattle.rw_engine.specs.Picked.{ComesToPicked}
use Rattle.rw_order.specs.AnyRun.{IsAnyRun, SettlesAs}
use Rattle.rw_inputs.specs.Placings.{placings}
use Rattle.rw_order.proofs.Picked.{of_ok}
use Rattle.rw_order.proofs.running.run_any.Goals as goal

pub returns-clause-free : goal.returns-clause-free
returns-clause-free g c = λ free log any settled.
    let basin = c.args.basin.now in
    let inputs = c.args.inputs.now in
    of_ok (ComesToPicked basin no_rules (g.P.Pick.rule c.args.pick.now) inputs) (SettlesAs basin log) c.run_counted.result (λ run comes.
    let other : IsAnyRun basin (placings basin inputs) comes.log = record { events = comes.whole.events; leads = comes.any; end = comes.whole.end } in
    let orders =
    c.any_order.ensures basin (placings basin inputs) log comes.log c.is_valid.ensures free
    (c.inputs_are_inside.ensures basin inputs c.requires.inputs) any settled other in
    record {
      end = comes.is.end ∙ orders.0;
      values = λ cell. ap (option_map (λ (content : Content). content.value)) (comes.is.cells cell) ∙ sym (orders.2 cell);
    }) c.run_counted.ensures.run
