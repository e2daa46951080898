use Rattle.rw_base.proofs.Common.{[], sym, ◌∙◌}
use Rattle.rw_inputs.specs.Placings.{placings}
use Rattle.rw_run.specs.Runs.{with_inputs}
use Rattle.rw_retold.proofs.walk.Walk.begin.Goals as goal

pub returns-clause-walk : goal.returns-clause-walk
returns-clause-walk g c =
    let begun = c.in_ok-engine.ensures.begun in
    let run = c.finish-run.ensures.run c.args.setup.now.basin.now c.args.setup.now.policy.now
    (with_inputs [] (placings c.args.setup.now.basin.now c.args.inputs.now)) begun.made begun.shows in
    record {
      series = record {
        made = run.made;
        bounded = λ cell content known is. begun.made.series.bounded cell content known (begun.shows.cells cell ∙ sym (run.cells cell) ∙ is);
      };
      keeps = c.new.ensures;
    }

pub returns-clause-cells : goal.returns-clause-cells
returns-clause-cells g c = λ cell.
    let begun = c.in_ok-engine.ensures.begun in
    (c.finish-run.ensures.run c.args.setup.now.basin.now c.args.setup.now.policy.now
    (with_inputs [] (placings c.args.setup.now.basin.now c.args.inputs.now)) begun.made begun.shows).cells cell
