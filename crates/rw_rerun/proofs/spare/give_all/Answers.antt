use Rattle.rw_base.proofs.Common.{arith, length, ◌<◌, ◌∙◌}
use Rattle.rw_rerun.proofs.Gives.{gives_on, within_given}
use Rattle.rw_rerun.proofs.spare.give_all.Goals as goal

pub give-requires-clause-within : goal.give-requires-clause-within
give-requires-clause-within c = within_given c.args.basin.now c.args.inputs.now c.requires.inputs _ _ c.value.result c.value.ensures

pub loop-cell-preserved : goal.loop-cell-preserved
loop-cell-preserved c =
    let was = c.loop-cell.invariant in
    let near : c.loop-cell.cell-index < length c.args.cells.now = let test = c.loop-cell-test.true in omega (arith, test) in record {
      made = λ policy is. c.give.ensures.made policy (was.made policy is);
      can = c.give.ensures.can;
      holds = λ cell.
          gives_on c.args.basin.now c.args.inputs.now c.args.cells.now c.loop-cell.cell-index
          (record { slot = record { 0 = 0 }; step = record { 0 = 0 } })
          c.value.result c.loop-cell.engine.series c.give.new.self.series _ cell near c.value.ensures c.give.ensures.cells (was.holds cell);
      trace = c.give.ensures.trace ∙ was.trace;
      noted = c.give.ensures.noted ∙ was.noted;
      closed_steps = c.give.ensures.closed_steps ∙ was.closed_steps;
      end = c.give.ensures.end ∙ was.end;
    }
