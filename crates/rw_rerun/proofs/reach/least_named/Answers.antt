use Rattle.rw_base.proofs.Common.{arith, get_or, slice_get-get_or}
use Rattle.rw_base.specs.declared.number.Cell.{Cell}
use Rattle.rw_rerun.proofs.Reaching.{all_from, none_from, one_from}
use Rattle.rw_rerun.proofs.reach.least_named.Goals as goal

pub loop-cell-init : goal.loop-cell-init
loop-cell-init c = none_from (λ (cell : Cell). cell.step.0) c.args.cells.now _

pub loop-cell-preserved : goal.loop-cell-preserved
loop-cell-preserved c =
    let at = c.loop-cell.cell-index in
    let blank : Cell = record { slot = record { 0 = 0 }; step = record { 0 = 0 } } in
    one_from (λ (cell : Cell). cell.step.0) c.args.cells.now at c.loop-cell.least c.lesser-least.result (get_or c.args.cells.now at blank)
    (slice_get-get_or c.args.cells.now at blank c.loop-cell-test.true) c.lesser-least.ensures.0 c.lesser-least.ensures.1 c.loop-cell.invariant

pub returns : goal.returns
returns c =
    let done = c.loop-cell-test.false in
    all_from (λ (cell : Cell). cell.step.0) c.args.cells.now c.loop-cell.cell-index c.loop-cell.least (omega (arith, done)) c.loop-cell.invariant
