use Rattle.rw_base.proofs.Common.{[], ap, arith, map, nat_le, nat_tests, sym, true, false, ◌&&◌, ◌∙◌, ◌≡◌, ◌≤◌}
use Rattle.rw_series.specs.Cells.{kept_at}
use Rattle.rw_series.specs.Columns.{column_of}
use Rattle.rw_series.specs.Kept.{content_of}
use Rattle.rw_series.proofs.Rows.{no-row, row-fits, row-is}
use Rattle.rw_series.proofs.step_cells.cells_at_step.Goals as goal

pub row_of-cells-requires-clause-last : goal.row_of-cells-requires-clause-last
row_of-cells-requires-clause-last c =
    let there : (nat_le 1 c.args.step && nat_le c.args.step c.args.steps) ≡ true = sym c.has_step.ensures ∙ c.if-has_step.true in
    let last : c.args.step ≤ c.args.steps = grind (arith, nat_tests, there) in
    row-fits c.args.width c.args.steps c.args.step _ c.requires.whole last

pub returns-then-has_step-clause-cells : goal.returns-then-has_step-clause-cells
returns-then-has_step-clause-cells c =
    let there : (nat_le 1 c.args.step && nat_le c.args.step c.args.steps) ≡ true = sym c.has_step.ensures ∙ c.if-has_step.true in
    let first : 1 ≤ c.args.step = grind (arith, nat_tests, there) in
    let last : c.args.step ≤ c.args.steps = grind (arith, nat_tests, there) in
    λ slot.
    let column = column_of c.args.columns.now slot.0 in
    ap (λ cells. kept_at c.args.width 1 (map content_of cells) column 1) c.row_of-cells.ensures.row
    ∙ row-is c.args.cells.now c.args.width c.args.steps column c.args.step first last

pub returns-else-has_step-clause-cells : goal.returns-else-has_step-clause-cells
returns-else-has_step-clause-cells c =
    let none : (nat_le 1 c.args.step && nat_le c.args.step c.args.steps) ≡ false = sym c.has_step.ensures ∙ c.if-has_step.false in
    λ slot. no-row (map content_of c.args.cells.now) c.args.width c.args.steps (column_of [] slot.0) (column_of c.args.columns.now slot.0) c.args.step none
