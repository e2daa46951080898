use Rattle.rw_base.proofs.Common.{ap, length, subst, sym, ◌-◌, ◌∙◌, ◌≡◌, ◌≤◌}
use Rattle.rw_series.specs.Columns.{column_of}
use Rattle.rw_series.specs.Series.{Series, held}
use Rattle.rw_series.proofs.Rows.{known-row}
use Rattle.rw_series.proofs.step_cells.StepCells.content.Goals as goal

pub returns : goal.returns
returns c =
    let columns = ap (λ (series : Series). series.columns) c.self.view_is in
    let last : c.args.slot.0 ≤ length c.self.inside.columns.now = subst (λ slots. c.args.slot.0 ≤ length slots) (sym columns) c.requires.last in
    let have = c.self.invariant.have c.args.slot.0 c.requires.first last in
    let column = column_of c.self.inside.columns.now c.args.slot.0 in
    let at : c.from.result - 1 ≡ column - 1 = ap (λ k. k - 1) (c.from.ensures ∙ c.known_column-column.ensures) in
    c.content_of.ensures ∙ known-row c.self.inside.cells.now c.self.inside.width column (c.from.result - 1) _ c.self.invariant.whole have.0 have.1 at
    ∙ ap (λ (series : Series). held series (record { slot = c.args.slot; step = record { 0 = 1 } })) c.self.view_is
