use Rattle.std.proofs.Common.{◌≡◌, ◌==◌, ◌&&◌, true, if◌then◌else◌, sym, ap, ap₂, subst, ◌∙◌}
use Rattle.rw_series.specs.Cells.{is_kept}
use Rattle.rw_series.specs.Columns.{column_of}
use Rattle.rw_series.specs.Series.{Series, held, is_shared}
use Rattle.rw_series.proofs.Setting.{column_kept, shared_test}
use Rattle.rw_series.proofs.Sharing.{Sets-made}
use Rattle.rw_series.proofs.series.Series.restore.Goals as goal

pub keep_at-requires-clause-kept : goal.keep_at-requires-clause-kept
keep_at-requires-clause-kept c =
    ap (λ column. is_kept c.self.inside.width c.self.inside.steps column c.args.c.step.0)
    (c.known_column-column.ensures ∙ ap (λ columns. column_of columns c.args.c.slot.0) c.as_slice.ensures.value)
    ∙ subst (λ (series : Series). is_kept series.width series.steps (column_of series.columns c.args.c.slot.0) c.args.c.step.0 ≡ true)
    (sym c.self.view_is)
    (column_kept c.args.basin.now c.args.self.now c.args.c c.requires.made c.requires.cell)

pub returns-clause-cells : goal.returns-clause-cells
returns-clause-cells c other =
    let column = c.known_column-column.ensures ∙ ap (λ columns. column_of columns c.args.c.slot.0) c.as_slice.ensures.value in
    let before = c.self.inside.columns.items in
    c.keep_at.ensures.cells (column_of before other.slot.0) other.step.0
    ∙ ap₂ (λ test old. if test then c.args.held else old)
    (ap (λ k. column_of before other.slot.0 == k && other.step.0 == c.args.c.step.0) column
    ∙ subst (λ (series : Series). (column_of series.columns other.slot.0 == column_of series.columns c.args.c.slot.0
    && other.step.0 == c.args.c.step.0) ≡ is_shared c.args.basin.now c.args.c other)
    (sym c.self.view_is) (shared_test c.args.basin.now c.args.self.now c.args.c c.requires.made c.requires.cell other))
    (ap (λ (series : Series). held series other) c.self.view_is)

pub returns-clause-made : goal.returns-clause-made
returns-clause-made c =
    Sets-made c.args.basin.now c.args.c c.args.held c.args.self.now _ c.requires.made (returns-clause-cells c)
    (ap (λ (series : Series). series.slots) c.self.view_is) (ap (λ (series : Series). series.steps) c.self.view_is)
    (ap (λ (series : Series). series.columns) c.self.view_is) (ap (λ (series : Series). series.width) c.self.view_is)
