use Rattle.std.proofs.Common.{◌+◌, ◌++◌, ◌∷◌, [], sym, subst}
use Rattle.rw_series.specs.Columns.{AreColumns, IsColumnFor}
use Rattle.rw_series.proofs.SlotColumns.{columns-more}
use Rattle.rw_series.proofs.columns.columns_of.Goals as goal

pub loop-before-preserved : goal.loop-before-preserved
loop-before-preserved c =
    let for =
    subst (λ columns. IsColumnFor c.args.basin.now c.loop-before.before c.loop-before.width columns c.column_for-column.result)
    c.as_slice.ensures.value c.column_for-column.ensures in
    let more =
    columns-more c.args.basin.now c.loop-before.before c.loop-before.width c.loop-before.columns.items c.column_for-column.result
    c.loop-before.invariant for in
    subst (λ columns. AreColumns c.args.basin.now (c.loop-before.before + 1) c.max-width.result columns) (sym c.in_ok-push.ensures.items)
    (subst (λ width. AreColumns c.args.basin.now (c.loop-before.before + 1) width (c.loop-before.columns.items ++ c.column_for-column.result ∷ []))
    (sym c.max-width.ensures) more)
