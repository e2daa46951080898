use Rattle.std.proofs.Common.{string_bytes}
use Rattle.rw_model_toml.specs.Kinds.{row_read}
use Rattle.rw_model_toml.proofs.Lists.{items-next, items-fails, gives-fault}
use Rattle.rw_model_toml.proofs.rating.read_rows.Goals as goal

pub returns-in_err-row : goal.returns-in_err-row
returns-in_err-row c =
    gives-fault (λ rows. rows.items) c.from_residual-in_err-row.result _ c.in_err-row.field-0.0 c.from_residual-in_err-row.ensures.1
    (items-fails row_read c.args.path.now c.args.items.now c.loop-place.place c.index-items-place.result (string_bytes c.in_ok-at.at)
    c.loop-place.rows.items _ c.in_err-row.field-0.0
    c.loop-place-test.true c.index-items-place.is c.in_ok-at.ensures c.in_err-row.ensures c.loop-place.invariant)

pub loop-place-preserved : goal.loop-place-preserved
loop-place-preserved c =
    items-next row_read c.args.path.now c.args.items.now c.loop-place.place c.index-items-place.result (string_bytes c.in_ok-at.at)
    c.loop-place.rows.items c.in_ok-row.row _ _
    c.loop-place-test.true c.index-items-place.is c.in_ok-at.ensures c.in_ok-row.ensures c.in_ok-push.ensures.items c.loop-place.invariant
