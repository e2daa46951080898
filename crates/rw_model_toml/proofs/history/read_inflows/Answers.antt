use Rattle.rw_base.proofs.Common.{◌≡◌, string_bytes, to_z, of_z, w64, arith, ints, to_z-of_z}
use Rattle.rw_model_toml.specs.Kinds.{inflow_of}
use Rattle.rw_model_toml.proofs.Lists.{items-next, items-fails, gives-fault}
use Rattle.rw_model_toml.proofs.history.read_inflows.Goals as goal

pub returns-in_err-inflow : goal.returns-in_err-inflow
returns-in_err-inflow c =
    gives-fault (λ inflows. inflows.items) c.from_residual-in_err-inflow.result _ c.in_err-inflow.field-0.0 c.from_residual-in_err-inflow.ensures.1
    (items-fails inflow_of c.args.path.now c.args.items.now c.loop-place.place c.index-items-place.result (string_bytes c.in_ok-at.at)
    c.loop-place.inflows.items _ c.in_err-inflow.field-0.0
    c.loop-place-test.true c.index-items-place.is c.in_ok-at.ensures c.in_err-inflow.ensures.read c.loop-place.invariant)

pub loop-place-preserved : goal.loop-place-preserved
loop-place-preserved c =
    let same : to_z w64 (of_z w64 c.in_ok-inflow.inflow) ≡ c.in_ok-inflow.inflow = to_z-of_z w64 _ (omega (arith, ints)) in
    items-next inflow_of c.args.path.now c.args.items.now c.loop-place.place c.index-items-place.result (string_bytes c.in_ok-at.at)
    c.loop-place.inflows.items c.in_ok-inflow.inflow _ _
    c.loop-place-test.true c.index-items-place.is c.in_ok-at.ensures c.in_ok-inflow.ensures.read (rw same at c.in_ok-push.ensures.items)
    c.loop-place.invariant
