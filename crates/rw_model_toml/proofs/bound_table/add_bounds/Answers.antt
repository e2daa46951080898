use Rattle.std.proofs.Common.{◌∙◌, codes}
use Rattle.rw_model_toml.specs.Told.{bound_read}
use Rattle.rw_model_toml.proofs.Lists.{turn-next, turn-fails, gives-fault}
use Rattle.rw_model_toml.proofs.bound_table.add_bounds.Goals as goal

pub returns-in_err-read_bound : goal.returns-in_err-read_bound
returns-in_err-read_bound c =
    gives-fault _ c.from_residual-in_err-read_bound.result _ c.in_err-read_bound.field-0.0 c.from_residual-in_err-read_bound.ensures.1
    (turn-fails bound_read (codes "bound") c.args.items.now c.loop-place.place c.index-items-place.result c.as_str.result.now c.loop-place.builder _
    c.in_err-read_bound.field-0.0
    c.loop-place-test.true c.index-items-place.is (c.as_str.ensures.value ∙ c.in_ok-at.ensures) c.in_err-read_bound.ensures c.loop-place.invariant)

pub loop-place-preserved : goal.loop-place-preserved
loop-place-preserved c =
    turn-next bound_read (codes "bound") c.args.items.now c.loop-place.place c.index-items-place.result c.as_str.result.now c.loop-place.builder
    c.read_bound.new.builder _
    c.loop-place-test.true c.index-items-place.is (c.as_str.ensures.value ∙ c.in_ok-at.ensures) c.in_ok-read_bound.ensures c.loop-place.invariant
