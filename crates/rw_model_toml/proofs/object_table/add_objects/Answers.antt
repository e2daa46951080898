use Rattle.std.proofs.Common.{◌∙◌, codes}
use Rattle.rw_model_toml.specs.Told.{object_read}
use Rattle.rw_model_toml.proofs.Lists.{turn-next, turn-fails, gives-fault}
use Rattle.rw_model_toml.proofs.object_table.add_objects.Goals as goal

pub returns-in_err-read_object : goal.returns-in_err-read_object
returns-in_err-read_object c =
    gives-fault _ c.from_residual-in_err-read_object.result _ c.in_err-read_object.field-0.0 c.from_residual-in_err-read_object.ensures.1
    (turn-fails object_read (codes "object") c.args.items.now c.loop-place.place c.index-items-place.result c.as_str.result.now c.loop-place.builder _
    c.in_err-read_object.field-0.0
    c.loop-place-test.true c.index-items-place.is (c.as_str.ensures.value ∙ c.in_ok-at.ensures) c.in_err-read_object.ensures c.loop-place.invariant)

pub loop-place-preserved : goal.loop-place-preserved
loop-place-preserved c =
    turn-next object_read (codes "object") c.args.items.now c.loop-place.place c.index-items-place.result c.as_str.result.now c.loop-place.builder
    c.read_object.new.builder _
    c.loop-place-test.true c.index-items-place.is (c.as_str.ensures.value ∙ c.in_ok-at.ensures) c.in_ok-read_object.ensures c.loop-place.invariant
