use Rattle.std.proofs.Common.{◌∙◌}
use Rattle.rw_model_toml.specs.Kinds.{data_slot_read}
use Rattle.rw_model_toml.proofs.Lists.{items-next, items-fails, gives-fault}
use Rattle.rw_model_toml.proofs.data.read_slots.Goals as goal

pub returns-in_err-slot : goal.returns-in_err-slot
returns-in_err-slot c =
    gives-fault (λ slots. slots.items) c.from_residual-in_err-slot.result _ c.in_err-slot.field-0.0 c.from_residual-in_err-slot.ensures.1
    (items-fails data_slot_read c.args.path.now c.args.items.now c.loop-place.place c.index-items-place.result c.as_str.result.now
    c.loop-place.slots.items _ c.in_err-slot.field-0.0
    c.loop-place-test.true c.index-items-place.is (c.as_str.ensures.value ∙ c.in_ok-at.ensures) c.in_err-slot.ensures c.loop-place.invariant)

pub loop-place-preserved : goal.loop-place-preserved
loop-place-preserved c =
    items-next data_slot_read c.args.path.now c.args.items.now c.loop-place.place c.index-items-place.result c.as_str.result.now
    c.loop-place.slots.items c.in_ok-slot.slot _ _
    c.loop-place-test.true c.index-items-place.is (c.as_str.ensures.value ∙ c.in_ok-at.ensures) c.in_ok-slot.ensures c.in_ok-push.ensures.items
    c.loop-place.invariant
