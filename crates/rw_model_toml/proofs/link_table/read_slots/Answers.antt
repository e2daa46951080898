use Rattle.std.proofs.Common.{◌∙◌, ap, string_bytes}
use Rattle.rw_model.specs.Kept.{numbers_of}
use Rattle.rw_model_toml.specs.Told.{slot_read}
use Rattle.rw_model_toml.proofs.Lists.{items-next, items-fails, gives-fault, numbers-push}
use Rattle.rw_model_toml.proofs.link_table.read_slots.Goals as goal

pub returns-in_err-slot : goal.returns-in_err-slot
returns-in_err-slot c =
    gives-fault (λ slots. numbers_of slots.items) c.from_residual-in_err-slot.result _ c.in_err-slot.field-0.0 c.from_residual-in_err-slot.ensures.1
    (items-fails (slot_read c.args.builder.now.objects) c.args.path.now c.args.items.now c.loop-place.place c.index-items-place.result
    (string_bytes c.in_ok-at.at) (numbers_of c.loop-place.slots.items) _ c.in_err-slot.field-0.0
    c.loop-place-test.true c.index-items-place.is c.in_ok-at.ensures c.in_err-slot.ensures c.loop-place.invariant)

pub loop-place-preserved : goal.loop-place-preserved
loop-place-preserved c =
    items-next (slot_read c.args.builder.now.objects) c.args.path.now c.args.items.now c.loop-place.place c.index-items-place.result
    (string_bytes c.in_ok-at.at) (numbers_of c.loop-place.slots.items) c.in_ok-slot.slot.0 _ _
    c.loop-place-test.true c.index-items-place.is c.in_ok-at.ensures c.in_ok-slot.ensures
    (ap numbers_of c.in_ok-push.ensures.items ∙ numbers-push c.loop-place.slots.items c.in_ok-slot.slot) c.loop-place.invariant
