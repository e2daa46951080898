use Rattle.rpl_code.proofs.WordsTried.{says_none, slot_named, slot_unnamed}
use Rattle.rpl_code.proofs.names.slot_in.Goals as goal

pub returns-in_err-name_in-2 : goal.returns-in_err-name_in-2
returns-in_err-name_in-2 c =
    says_none _ c.from_residual-in_err-name_in-2.result c.in_err-name_in-2.field-0.0 c.from_residual-in_err-name_in-2.ensures.1
    (λ bad. slot_unnamed c.args.word.now c.in-Some.object.now c.in-Some.slot.now c.in-Some.ensures.parts (c.in_err-name_in-2.ensures bad))

pub returns : goal.returns
returns c =
    slot_named c.args.word.now c.in-Some.object.now c.in-Some.slot.now _ _ c.in-Some.ensures.parts c.in_ok-name_in.ensures c.in_ok-name_in-2.ensures
