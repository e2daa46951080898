use Rattle.rw_base.proofs.Common.{◌∙◌, ap, sym, option_and_then}
use Rattle.rw_model.specs.Objects.{all_slots, first_from, is_named}
use Rattle.rw_model.proofs.Numbering.{first_from-all_slots, IsOfOwner-is_named}
use Rattle.rw_model.proofs.objects.Objects.find_slot.Goals as goal

pub returns : goal.returns
returns c =
    c.number_of_name.ensures
    ∙ first_from-all_slots c.args.self.now c.in-Some.o c.kind.result.now (is_named c.in-Some.o c.args.name.now) c.slots_before.result
    c.in-Some.ensures.within.0 (IsOfOwner-is_named c.in-Some.o c.args.name.now) c.kind.ensures.kind c.slots_before.ensures.before
    ∙ ap (option_and_then (λ owner. first_from 1 (is_named owner c.args.name.now) (all_slots c.args.self.now)))
    (sym c.in-Some.is ∙ c.find.ensures.number)
