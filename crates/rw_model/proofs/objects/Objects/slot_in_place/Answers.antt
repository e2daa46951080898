use Rattle.std.proofs.Common.{◌∙◌}
use Rattle.rw_model.specs.Objects.{is_in_place}
use Rattle.rw_model.proofs.Numbering.{first_from-all_slots, IsOfOwner-is_in_place}
use Rattle.rw_model.proofs.objects.Objects.slot_in_place.Goals as goal

pub returns : goal.returns
returns c =
    c.number_in_place.ensures
    ∙ first_from-all_slots c.args.self.now c.args.o c.kind.result.now (is_in_place c.args.o c.args.place) c.slots_before.result
    c.requires.first (IsOfOwner-is_in_place c.args.o c.args.place) c.kind.ensures.kind c.slots_before.ensures.before
