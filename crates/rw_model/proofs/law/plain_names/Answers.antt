use Rattle.rw_model.proofs.NameFacts.{Decides-plain}
use Rattle.rw_model.proofs.Plain.{object_is_plain, slot_is_plain}
use Rattle.rw_model.proofs.law.plain_names.Goals as goal

pub returns : goal.returns
returns c = record {
  object = λ basin object valid found. (Decides-plain object).0 (object_is_plain basin valid object found);
  slot = λ basin object slot valid found.
      let plain = slot_is_plain basin valid object slot found in ((Decides-plain object).0 plain.0, (Decides-plain slot).0 plain.1);
}
