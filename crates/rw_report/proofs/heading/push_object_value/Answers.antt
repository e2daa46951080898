use Rattle.rw_base.proofs.Common.{◌++◌, string_bytes, ap, ◌∙◌, to_z-of_z, codes, signed_decimal}
use Rattle.rw_report.specs.Section.{place_words}
use Rattle.rw_report.proofs.Growing.{both}
use Rattle.rw_report.proofs.heading.push_object_value.Goals as goal

pub returns : goal.returns
returns c =
    let place = place_words c.args.basin.now (codes "out of range") c.args.object.0 c.args.slot.0 c.args.step.0 in
    let value = codes " value " ++ signed_decimal c.args.value in
    both (string_bytes c.args.text.now) (string_bytes c.push_place.new.text) (string_bytes c.write.new.self) place value c.in_ok-push_place.ensures
    (c.in_ok-write.ensures.bytes ∙ ap (λ z. string_bytes c.push_place.new.text ++ (codes " value " ++ signed_decimal z))
    (to_z-of_z _ c.args.value c.ranges.value))
