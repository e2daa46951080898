use Rattle.rw_base.proofs.Common.{◌++◌, string_bytes, ℤ, ap₂, ◌∙◌, to_z-of_z, ℕ, List, codes, signed_decimal}
use Rattle.rw_report.specs.Section.{place_words}
use Rattle.rw_report.proofs.Growing.{both}
use Rattle.rw_report.proofs.heading.push_conflict.Goals as goal

pub returns : goal.returns
returns c =
    let before = string_bytes c.push_place.new.text in
    let place = place_words c.args.basin.now (codes "conflict") c.args.object.0 c.args.slot.0 c.args.step.0 in
    let values : (ℤ → ℤ → List ℕ) = λ held solved. codes " held " ++ (signed_decimal held ++ (codes " solved " ++ signed_decimal solved)) in
    both (string_bytes c.args.text.now) before (string_bytes c.write.new.self) place (values c.args.held c.args.solved) c.in_ok-push_place.ensures
    (c.in_ok-write.ensures.bytes
    ∙ ap₂ (λ held solved. before ++ values held solved) (to_z-of_z _ c.args.held c.ranges.held) (to_z-of_z _ c.args.solved c.ranges.solved))
