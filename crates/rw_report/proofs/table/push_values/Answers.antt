use Rattle.std.proofs.Common.{◌≡◌, ◌++◌, ◌∙◌, ℕ, OnOk, ap, subst, string_bytes, codes, option_map}
use Rattle.rw_model.specs.declared.content.Content.{Content}
use Rattle.rw_series.specs.Series.{held}
use Rattle.rw_report.specs.Section.{for_each, value_words, values_in}
use Rattle.rw_report.specs.Pieces.{words_at}
use Rattle.rw_report.proofs.table.push_values.Goals as goal

pub returns : goal.returns
returns c =
    let words = λ (slot : ℕ). codes "," ++ value_words (values_in (held c.args.series.now) slot c.args.step.0) in
    let same : (slot : ℕ) → words_at (held c.at_step.result) slot ≡ words slot =
    λ slot. ap (λ content. codes "," ++ value_words (option_map (λ (content : Content). content.value) content))
    (c.at_step.ensures.cells (record { 0 = slot })) in
    let all : words_at (held c.at_step.result) ≡ words = λ i slot. (same slot) i in
    subst (λ text. OnOk c.push_cells.result (string_bytes c.push_cells.new.text ≡ string_bytes c.args.text.now ++ text))
    (ap (λ ws. for_each ws c.slot_count.result) all ∙ ap (for_each words) c.slot_count.ensures.count) c.push_cells.ensures
