use Rattle.std.proofs.Common.{◌≡◌, ◌++◌, ◌∙◌, ℕ, OnOk, ap, subst, string_bytes, codes}
use Rattle.rw_series.specs.Series.{held}
use Rattle.rw_run.specs.Dispatch.{cell_at}
use Rattle.rw_report.specs.Section.{for_each}
use Rattle.rw_report.specs.Flags.{held_flag}
use Rattle.rw_report.specs.Pieces.{flag_at}
use Rattle.rw_report.proofs.flags.push_slots.Goals as goal

pub returns : goal.returns
returns c =
    let words = λ (slot : ℕ). codes "," ++ held_flag (held c.args.series.now (cell_at slot c.args.step.0)) in
    let same : (slot : ℕ) → flag_at (held c.at_step.result) slot ≡ words slot =
    λ slot. ap (λ content. codes "," ++ held_flag content) (c.at_step.ensures.cells (record { 0 = slot })) in
    let all : flag_at (held c.at_step.result) ≡ words = λ i slot. (same slot) i in
    subst (λ text. OnOk c.push_cells.result (string_bytes c.push_cells.new.text ≡ string_bytes c.args.text.now ++ text))
    (ap (λ ws. for_each ws c.slot_count.result) all ∙ ap (for_each words) c.slot_count.ensures.count) c.push_cells.ensures
