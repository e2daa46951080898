use Rattle.std.proofs.Common.{◌≡◌, ◌∷◌, ◌++◌, ◌∙◌, [], List, ℕ, ap, codes, subst}
use Rattle.rw_io.specs.Handed.{BrokeOff, IsOnItsWay}
use Rattle.rw_series.specs.Series.{held}
use Rattle.rw_report.specs.Pieces.{words_at}
use Rattle.rw_report.specs.Section.{for_each, for_slots, value_words, values_in}
use Rattle.rw_report.proofs.Handing.{broke_within, on_after, words_at_step}
use Rattle.rw_report.proofs.handed.hand_values.Goals as goal

pub returns-in-Ok : goal.returns-in-Ok
returns-in-Ok g c = λ before text way.
    let words = λ (slot : ℕ). codes "," ++ value_words (values_in (held c.args.series.now) slot c.args.step.0) in
    let all : words_at (held c.at_step.result) ≡ words =
    words_at_step (held c.at_step.result) (held c.args.series.now) c.args.step.0 (λ slot. c.at_step.ensures.cells (record { 0 = slot })) in
    let same : for_each (words_at (held c.at_step.result)) c.slot_count.result ≡ for_slots c.args.basin.now words =
    ap (λ w. for_each w c.slot_count.result) all ∙ ap (for_each words) c.slot_count.ensures.count in
    on_after before _ _ text (for_slots c.args.basin.now words) (10 ∷ []) c.put.result
    (c.put.ensures before (text ++ for_slots c.args.basin.now words)
    (subst (λ (t : List ℕ). IsOnItsWay before (g.K.Sink.seen c.hand_cells.new.out) c.hand_cells.new.gathered (text ++ t)) same (c.in-Ok.ensures before text way)))

pub returns-in-Err : goal.returns-in-Err
returns-in-Err g c = λ before text way.
    let words = λ (slot : ℕ). codes "," ++ value_words (values_in (held c.args.series.now) slot c.args.step.0) in
    let all : words_at (held c.at_step.result) ≡ words =
    words_at_step (held c.at_step.result) (held c.args.series.now) c.args.step.0 (λ slot. c.at_step.ensures.cells (record { 0 = slot })) in
    let same : for_each (words_at (held c.at_step.result)) c.slot_count.result ≡ for_slots c.args.basin.now words =
    ap (λ w. for_each w c.slot_count.result) all ∙ ap (for_each words) c.slot_count.ensures.count in
    broke_within before _ text (for_slots c.args.basin.now words) (10 ∷ [])
    (subst (λ (t : List ℕ). BrokeOff before (g.K.Sink.seen c.hand_cells.new.out) (text ++ t)) same (c.in-Err.ensures before text way))
