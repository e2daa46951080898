use Rattle.std.proofs.Common.{◌≡◌, ◌∷◌, ◌++◌, ◌∙◌, [], List, ℕ, codes, rules, subst}
use Rattle.rw_io.specs.Handed.{BrokeOff, IsOnItsWay}
use Rattle.rw_series.specs.Series.{held}
use Rattle.rw_report.specs.Section.{for_slots, row_front, value_words, values_in}
use Rattle.rw_report.proofs.Handing.{broke_within, on_after}
use Rattle.rw_report.proofs.handed.hand_row.Goals as goal

pub returns-in-Ok : goal.returns-in-Ok
returns-in-Ok g c = λ before text way.
    let front = row_front c.args.basin.now c.args.step.0 in
    let same : c.as_bytes.result.now ≡ front = c.as_bytes.ensures.value ∙ c.requires in
    on_after before _ _ text front
    (for_slots c.args.basin.now (λ slot. codes "," ++ value_words (values_in (held c.args.series.now) slot c.args.step.0)) ++ 10 ∷ []) c.hand_values.result
    (c.hand_values.ensures before (text ++ front)
    (subst (λ (t : List ℕ). IsOnItsWay before (g.K.Sink.seen c.put.new.out) c.put.new.self (text ++ t)) same (c.in-Ok.ensures before text way)))

pub returns-in-Err : goal.returns-in-Err
returns-in-Err g c = λ before text way.
    let front = row_front c.args.basin.now c.args.step.0 in
    let same : c.as_bytes.result.now ≡ front = c.as_bytes.ensures.value ∙ c.requires in
    broke_within before _ text front
    (for_slots c.args.basin.now (λ slot. codes "," ++ value_words (values_in (held c.args.series.now) slot c.args.step.0)) ++ 10 ∷ [])
    (subst (λ (t : List ℕ). BrokeOff before (g.K.Sink.seen c.put.new.out) (text ++ t)) same (c.in-Err.ensures before text way))
