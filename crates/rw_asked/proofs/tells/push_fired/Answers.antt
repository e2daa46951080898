use Rattle.rw_base.proofs.Common.{◌+◌, ◌∷◌, ap, drop, string_bytes, sym, ◌∙◌}
use Rattle.rw_series.specs.Series.{held}
use Rattle.rw_asked.specs.declared.fate.Fate.{Fate}
use Rattle.rw_asked.specs.Asked.{fate_of, fates_of}
use Rattle.rw_asked.proofs.Telling.{from_place, one_more_put}
use Rattle.rw_asked.proofs.tells.push_fired.Goals as goal

pub loop-place-preserved : goal.loop-place-preserved
loop-place-preserved c =
    let cells = held c.args.series.now in
    let puts = c.args.puts.now in
    let put = c.index-puts-place.result in
    let place = c.loop-place.place in
    let those = from_place puts place put c.loop-place-test.true c.index-puts-place.is in
    one_more_put c.args.teller.now put c.fate_told-fate.result (fates_of c.args.teller.now cells (drop (place + 1) puts))
    (fates_of c.args.teller.now cells (drop place puts))
    (string_bytes c.loop-place.text) (string_bytes c.push_put_lines.new.text) _
    (ap (fates_of c.args.teller.now cells) those ∙ ap
    (λ (fate : Fate). record { put = put; fate = fate } ∷ fates_of c.args.teller.now cells (drop (place + 1) puts))
    (sym (c.fate_told-fate.ensures ∙ ap (fate_of c.args.teller.now cells put) c.behind.ensures))) c.loop-place.invariant
    c.in_ok-push_put_lines.ensures
