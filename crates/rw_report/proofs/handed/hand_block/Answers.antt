use Rattle.std.proofs.Common.{◌≡◌, ◌-◌, ◌++◌, ◌∙◌, List, ℕ, MatchResult, ap, append_assoc, arith, drop, length-drop, subst, take, take_all}
use Rattle.rw_io.specs.Handed.{BrokeOff, IsOnItsWay}
use Rattle.rw_series.specs.Series.{held}
use Rattle.rw_report.specs.Pieces.{words_at}
use Rattle.rw_report.specs.Section.{for_each}
use Rattle.rw_report.proofs.handed.hand_block.Goals as goal

pub returns : goal.returns
returns g c = λ before front way.
    let words = words_at (held c.args.cells.now) in
    let w = c.write_block-at in
    let piece = drop w.result w.new.buffer in
    let all : take (672 - w.result) piece ≡ piece =
    take_all (672 - w.result) piece (omega (arith, length-drop w.result w.new.buffer, w.array_long)) in
    subst (λ (t : List ℕ). MatchResult c.put.result (λ _. IsOnItsWay before (g.K.Sink.seen c.put.new.out) c.put.new.self t)
    (λ _. BrokeOff before (g.K.Sink.seen c.put.new.out) t))
    (ap (λ t. (front ++ for_each words c.args.first) ++ t) all
    ∙ append_assoc front (for_each words c.args.first) piece ∙ ap (λ t. front ++ t) w.ensures.written)
    (c.put.ensures before (front ++ for_each words c.args.first) way)
