use Rattle.rw_base.proofs.Common.{ap, arith, length, suc, sym, ◌+◌, ◌-◌, ◌||◌, ◌&&◌, ◌∙◌, ◌≡◌, false, ◌==◌}
use Rattle.rw_agenda.specs.CellIndex.{is_met}
use Rattle.rw_agenda.proofs.Watches.{met_next}
use Rattle.rw_agenda.proofs.cell_index.is_met.Goals as goal

pub loop-turn-preserved : goal.loop-turn-preserved
loop-turn-preserved c =
    let watches = c.args.watches.now in
    let left = length watches - (c.loop-turn.turn + 1) in
    let more : length watches - c.loop-turn.turn ≡ suc left = omega (arith, c.loop-turn-test.true) in
    let other : (c.in-Some.watch.rule == c.args.rule && c.in-Some.watch.step == c.args.step) ≡ false =
    sym c.is_of.ensures ∙ c.if-is_of.false in
    let next = met_next watches c.args.past (length watches - c.loop-turn.turn) left c.loop-turn.number c.args.rule c.args.step c.in-Some.watch more
    (sym c.watch_of.ensures ∙ c.in-Some.is) in
    sym (next ∙ ap (λ t. t || is_met watches c.args.past left c.in-Some.watch.before c.args.rule c.args.step) other) ∙ c.loop-turn.invariant
