use Rattle.rw_base.proofs.Common.{arith, length, suc, sym, ◌+◌, ◌-◌, ◌∙◌, ◌≡◌}
use Rattle.rw_agenda.specs.Marks.{is_flagged}
use Rattle.rw_agenda.proofs.Marking.{marks_last, marks_next}
use Rattle.rw_agenda.proofs.cell_index.mark_met.Goals as goal

pub returns-in_default : goal.returns-in_default
returns-in_default c =
    let watches = c.args.watches.now in
    let left = length watches - (c.loop-turn.turn + 1) in
    let more : length watches - c.loop-turn.turn ≡ suc left = omega (arith, c.loop-turn-test.true) in record {
      order = c.loop-turn.invariant.order;
      many = c.loop-turn.invariant.many;
      marked = λ rule near.
          marks_last watches c.args.past (length watches - c.loop-turn.turn) left c.loop-turn.number rule c.args.step (is_flagged c.loop-turn.marks rule) more
          (sym c.watch_of.ensures ∙ c.in_default.is)
          ∙ c.loop-turn.invariant.marked rule near;
    }

pub loop-turn-preserved : goal.loop-turn-preserved
loop-turn-preserved c =
    let watches = c.args.watches.now in
    let left = length watches - (c.loop-turn.turn + 1) in
    let more : length watches - c.loop-turn.turn ≡ suc left = omega (arith, c.loop-turn-test.true) in record {
      order = c.mark_one.ensures.order ∙ c.loop-turn.invariant.order;
      many = c.mark_one.ensures.many ∙ c.loop-turn.invariant.many;
      marked = λ rule near.
          marks_next watches c.args.past (length watches - c.loop-turn.turn) left c.loop-turn.number rule c.args.step c.in-Some.watch
          (is_flagged c.loop-turn.marks rule) (is_flagged c.mark_one.new.marks rule) more (sym c.watch_of.ensures ∙ c.in-Some.is)
          (c.mark_one.ensures.marked rule (omega (arith, near, c.loop-turn.invariant.many)))
          ∙ c.loop-turn.invariant.marked rule near;
    }
