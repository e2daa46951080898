use Rattle.rw_base.proofs.Common.{arith, refl, rules, subst, take_all, ◌∙◌}
use Rattle.rw_dispatch.specs.Writes.{CanWrite}
use Rattle.rw_writes.specs.Writes.{MarksAll}
use Rattle.rw_writes.proofs.Marking.{marks_more, marks_none, marks_unread}
use Rattle.rw_writes.proofs.marked.mark.Goals as goal

pub changed-requires : goal.changed-requires
changed-requires c =
    let can : CanWrite c.args.basin.now c.write-item.result = search rules in can.cell.slot

pub loop-write-preserved : goal.loop-write-preserved
loop-write-preserved c = record {
  order = c.changed.ensures.order ∙ c.loop-write.invariant.order;
  rules = c.changed.ensures.rules ∙ c.loop-write.invariant.rules;
  marked =
      marks_more c.args.basin.now c.args.agenda.now c.loop-write.agenda c.changed.new.self c.args.writes.now c.loop-write.write-index
      c.write-item.result
      c.loop-write-test.true c.write-item.is c.loop-write.invariant.marked c.changed.ensures.rules c.changed.ensures.marked;
}

pub loop-write-init : goal.loop-write-init
loop-write-init c = record { order = refl; rules = refl; marked = marks_none c.args.basin.now c.args.agenda.now }

pub returns-clause-marked : goal.returns-clause-marked
returns-clause-marked c =
    subst (λ writes. MarksAll c.args.basin.now writes c.args.agenda.now c.loop-write.agenda)
    (take_all c.loop-write.write-index c.args.writes.now (omega (arith, c.loop-write-test.false))) c.loop-write.invariant.marked

pub returns-then-is_idle-clause-marked : goal.returns-then-is_idle-clause-marked
returns-then-is_idle-clause-marked c =
    marks_unread c.args.basin.now c.args.agenda.now c.args.writes.now (c.is_idle.ensures c.if-is_idle.true c.args.basin.now)
