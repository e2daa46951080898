use Rattle.rw_commands.proofs.Common.{ap, arith, change, length, subst, sym, ◌+◌, ◌∙◌}
use Rattle.rw_inputs.specs.Edits.{IsBatch}
use Rattle.rw_commands.specs.Reused.{WritesFrom}
use Rattle.rw_commands.specs.RunText.{IsRulesText}
use Rattle.rw_commands.specs.Sections.{edited_given}
use Rattle.rw_commands.proofs.SameValues.{next_told}
use Rattle.rw_commands.proofs.SectionLemmas.{first_of_all, rest_of, stops_behind, stops_here}
use Rattle.rw_commands.proofs.SessionSections.{later_next, later_number, values_from, writes_last, writes_more}
use Rattle.rw_commands.proofs.reused.+write_from.Goals as goal

pub returns-in-Err : goal.returns-in-Err
returns-in-Err g t c = λ policy given means next. record {
  text = stops_here (IsRulesText c.args.session.now.setup.basin.now policy c.args.extras) c.args.number given c.args.batches.now _ c.in-Err.refusal
      (c.in-Err.ensures.out policy given means next);
  counted = tt;
}

pub returns-in-None : goal.returns-in-None
returns-in-None g t c = λ policy given means next.
    writes_last c.args.session.now.setup.basin.now policy c.args.extras c.args.number given c.args.session.now.state next c.args.batches.now _ _
    c.in-Ok.end
    c.in-None.ensures (c.in-Ok.ensures.out policy given means next)

pub returns-in-Err-apply : goal.returns-in-Err-apply
returns-in-Err-apply g t c = λ policy given means next.
    let some = ap length c.in-Some.ensures in
    record {
      text = stops_behind (IsRulesText c.args.session.now.setup.basin.now policy c.args.extras) c.args.number given c.args.batches.now
          (change (g.K.Sink.seen c.args.out.now) (g.K.Sink.seen c.write_run.new.out)) c.in-Ok.end
          (omega (arith, some)) (c.in-Ok.ensures.out policy given means next);
      counted = tt;
    }

pub apply-requires-clause-batch : goal.apply-requires-clause-batch
apply-requires-clause-batch g t c =
    first_of_all (IsBatch c.args.session.now.setup.basin.now) c.args.batches.now c.in-Some.batch.now c.in-Some.rest.now c.in-Some.ensures
    c.requires.batches

pub write_from-requires : goal.write_from-requires
write_from-requires g t c κs within =
    let shorter = ap length c.in-Some.ensures in
    let few = c.requires.few in
    let batches =
    rest_of (IsBatch c.args.session.now.setup.basin.now) c.args.batches.now c.in-Some.batch.now c.in-Some.rest.now c.in-Some.ensures
    c.requires.batches in
    let kept = c.in-Ok-apply.ensures.kept.0 in
    let same = next_told c.args.session.now.setup.basin.now c.args.session.now.state c.apply.new.self.state c.write_run.new.sheet.values
    c.in-Ok-apply.ensures.applied.before_same c.in-Ok.ensures.values in (
      omega (arith, c.decreases, shorter),
      (
        within.0,
        (
          within.1.0,
          (
            within.1.1,
            (
              record {
                made = rw kept c.in-Ok-apply.ensures.applied.is;
                reuse = c.requires.can.reuse;
                traced = c.in-Ok-apply.ensures.applied.kept.trace ∙ c.requires.can.traced;
                own = rw kept (c.in-Ok.ensures.sheet ∙ c.requires.can.own);
                same = rw kept same;
              },
              (rw kept c.requires.order, (rw kept batches, omega (arith, few, shorter))),
            ),
          ),
        ),
      ),
    )

pub apply-requires-clause-made : goal.apply-requires-clause-made
apply-requires-clause-made g t c = c.requires.can.made

pub returns-in-Ok-apply : goal.returns-in-Ok-apply
returns-in-Ok-apply g t c = λ policy given means next.
    let basin = c.args.session.now.setup.basin.now in
    let code = c.args.session.now.setup.policy.now in
    let old = c.args.session.now.state in
    let new = c.apply.new.self.state in
    let applies = c.in-Ok-apply.ensures.applied in
    let kept = c.in-Ok-apply.ensures.kept.0 in
    let behind =
    later_next basin policy code means (c.args.number + 1) given c.in-Some.batch.now old new (later_number c.args.number) next.inputs_are
    c.requires.can.made applies in
    subst
    (λ batches. WritesFrom basin policy c.args.extras c.args.number given batches (length old.reran)
    (change (g.K.Sink.seen c.args.out.now) (g.K.Sink.seen c.write_from.new.out)) (change c.args.steps.now c.write_from.new.steps) c.write_from.result)
    (sym c.in-Some.ensures)
    (writes_more basin policy c.args.extras c.args.number given old next c.in-Some.batch.now c.in-Some.rest.now new.inputs
    (g.K.Sink.seen c.args.out.now) (g.K.Sink.seen c.write_run.new.out) (g.K.Sink.seen c.write_from.new.out) c.in-Ok.end
    (c.in-Ok.ensures.out policy given means next)
    (values_from basin code given c.in-Some.batch.now old new next.inputs_are applies)
    (length new.reran) c.args.steps.now c.apply.new.steps c.write_from.new.steps c.in-Ok-apply.ensures.counted.each c.write_from.result
    (rw kept at (c.write_from.ensures policy (edited_given given new.inputs) (rw kept means) (rw kept behind))))
