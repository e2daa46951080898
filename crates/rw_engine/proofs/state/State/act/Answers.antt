use Rattle.rw_engine.proofs.Common.{Leaves, Some, [], ap, held, lines_by, refl, stage, subst, sym, ◌++◌, ◌∙◌}
use Rattle.rw_run.specs.Trace.{told}
use Rattle.rw_run.specs.Dispatch.{dispatched, looked_cells, looks_of}
use Rattle.rw_run.specs.Step.{cells_reached, reached_by}
use Rattle.rw_dispatch.proofs.Waking.{leaves_written}
use Rattle.rw_dispatch.specs.Answer.{answer_of}
use Rattle.rw_dispatch.specs.Writes.{AreWrites}
use Rattle.rw_engine.proofs.After.{counted, keeps_noted, keeps_done, keeps_ended, on_the_way_object, rules_on, wanted, stays_counted}
use Rattle.rw_engine.proofs.Events.{dispatch_lines, next_is, goes_to}
use Rattle.rw_engine.proofs.Notings.{dispatch_asks, dispatch_reached, ended_lines, ended_noted, notes_same, written_reached}
use Rattle.rw_engine.proofs.Traces.{told_none}
use Rattle.rw_engine.proofs.Turns.{counts_dispatch, counts_ended, few_ended, few_object}
use Rattle.rw_rules.specs.Rules.{policy_in}
use Rattle.rw_engine.proofs.state.State.act.Goals as goal

pub note_dispatch-requires-clause-can : goal.note_dispatch-requires-clause-can
note_dispatch-requires-clause-can g c kept =
    subst (AreWrites c.args.setup.now.basin.now) (sym c.as_slice-asked.ensures)
    (c.judge_dispatch.ensures.work.can_ask (c.requires.within.made.keeps ∙ kept))

pub returns-in_err-note_dispatch : goal.returns-in_err-note_dispatch
returns-in_err-note_dispatch g c = λ place waits taken.
    let basin = c.args.setup.now.basin.now in
    let policy = c.args.setup.now.policy.now in
    let old = c.args.self.now in
    wanted basin policy (Some c.args.object.0) c.args.step.0 old _ _ c.from_residual.result _ c.from_residual.ensures.1
    (keeps_noted basin policy old _ c.requires.within
    (stays_counted basin policy old _ c.args.object.0 c.raise.ensures refl c.requires.within.made.engine.rules refl
    c.judge_dispatch.ensures.work.keeps)
    c.requires.within.indexed refl refl ([], sym (told_none _)) ([], sym (told_none _)) c.in_err-note_dispatch.ensures.1)
    (record { closed_steps = refl; end = refl }) c.in_err-note_dispatch.ensures.0

pub returns-in_err-note_lines : goal.returns-in_err-note_lines
returns-in_err-note_lines g c = λ place waits taken.
    let basin = c.args.setup.now.basin.now in
    let policy = c.args.setup.now.policy.now in
    let old = c.args.self.now in
    wanted basin policy (Some c.args.object.0) c.args.step.0 old _ _ c.from_residual-in_err-note_lines.result _
    c.from_residual-in_err-note_lines.ensures.1
    (keeps_noted basin policy old _ c.requires.within
    (stays_counted basin policy old _ c.args.object.0 c.raise.ensures refl c.requires.within.made.engine.rules refl
    c.judge_dispatch.ensures.work.keeps)
    c.requires.within.indexed refl refl ([], sym (told_none _)) c.note_lines.ensures.grows
    (looked_cells basin c.args.object.0 c.args.step.0 ++ cells_reached basin c.as_slice-asked.result.now, c.in_ok-note_dispatch.ensures))
    (record { closed_steps = refl; end = refl }) (sym c.requires.within.made.engine.notes.same ∙ c.in_err-note_lines.ensures.wants)

pub returns-in_err-note_lines-2 : goal.returns-in_err-note_lines-2
returns-in_err-note_lines-2 g c = λ place waits taken.
    let basin = c.args.setup.now.basin.now in
    let policy = c.args.setup.now.policy.now in
    let old = c.args.self.now in
    wanted basin policy (Some c.args.object.0) c.args.step.0 old _ _ c.from_residual-in_err-note_lines-2.result _
    c.from_residual-in_err-note_lines-2.ensures.1
    (keeps_noted basin policy old _ c.requires.within
    (stays_counted basin policy old _ c.args.object.0 c.raise.ensures refl c.requires.within.made.engine.rules refl
    c.judge_dispatch.ensures.work.keeps)
    c.requires.within.indexed refl refl c.note_lines-2.ensures.grows c.note_lines.ensures.grows
    (looked_cells basin c.args.object.0 c.args.step.0 ++ cells_reached basin c.as_slice-asked.result.now, c.in_ok-note_dispatch.ensures))
    (record { closed_steps = refl; end = refl }) (c.requires.within.made.engine.notes.traced c.in_err-note_lines-2.ensures.wants)

leaves : (g : _) (c : goal.After-end_by g)
    → Leaves c.args.setup.now.basin.now (dispatched c.args.setup.now.basin.now (held c.args.self.now.run.series) c.args.object.0 c.args.step.0)
    (stage c.args.self.now.run.series c.args.self.now.queue) (stage c.make.new.series c.wake_written.new.self)
leaves g c =
    let basin = c.args.setup.now.basin.now in
    let object = c.args.object.0 in
    let step = c.args.step.0 in
    let cells = held c.args.self.now.run.series in
    leaves_written basin (looks_of basin cells object step) object step (dispatched basin cells object step)
    (answer_of c.judge_dispatch.new.work.end c.judge_dispatch.ensures.ends.asked c.judge_dispatch.ensures.ends.written)
    c.as_slice-writes.result.now (stage c.args.self.now.run.series c.args.self.now.queue) (stage c.make.new.series c.wake_written.new.self)
    c.judge_dispatch.ensures.ends.is (c.as_slice-writes.ensures ∙ c.judge_dispatch.ensures.work.writes) c.make.ensures.cells
    c.wake_written.ensures.woken

pub returns : goal.returns
returns g c = λ place waits taken.
    let basin = c.args.setup.now.basin.now in
    let policy = c.args.setup.now.policy.now in
    let old = c.args.self.now in
    let object = c.args.object.0 in
    let step = c.args.step.0 in
    let cells = held old.run.series in
    let event = dispatched basin cells object step in
    let known = c.requires.turn.known in
    let within = c.requires.within in
    let work = c.judge_dispatch.ensures.work in
    let asked = c.as_slice-asked.result.now in
    let reached = looked_cells basin object step ++ cells_reached basin asked in
    let asks = dispatch_asks basin cells object step in
    let on = c.touched.ensures cells (held c.make.new.series) c.make.ensures.cells in
    let made = leaves g c in
    rw (c.end_by.ensures.state, c.end_by.ensures.end) (record {
      keeps = keeps_ended basin policy old _ c.fault_by-fault.result
          (keeps_done basin policy old _ within
          (stays_counted basin policy old _ object c.raise.ensures refl
          (rules_on basin policy cells (held c.make.new.series) old.rules c.touched.new.self on within.made.engine.rules) refl work.keeps)
          event reached (on.indexed within.indexed)
          (record { series = c.make.ensures.made; queue = c.wake_written.ensures.made }) made c.note_lines-2.ensures.grows c.note_lines.ensures.grows
          c.in_ok-note_dispatch.ensures
          (λ kept. written_reached basin event reached
          (dispatch_reached basin cells object step asked (λ calm. c.as_slice-asked.ensures ∙ work.asked (within.made.keeps ∙ kept) calm)) asks));
      on_the_way =
          on_the_way_object basin step old _ c.fault_by-fault.result object (counted basin policy old object within known) c.requires.below
          c.raise.ensures refl refl refl;
      goes = λ log holds. record {
        event = event;
        follows = next_is basin (policy_in basin policy) cells step log object (λ i cell. holds.shows.cells cell i)
            (rw (← holds.counts object known) c.requires.below);
        goes =
            goes_to basin policy old _ (looks_of basin cells object step) step object place waits old.queue.waiting log event
            c.judge_dispatch.new.work.end taken holds (record {
              told = record {
                is = c.judge_dispatch.ensures.ends;
                cells = made.cells;
                trace = c.in_ok-note_lines-2.ensures.told
                    ∙ ap (λ writes. told old.run.trace (lines_by object step c.judge_dispatch.new.work.end writes))
                    (c.as_slice-writes.ensures ∙ work.writes);
                closed_steps = refl;
              };
              counted = counted basin policy old object within known;
              counts = c.raise.ensures;
              queue = made.queue;
              rules = on.rules;
              firings = refl;
            }) refl c.fault_by-fault.result (sym c.fault_by-fault.ensures);
        notes =
            λ calm. ended_noted c.fault_by-fault.result _ ∙ notes_same cells reached (reached_by basin event) old.noted _ c.in_ok-note_dispatch.ensures
            (λ kept. dispatch_reached basin cells object step asked
            (λ calm. c.as_slice-asked.ensures ∙ work.asked (within.made.keeps ∙ kept) calm) calm);
        lines_are = ended_lines c.fault_by-fault.result _ ∙ c.in_ok-note_lines.ensures.told
            ∙ ap (λ writes. told old.lines (lines_by object step c.judge_dispatch.new.work.end writes)) (c.as_slice-writes.ensures ∙ work.writes)
            ∙ ap (told old.lines) (dispatch_lines basin (looks_of basin cells object step) step object event c.judge_dispatch.new.work.end
            c.judge_dispatch.ensures.ends);
        asks = asks;
        can = subst (AreWrites basin) work.writes work.can;
        turned = counts_ended old.turns _ event c.fault_by-fault.result
            (counts_dispatch basin (looks_of basin cells object step) object step old.turns _ event c.judge_dispatch.new.work.end
            c.judge_dispatch.ensures.ends
            c.next_turn-self.ensures.is c.next_turn-self.ensures.rises);
      };
      few = few_ended basin old _ c.fault_by-fault.result
          (few_object basin old c.raise.new.self c.next_turn-self.result object (counted basin policy old object within known) c.requires.below
          c.raise.ensures c.next_turn-self.ensures.few);
      wants = tt;
    })
