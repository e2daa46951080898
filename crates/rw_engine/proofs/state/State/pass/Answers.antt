use Rattle.rw_engine.proofs.Common.{All-nil, Event, [], ap, cells_of, closed_by, held, lines, opened, refl, sym, written_by, ◌∙◌, ◌∷◌}
use Rattle.std.specs.Prelude.{is_some}
use Rattle.rw_dispatch.specs.Writes.{AreWrites}
use Rattle.rw_engine.specs.State.{step_end}
use Rattle.rw_engine.proofs.Notings.{notes_first, revocable_first}
use Rattle.rw_engine.proofs.Steps.{ends_step, goes_back_more, reached_more, still_more, unpassed}
use Rattle.rw_engine.proofs.Traces.{shown_more}
use Rattle.rw_engine.proofs.Turns.{few_first, few_last, few_more}
use Rattle.rw_engine.proofs.state.State.pass.Goals as goal

pub loop-ended-init : goal.loop-ended-init
loop-ended-init g c =
    let tells = c.open.ensures.tells in
    let old = c.args.self.now in
    let new = c.open.new.self in
    let same = ap held tells.series in record {
      within = c.in_ok-open.ensures.opened.within;
      reached = λ log shows before. record {
        events = [];
        now = opened c.args.step.0 ∷ log;
        leads = refl;
        turned = tells.turns;
        holds = c.in_ok-open.ensures.opened.holds log shows before;
        inside_step = tt;
        notes = notes_first c.args.setup.now.basin.now (cells_of c.args.setup.now.basin.now log) (held new.run.series) new.noted
            (rw tells.noted c.requires.fresh.cleared) (λ cell. ap (λ cells. cells cell) same ∙ shows.cells cell);
        lines_are = shown_more old.lines new.lines [] (lines (opened c.args.step.0)) c.in_ok-open.ensures.opened.lines_are c.requires.fresh.none_told;
        can = All-nil (λ (event : Event). AreWrites c.args.setup.now.basin.now (written_by event));
      };
      back = record {
        revocable =
            revocable_first (held old.run.series) (held new.run.series) new.noted (rw tells.noted c.requires.fresh.cleared)
            (λ cell. ap (λ cells. cells cell) same);
        notes = ap is_some tells.noted;
        grows = tells.grows;
      };
      few = few_first c.args.setup.now.basin.now old new tells.turns c.in_ok-open.ensures.opened.within.made.counts;
      still = record { closed_steps = tells.closed_steps; end = tells.end };
      ready = c.requires.ready;
    }

pub returns-then-ended : goal.returns-then-ended
returns-then-ended g c =
    let end = step_end c.event.new.self.run.end in
    let back =
    goes_back_more c.args.setup.now.basin.now c.args.setup.now.policy.now c.args.self.now c.loop-ended.self c.event.new.self
    c.loop-ended.invariant.back c.event.ensures.does.keeps in
    rw c.step_end.ensures (record {
      made = c.event.ensures.does.keeps.within.made;
      back = back;
      still = tt;
      passes = λ log shows before.
          ends_step c.args.setup.now.basin.now c.args.setup.now.policy.now _ c.args.self.now.turns log c.args.self.now c.loop-ended.self
          c.event.new.self c.args.step.0 end
          (c.loop-ended.invariant.reached log shows before) (λ l holds. rw c.if-ended.true at c.in_ok-ended.ensures.does.goes l holds)
          c.event.ensures.picks shows before
          c.event.ensures.does.keeps.within.made.engine.notes;
      closed_steps =
          (rw c.if-ended.true at c.in_ok-ended.ensures.does.on_the_way) ∙ ap (closed_by end c.args.step.0) c.loop-ended.invariant.still.closed_steps;
      few = few_last c.args.setup.now.basin.now c.loop-ended.self c.event.new.self _ c.in_ok-ended.ensures.does.few c.loop-ended.invariant.few;
      wants = tt;
    })

pub returns-in_err-ended : goal.returns-in_err-ended
returns-in_err-ended g c =
    unpassed c.args.setup.now.basin.now c.args.setup.now.policy.now _ c.args.step.0 c.args.self.now c.event.new.self
    c.from_residual-in_err-ended.result _
    c.from_residual-in_err-ended.ensures.1 c.event.ensures.does.keeps.within.made
    (goes_back_more c.args.setup.now.basin.now c.args.setup.now.policy.now c.args.self.now c.loop-ended.self c.event.new.self
    c.loop-ended.invariant.back c.event.ensures.does.keeps)
    (still_more c.args.self.now c.loop-ended.self c.event.new.self c.loop-ended.invariant.still c.in_err-ended.ensures.does.on_the_way)
    (sym c.loop-ended.invariant.back.notes ∙ c.in_err-ended.ensures.does.wants)

pub loop-ended-preserved : goal.loop-ended-preserved
loop-ended-preserved g c = record {
  within = c.event.ensures.does.keeps.within;
  reached =
      λ log shows before. reached_more c.args.setup.now.basin.now c.args.setup.now.policy.now _ c.args.self.now.turns log c.loop-ended.self
      c.event.new.self c.args.step.0 (c.loop-ended.invariant.reached log shows before)
      (λ l holds. rw c.if-ended.false at c.in_ok-ended.ensures.does.goes l holds) c.event.ensures.picks;
  few = few_more c.args.setup.now.basin.now c.loop-ended.self c.event.new.self _ c.in_ok-ended.ensures.does.few c.loop-ended.invariant.few;
  back =
      goes_back_more c.args.setup.now.basin.now c.args.setup.now.policy.now c.args.self.now c.loop-ended.self c.event.new.self
      c.loop-ended.invariant.back c.event.ensures.does.keeps;
  still =
      still_more c.args.self.now c.loop-ended.self c.event.new.self c.loop-ended.invariant.still
      (rw c.if-ended.false at c.in_ok-ended.ensures.does.on_the_way).0;
  ready = c.event.ensures.ready;
}
