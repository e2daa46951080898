use Rattle.rw_engine.proofs.Common.{All-nil, Some, arith, fault, lines, refl, sym, trace_of, ◌∙◌}
use Rattle.rw_engine.proofs.After.{keeps_ended, only_told, wanted}
use Rattle.rw_engine.proofs.Notings.{none_written}
use Rattle.rw_engine.proofs.Traces.{shown_more}
use Rattle.rw_engine.proofs.state.State.exceed.Goals as goal

pub tell_line-requires : goal.tell_line-requires
tell_line-requires g c kept = c.requires.within.made.engine.notes.same ∙ c.requires.within.made.engine.notes.traced kept

pub returns-in_err-tell_line : goal.returns-in_err-tell_line
returns-in_err-tell_line g c = λ chosen waits.
    let basin = c.args.setup.now.basin.now in
    let policy = c.args.setup.now.policy.now in
    let old = c.args.self.now in
    wanted basin policy chosen c.args.step.0 old _ _ c.from_residual.result _ c.from_residual.ensures.1
    (only_told basin policy old c.tell_line.new.trace c.tell_line.new.lines c.requires.within c.tell_line.ensures.grows c.tell_line.ensures.adds)
    (record { closed_steps = refl; end = refl }) (sym c.requires.within.made.engine.notes.same ∙ c.in_err-tell_line.ensures.wants)

pub returns : goal.returns
returns g c = λ chosen waits.
    let basin = c.args.setup.now.basin.now in
    let policy = c.args.setup.now.policy.now in
    let old = c.args.self.now in
    let why = c.args.why in record {
      keeps =
          keeps_ended basin policy old (record old {
            run = record old.run { trace = c.tell_line.new.trace };
            lines = c.tell_line.new.lines;
          }) (Some why)
          (only_told basin policy old c.tell_line.new.trace c.tell_line.new.lines c.requires.within c.tell_line.ensures.grows
          c.tell_line.ensures.adds);
      on_the_way = refl;
      goes = λ log given. record {
        event = fault why;
        follows = given.1;
        goes = (
          refl,
          record {
            cells = given.0.shows.cells;
            trace =
                shown_more old.run.trace c.tell_line.new.trace (trace_of log) (lines (fault why)) c.in_ok-tell_line.ensures.said given.0.shows.trace;
            closed_steps = given.0.shows.closed_steps;
            end = refl;
          },
        );
        notes = λ calm. absurd (calm tt);
        lines_are = c.in_ok-tell_line.ensures.noted;
        asks = none_written (fault why) refl;
        can = All-nil _;
        turned = record { least = omega arith; same = λ calm. absurd (calm tt) };
      };
      few = omega arith;
      wants = tt;
    }
