use Rattle.rw_engine.proofs.Common.{All-nil, None, arith, closed, held, lines, refl, sym, trace_of, ◌∙◌}
use Rattle.rw_rules.specs.Rules.{policy_in}
use Rattle.rw_engine.proofs.After.{only_told, wanted}
use Rattle.rw_engine.proofs.Firings.{after_all}
use Rattle.rw_engine.proofs.Notings.{none_written, with_none}
use Rattle.rw_engine.proofs.Traces.{shown_more}
use Rattle.rw_engine.proofs.state.State.close.Goals as goal

pub tell_line-requires : goal.tell_line-requires
tell_line-requires g c kept = c.requires.within.made.engine.notes.same ∙ c.requires.within.made.engine.notes.traced kept

pub returns-in_err-tell_line : goal.returns-in_err-tell_line
returns-in_err-tell_line g c =
    let basin = c.args.setup.now.basin.now in
    let policy = c.args.setup.now.policy.now in
    let old = c.args.self.now in
    wanted basin policy None c.args.step.0 old _ _ c.from_residual.result _ c.from_residual.ensures.1
    (only_told basin policy old c.tell_line.new.trace c.tell_line.new.lines c.requires.within c.tell_line.ensures.grows c.tell_line.ensures.adds)
    (record { closed_steps = refl; end = refl }) (sym c.requires.within.made.engine.notes.same ∙ c.in_err-tell_line.ensures.wants)

pub returns : goal.returns
returns g c =
    let basin = c.args.setup.now.basin.now in
    let old = c.args.self.now in
    let step = c.args.step.0 in
    record {
      keeps =
          let told_on =
          only_told basin c.args.setup.now.policy.now old c.tell_line.new.trace c.tell_line.new.lines c.requires.within c.tell_line.ensures.grows
          c.tell_line.ensures.adds in
          let engine = told_on.within.made.engine in record {
            within = record {
              made = record {
                engine = record {
                  valid = engine.valid;
                  fits = engine.fits;
                  objects = engine.objects;
                  rules = engine.rules;
                  series = engine.series;
                  closed_steps = c.requires.step.last;
                  notes = engine.notes;
                };
                keeps = told_on.within.made.keeps;
                counts = told_on.within.made.counts;
                firings = told_on.within.made.firings;
              };
              ready = told_on.within.ready;
              indexed = told_on.within.indexed;
            };
            revocable = λ before can. can;
            notes = refl;
            grows = told_on.grows;
          };
      on_the_way = refl;
      goes = λ log given. record {
        event = closed step;
        follows = after_all basin (policy_in basin c.args.setup.now.policy.now) (held old.run.series) step log None
            (λ i cell. given.0.shows.cells cell i) given.1;
        goes = (
          refl,
          record {
            cells = given.0.shows.cells;
            trace =
                shown_more old.run.trace c.tell_line.new.trace (trace_of log) (lines (closed step)) c.in_ok-tell_line.ensures.said
                given.0.shows.trace;
            closed_steps = refl;
            end = refl;
          },
        );
        notes = λ calm. sym (with_none (held old.run.series) old.noted);
        lines_are = c.in_ok-tell_line.ensures.noted;
        asks = none_written (closed step) refl;
        can = All-nil _;
        turned = record { least = omega arith; same = λ calm. refl };
      };
      few = omega arith;
      wants = tt;
    }
