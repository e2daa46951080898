use Rattle.std.proofs.Common.{IfSome, ap, is_some, option_map, refl, subst, sym, take, ◌∙◌, ◌≡◌}
use Rattle.rw_run.specs.RunOf.{trace_of}
use Rattle.rw_series.specs.Series.{held}
use Rattle.rw_base.specs.declared.number.Cell.{Cell}
use Rattle.rw_record.specs.Noted.{noted_in}
use Rattle.rw_record.specs.Notes.{CanTakeBack}
use Rattle.rw_engine.proofs.Notings.{cleared_none, cleared_some, in_some}
use Rattle.rw_engine.proofs.Traces.{alike_on, emptied, grows_some, short_some, shortened}
use Rattle.rw_engine.proofs.Steps.{clears, unopened}
use Rattle.rw_engine.proofs.state.State.run_step.Goals as goal

pub pass-requires-clause-fresh : goal.pass-requires-clause-fresh
pass-requires-clause-fresh g c =
    let old = c.args.self.now in record {
      made = clears c.args.setup.now.basin.now c.args.setup.now.policy.now old c.begin_step.new.self c.truncate.new.self c.requires.made
          (ap is_some c.begin_step.ensures ∙ cleared_some old.noted) (ap is_some c.truncate.ensures ∙ short_some old.lines 0);
      cleared = rw c.begin_step.ensures (cleared_none old.noted);
      none_told = rw c.truncate.ensures (emptied old.lines);
    }

pub returns-in_err-prepare-clause-made : goal.returns-in_err-prepare-clause-made
returns-in_err-prepare-clause-made g c =
    let old = c.args.self.now in
    clears c.args.setup.now.basin.now c.args.setup.now.policy.now old c.begin_step.new.self c.truncate.new.self c.requires.made
    (ap is_some c.begin_step.ensures ∙ cleared_some old.noted) (ap is_some c.truncate.ensures ∙ short_some old.lines 0)

pub returns-in_err-prepare-clause-runs : goal.returns-in_err-prepare-clause-runs
returns-in_err-prepare-clause-runs g c =
    let old = c.args.self.now in
    unopened c.args.setup.now.basin.now c.args.setup.now.policy.now _ c.args.step.0 _ _ c.from_residual.result _ c.from_residual.ensures.1
    (clears c.args.setup.now.basin.now c.args.setup.now.policy.now old c.begin_step.new.self c.truncate.new.self c.requires.made
    (ap is_some c.begin_step.ensures ∙ cleared_some old.noted) (ap is_some c.truncate.ensures ∙ short_some old.lines 0)).engine
    (λ log shows. record { cells = shows.cells; trace = shows.trace; closed_steps = shows.closed_steps; end = shows.end })
    (rw c.truncate.ensures (emptied old.lines))
    (record { trace = refl; noted = ap is_some c.begin_step.ensures ∙ cleared_some old.noted })

module _ (g : _) (c : goal.After-truncate-in-Err-2 g) where
  can : CanTakeBack (held c.args.self.now.run.series) (held c.pass.new.self.run.series) (noted_in c.pass.new.self.noted)
  can = in_some c.pass.new.self.noted (CanTakeBack (held c.args.self.now.run.series) (held c.pass.new.self.run.series))
      (c.pass.ensures.back.notes ∙ c.in-Err.ensures.wants)
      c.pass.ensures.back.revocable

  back : (cell : Cell) → held c.take_back.new.series cell ≡ held c.args.self.now.run.series cell
  back = c.take_back.ensures.back c.args.self.now.run.series c.requires.made.engine.series.made can

  same : c.truncate-in-Err.new.self ≡ c.args.self.now.run.trace
  same = c.truncate-in-Err.ensures ∙ ap (λ count. option_map (take count) c.pass.new.self.run.trace) c.len-before.ensures
      ∙ shortened c.args.self.now.run.trace c.pass.new.self.run.trace c.pass.ensures.back.grows

pub returns-in-Err-clause-made : goal.returns-in-Err-clause-made
returns-in-Err-clause-made g c = record {
  engine = record {
    valid = c.pass.ensures.made.engine.valid;
    fits = c.pass.ensures.made.engine.fits;
    objects = c.pass.ensures.made.engine.objects;
    rules = c.pass.ensures.made.engine.rules;
    series = record {
      made = c.take_back.ensures.made;
      bounded = λ cell content known is. c.requires.made.engine.series.bounded cell content known (sym (back g c cell) ∙ is);
    };
    closed_steps = c.pass.ensures.made.engine.closed_steps;
    notes =
        alike_on c.pass.new.self.noted c.pass.new.self.noted c.pass.new.self.lines c.truncate-in-Err-2.new.self c.pass.new.self.run.trace
        c.truncate-in-Err.new.self refl (ap is_some c.truncate-in-Err-2.ensures ∙ short_some c.pass.new.self.lines 0)
        (ap is_some (same g c) ∙ sym (grows_some c.args.self.now.run.trace c.pass.new.self.run.trace c.pass.ensures.back.grows))
        c.pass.ensures.made.engine.notes;
  };
  keeps = c.pass.ensures.made.keeps;
  counts = c.pass.ensures.made.counts;
  firings = c.pass.ensures.made.firings;
}

pub returns-in-Ok-clause-runs : goal.returns-in-Ok-clause-runs
returns-in-Ok-clause-runs g c = record {
  made = c.pass.ensures.made.engine;
  passes =
      λ log shows. c.in-Ok.ensures.passes log (record {
        cells = shows.cells;
        trace = shows.trace;
        closed_steps = shows.closed_steps;
        end = shows.end;
      });
  before = λ log shows. tt;
  untold = tt;
  kept = record {
    trace = grows_some c.args.self.now.run.trace c.pass.new.self.run.trace c.pass.ensures.back.grows;
    noted = c.pass.ensures.back.notes ∙ ap is_some c.begin_step.ensures ∙ cleared_some c.args.self.now.noted;
  };
  closed_steps = c.in-Ok.ensures.closed_steps;
  few = c.in-Ok.ensures.few;
}

pub returns-in-Err-clause-runs : goal.returns-in-Err-clause-runs
returns-in-Err-clause-runs g c = record {
  made = (returns-in-Err-clause-made g c).engine;
  passes = λ log shows before. tt;
  before = λ log shows. record {
    cells = λ cell. back g c cell ∙ shows.cells cell;
    trace = subst (λ trace. IfSome trace (λ lines. lines ≡ trace_of log)) (sym (same g c)) shows.trace;
    closed_steps = c.in-Err.ensures.still.closed_steps ∙ shows.closed_steps;
    end = c.in-Err.ensures.still.end ∙ shows.end;
  };
  untold = rw c.truncate-in-Err-2.ensures (emptied c.pass.new.self.lines);
  kept = record {
    trace = ap is_some (same g c);
    noted = c.pass.ensures.back.notes ∙ ap is_some c.begin_step.ensures ∙ cleared_some c.args.self.now.noted;
  };
  closed_steps = tt;
  few = tt;
}
