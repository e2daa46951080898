use Rattle.rw_engine.proofs.Common.{Settled, State, ap, ap₂, length, option_map, refl, subst, sym, take, ◌-◌, ◌∙◌}
use Rattle.std.specs.Prelude.{is_some}
use Rattle.rw_run.specs.Trace.{lines_in}
use Rattle.rw_record.specs.Notes.{CanTakeBack}
use Rattle.rw_series.specs.Series.{held}
use Rattle.rw_engine.proofs.Backs.{HasTakenBack, sound_back, takes_back}
use Rattle.rw_engine.proofs.Notings.{cleared_some}
use Rattle.rw_engine.proofs.Traces.{short_some}
use Rattle.rw_engine.proofs.state.State.take_back.Goals as goal

module _ (c : goal.After-self-2-1) where
  abbrev new : State
  new = record c.args.self.now {
    noted = c.begin_step.new.self;
    lines = c.truncate.new.self;
    run = record c.args.self.now.run {
      trace = c.truncate-2.new.self;
      series = c.put_back_kept.new.series;
      closed = c.saturating_sub-self.result;
      end = Settled;
    };
  }

  has : HasTakenBack c.args.basin.now c.args.kept.now c.args.self.now new
  has = record {
    rules = refl;
    queue = refl;
    work = refl;
    counts = refl;
    firings = refl;
    notes = ap is_some c.begin_step.ensures ∙ cleared_some c.args.self.now.noted;
    keeps_lines = ap is_some c.truncate.ensures ∙ short_some c.args.self.now.lines 0;
    made = c.put_back_kept.ensures.made;
    back =
        λ before made can. c.put_back_kept.ensures.back before made
        (subst (CanTakeBack before (held c.args.self.now.run.series)) (sym c.looked.ensures) can);
    trace = c.truncate-2.ensures ∙ ap (λ count. option_map (take count) c.args.self.now.run.trace)
        (c.saturating_sub-before.ensures ∙ ap₂ (λ all last. all - last) c.len.ensures
        (c.len-2.ensures ∙ ap (λ told. length (lines_in told)) c.lines.ensures));
    closed_steps = c.saturating_sub-self.ensures ∙ ap (λ step. step - 1) c.step.ensures;
    end = refl;
  }

pub returns-clause-back : goal.returns-clause-back
returns-clause-back c = takes_back c.args.basin.now c.args.kept.now c.args.self.now (new c) c.requires.made (has c)

pub returns-clause-sound : goal.returns-clause-sound
returns-clause-sound c = sound_back c.args.basin.now c.args.kept.now c.args.self.now (new c) (has c)
