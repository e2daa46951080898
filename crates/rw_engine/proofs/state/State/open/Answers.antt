use Rattle.rw_engine.proofs.Common.{refl, subst, sym, ◌∙◌}
use Rattle.rw_run.proofs.Ready.{all_waiting-ready, AreReady}
use Rattle.rw_run.proofs.Placed.{settled_at_rest}
use Rattle.rw_engine.proofs.Records.{any_err}
use Rattle.rw_engine.proofs.Steps.{opens_step}
use Rattle.rw_engine.proofs.Traces.{alike_told}
use Rattle.rw_engine.proofs.state.State.open.Goals as goal

pub tell_line-requires : goal.tell_line-requires
tell_line-requires g c kept = c.requires.fresh.made.engine.notes.same ∙ c.requires.fresh.made.engine.notes.traced kept

pub returns-in_err-tell_line-clause-wants : goal.returns-in_err-tell_line-clause-wants
returns-in_err-tell_line-clause-wants g c =
    any_err c.from_residual.result (sym c.requires.fresh.made.engine.notes.same ∙ c.in_err-tell_line.ensures.wants)

pub returns-clause-made : goal.returns-clause-made
returns-clause-made g c = record {
  engine = record {
    valid = c.requires.fresh.made.engine.valid;
    fits = c.requires.fresh.made.engine.fits;
    objects = c.begin_step.ensures.made;
    rules = c.begin_step-2.ensures.made c.args.setup.now.basin.now c.args.setup.now.policy.now c.requires.fresh.made.engine.rules;
    series = c.requires.fresh.made.engine.series;
    closed_steps = c.requires.fresh.made.engine.closed_steps;
    notes =
        alike_told c.args.self.now.noted c.args.self.now.lines c.tell_line.new.lines c.args.self.now.run.trace c.tell_line.new.trace
        c.tell_line.ensures.adds c.tell_line.ensures.grows
        c.requires.fresh.made.engine.notes;
  };
  keeps = c.requires.fresh.made.keeps;
  counts = c.clear.ensures.many ∙ c.requires.fresh.made.counts;
  firings = c.clear-2.ensures.many ∙ c.requires.fresh.made.firings ∙ c.requires.fresh.made.engine.rules.many
      ∙ sym (c.begin_step-2.ensures.made c.args.setup.now.basin.now c.args.setup.now.policy.now c.requires.fresh.made.engine.rules).many;
}

pub returns-in_err-tell_line-clause-made : goal.returns-in_err-tell_line-clause-made
returns-in_err-tell_line-clause-made g c =
    let made = c.requires.fresh.made in record {
      engine = record {
        valid = made.engine.valid;
        fits = made.engine.fits;
        objects = made.engine.objects;
        rules = made.engine.rules;
        series = made.engine.series;
        closed_steps = made.engine.closed_steps;
        notes =
            alike_told c.args.self.now.noted c.args.self.now.lines c.tell_line.new.lines c.args.self.now.run.trace c.tell_line.new.trace
            c.tell_line.ensures.adds c.tell_line.ensures.grows
            made.engine.notes;
      };
      keeps = made.keeps;
      counts = made.counts;
      firings = made.firings;
    }

pub returns-clause-opened : goal.returns-clause-opened
returns-clause-opened g c = record {
  within = record {
    made = returns-clause-made g c;
    ready = subst (AreReady c.args.setup.now.basin.now) (sym c.begin_step.ensures.all) (all_waiting-ready c.args.setup.now.basin.now);
    indexed = c.begin_step-2.ensures.indexed _;
  };
  lines_are = c.in_ok-tell_line.ensures.noted;
  holds =
      λ log shows before. opens_step c.args.setup.now.basin.now c.args.setup.now.policy.now c.args.self.now _ c.args.step.0 log shows refl
      c.begin_step.ensures.all
      c.clear.ensures.zero c.clear-2.ensures.zero (c.begin_step-2.ensures.fresh c.args.setup.now.policy.now log c.args.step.0)
      c.in_ok-tell_line.ensures.said refl
      (shows.end ∙ settled_at_rest log before.last before.rest);
}
