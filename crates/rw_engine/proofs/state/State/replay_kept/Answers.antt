use Rattle.rw_engine.proofs.Common.{Settled, State, ap, held, last_put, option_or, refl, seen, subst, sym, ◌∙◌, ◌≡◌}
use Rattle.std.specs.Prelude.{Err, Ok, is_some}
use Rattle.rw_base.specs.declared.memory.NoMemory.{NoMemory}
use Rattle.rw_record.specs.Noted.{cells_noted}
use Rattle.rw_run.specs.Trace.{lines_in, told}
use Rattle.rw_engine.specs.Records.{CanWriteLines, IsUntold, puts_in}
use Rattle.rw_engine.specs.State.{HasReplayed}
use Rattle.rw_engine.proofs.Again.{kept_fails, kept_passes, kept_wants, noting, noting_some, replays, telling, telling_some}
use Rattle.rw_engine.proofs.Notings.{cleared_some}
use Rattle.rw_engine.proofs.Traces.{emptied, kept_told, short_some}
use Rattle.rw_engine.proofs.state.State.replay_kept.Goals as goal

pub write_again-requires-clause-can : goal.write_again-requires-clause-can
write_again-requires-clause-can c = subst (CanWriteLines c.args.basin.now) (sym (ap lines_in c.lines-2.ensures)) c.requires.can

module _ (c : goal.After-self-2-1) where
  abbrev new : State
  new = record c.args.self.now {
    noted = c.begin_step.new.self;
    lines = c.truncate.new.self;
    run = record c.args.self.now.run {
      trace = c.append.new.self;
      series = c.write_again.new.series;
      closed = c.step.result.0;
      end = Settled;
    };
  }

  notes : is_some c.begin_step.new.self ≡ is_some c.args.self.now.noted
  notes = ap is_some c.begin_step.ensures ∙ cleared_some c.args.self.now.noted

  keeps_lines : is_some c.truncate.new.self ≡ is_some c.args.self.now.lines
  keeps_lines = ap is_some c.truncate.ensures ∙ short_some c.args.self.now.lines 0

  keeps_trace : is_some c.append.new.self ≡ is_some c.args.self.now.run.trace
  keeps_trace =
      kept_told c.append.result c.args.self.now.run.trace c.append.new.self (lines_in c.lines.result.now) c.append.ensures.appended
      c.append.ensures.unchanged

  untold : IsUntold (seen new)
  untold = rw c.truncate.ensures (emptied c.args.self.now.lines)

  has : HasReplayed c.args.basin.now c.args.kept.now c.args.self.now (noting c.args.kept.now c.args.self.now new) (Ok tt)
  has = record {
    rules = refl;
    queue = refl;
    work = refl;
    counts = refl;
    firings = refl;
    made = c.write_again.ensures.made;
    notes = noting_some (held c.args.self.now.run.series) (cells_noted c.args.kept.now.looked) c.args.self.now.noted;
    keeps_lines = telling_some c.args.kept.now.lines c.args.self.now.lines;
    keeps_trace = keeps_trace;
    unchanged = tt;
    untold = tt;
    noted = refl;
    lines_are = telling c.args.kept.now.lines c.args.self.now.lines;
    trace = c.in_ok-append.ensures.appended ∙ ap (λ lines. told c.args.self.now.run.trace (lines_in lines)) c.lines.ensures;
    ends = (refl, c.step.ensures);
    cells = λ cell. c.write_again.ensures.cells cell
        ∙ ap (λ lines. option_or (last_put c.args.basin.now (puts_in (lines_in lines)) cell) (held c.args.self.now.run.series cell))
        c.lines-2.ensures;
  }

pub returns-clause-replays : goal.returns-clause-replays
returns-clause-replays c =
    let old = c.args.self.now in
    kept_passes c.args.basin.now c.args.kept.now old (new c) tt
    (replays c.args.basin.now c.args.kept.now old (noting c.args.kept.now old (new c)) (Ok tt) c.again.ensures c.requires.step c.requires.made
    (has c))
    (notes c) (keeps_lines c) (keeps_trace c) (untold c)

pub returns-clause-sound : goal.returns-clause-sound
returns-clause-sound c = λ sound. record { counts = sound.counts; firings = sound.firings; keeps = sound.keeps ∙ sym (notes c) }

module _ (c : goal.After-from_residual) where
  abbrev left : State
  left = record c.args.self.now {
    noted = c.begin_step.new.self;
    lines = c.truncate.new.self;
    run = record c.args.self.now.run { trace = c.append.new.self };
  }

  has_failed : (want : NoMemory) → HasReplayed c.args.basin.now c.args.kept.now c.args.self.now left (Err want)
  has_failed want = record {
    rules = refl;
    queue = refl;
    work = refl;
    counts = refl;
    firings = refl;
    made = c.requires.made.series;
    notes = ap is_some c.begin_step.ensures ∙ cleared_some c.args.self.now.noted;
    keeps_lines = ap is_some c.truncate.ensures ∙ short_some c.args.self.now.lines 0;
    keeps_trace = ap is_some c.in_err-append.ensures.unchanged;
    unchanged = ap (λ trace. record c.args.self.now.run { trace = trace }) c.in_err-append.ensures.unchanged;
    untold = rw c.truncate.ensures (emptied c.args.self.now.lines);
    noted = tt;
    lines_are = tt;
    trace = tt;
    ends = tt;
    cells = tt;
  }

pub returns-in_err-append-clause-replays : goal.returns-in_err-append-clause-replays
returns-in_err-append-clause-replays c =
    let old = c.args.self.now in
    kept_wants c.args.basin.now c.args.kept.now old (left c) c.from_residual.result _ c.from_residual.ensures.1
    (λ want. kept_fails c.args.basin.now c.args.kept.now old (left c) want
    (replays c.args.basin.now c.args.kept.now old (left c) (Err want) c.again.ensures c.requires.step c.requires.made (has_failed c want)))

pub returns-in_err-append-clause-sound : goal.returns-in_err-append-clause-sound
returns-in_err-append-clause-sound c = λ sound.
    record { counts = sound.counts; firings = sound.firings; keeps = sound.keeps ∙ sym (ap is_some c.begin_step.ensures ∙ cleared_some c.args.self.now.noted) }
