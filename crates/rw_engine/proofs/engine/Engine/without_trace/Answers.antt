use Rattle.rw_engine.proofs.Traces.{none_kept}
use Rattle.rw_engine.proofs.engine.Engine.without_trace.Goals as goal

pub for_run-requires-clause-notes : goal.for_run-requires-clause-notes
for_run-requires-clause-notes c kept = absurd (none_kept c.unkept-trace.result c.unkept-trace.ensures kept)

pub returns : goal.returns
returns c = record {
  begun = record {
    made = c.in_ok-for_run.ensures.begun.made.engine;
    shows = c.in_ok-for_run.ensures.begun.shows;
    turns = c.in_ok-for_run.ensures.begun.turns;
  };
}
