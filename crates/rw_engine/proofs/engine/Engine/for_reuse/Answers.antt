use Rattle.rw_engine.proofs.Common.{ap, ◌∙◌}
use Rattle.std.specs.Prelude.{is_some}
use Rattle.rw_engine.proofs.Traces.{fresh_where, kept_where}
use Rattle.rw_engine.proofs.engine.Engine.for_reuse.Goals as goal

pub for_run-requires-clause-fresh : goal.for_run-requires-clause-fresh
for_run-requires-clause-fresh c = fresh_where c.trace_where-trace.result c.args.traced c.trace_where-trace.ensures

pub for_run-requires-clause-notes : goal.for_run-requires-clause-notes
for_run-requires-clause-notes c kept = ap is_some c.in_ok-noted.ensures

pub returns-clause-noted : goal.returns-clause-noted
returns-clause-noted c = ap is_some (c.in_ok-for_run.ensures.noted ∙ c.in_ok-noted.ensures)

pub returns-clause-kept : goal.returns-clause-kept
returns-clause-kept c = ap is_some c.in_ok-for_run.ensures.trace ∙ kept_where c.trace_where-trace.result c.args.traced c.trace_where-trace.ensures

pub returns-clause-begun : goal.returns-clause-begun
returns-clause-begun c = record {
  made = c.in_ok-for_run.ensures.begun.made.engine;
  shows = c.in_ok-for_run.ensures.begun.shows;
  turns = c.in_ok-for_run.ensures.begun.turns;
}
