use Rattle.rw_engine.proofs.Common.{TraceGrows, line_of, map, take, ◌≡◌}
use Rattle.rw_run.specs.Trace.{told}
use Rattle.rw_engine.proofs.trace_lines.tell_writes.Given as goal

abbrev pub invariant-loop-write : goal.invariant-loop-write
invariant-loop-write l = record {
  told : l.trace ≡ told l.fn.trace (map line_of (take l.write-index l.writes));
  grows : TraceGrows l.fn.trace l.trace;
}
