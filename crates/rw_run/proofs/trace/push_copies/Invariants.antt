use Rattle.rw_base.proofs.Common.{List, map, take, ◌++◌, ◌≡◌}
use Rattle.rw_run.specs.declared.line.Line.{Line}
use Rattle.rw_run.specs.Line.{line_event}
use Rattle.rw_run.proofs.trace.push_copies.Given as goal

-- what was there, and copies of the lines so far
abbrev pub invariant-loop-line : goal.invariant-loop-line
invariant-loop-line l =
    (added : List Line) × ((l.lines.items ≡ l.fn.lines.items ++ added) × (map line_event added ≡ map line_event (take l.line-index l.more)))
