use Rattle.rw_dispatch.proofs.Common.{length, take, ◌≡◌, ◌≤◌}
use Rattle.rw_run.proofs.Common.{Cells, view_of}
use Rattle.rw_dispatch.specs.Putting.{puts_made}
use Rattle.rw_dispatch.proofs.judged.puts_made.Given as goal

abbrev pub invariant-loop-put : goal.invariant-loop-put
invariant-loop-put l = record {
  few : length l.made ≤ l.put-index;
  made : (cells : Cells) → l.view ≡ view_of l.basin cells l.object.0 l.step.0
      → l.made ≡ puts_made l.basin cells l.object.0 l.step.0 (take l.put-index l.asked);
}
