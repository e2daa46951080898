use Rattle.rw_dispatch.proofs.Common.{length, take, ◌≡◌, ◌≤◌}
use Rattle.rw_run.specs.Dispatch.{asked_for}
use Rattle.rw_dispatch.proofs.turn.ask_all.Given as goal

abbrev pub invariant-loop-put : goal.invariant-loop-put
invariant-loop-put l = record {
  few : length l.kept ≤ l.put-index;
  kept : l.kept ≡ asked_for l.basin l.object.0 l.step.0 (take l.put-index l.puts);
}
