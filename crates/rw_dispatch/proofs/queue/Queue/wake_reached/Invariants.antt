use Rattle.rw_dispatch.proofs.Common.{List, ObjectNo, filter, option_map, ℕ, ◌++◌, ◌≡◌}
use Rattle.rw_run.specs.Waiting.{is_owner, is_woken, numbers}
use Rattle.rw_dispatch.specs.Owners.{HasReached}
use Rattle.rw_dispatch.proofs.queue.Queue.wake_reached.Given as goal

abbrev pub invariant-loop-place : goal.invariant-loop-place
invariant-loop-place l = record {
  objects : l.self.objects ≡ l.fn.self.objects;
  waiting : (slots : List ℕ) → HasReached (option_map (λ (object : ObjectNo). object.0) l.but) (is_owner l.basin slots) l.reached
      → l.self.waiting ≡ l.fn.self.waiting ++ filter (is_woken l.basin (option_map (λ (object : ObjectNo). object.0) l.but) l.fn.self.waiting slots)
      (numbers l.place);
}
