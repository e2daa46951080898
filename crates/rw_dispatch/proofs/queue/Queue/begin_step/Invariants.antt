use Rattle.rw_base.proofs.Common.{◌≡◌, ℕ, not, length, filter}
use Rattle.rw_model.specs.Turn.{is_data}
use Rattle.rw_run.specs.Waiting.{numbers}
use Rattle.rw_dispatch.proofs.queue.Queue.begin_step.Given as goal

abbrev pub invariant-loop : goal.invariant-loop
invariant-loop l = l.self.objects ≡ l.fn.self.objects

abbrev pub decreases-loop : goal.decreases-loop
decreases-loop l = length l.self.waiting

abbrev pub invariant-loop-place : goal.invariant-loop-place
invariant-loop-place l = (l.self.objects ≡ l.fn.self.objects) × (l.self.waiting ≡ filter (λ (a : ℕ). not (is_data l.basin a)) (numbers l.place))
