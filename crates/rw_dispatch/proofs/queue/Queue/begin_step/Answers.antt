use Rattle.std.proofs.Common.{rules, ap, not, ℕ, []}
use Rattle.rw_model.specs.Turn.{is_data}
use Rattle.rw_dispatch.proofs.Queues.{more_passed, later-free}
use Rattle.rw_dispatch.proofs.queue.Queue.begin_step.Goals as goal

pub append_if-requires-clause-free : goal.append_if-requires-clause-free
append_if-requires-clause-free c = λ _. later-free (λ (a : ℕ). not (is_data c.args.basin.now a)) c.loop-place.place _ c.loop-place.invariant.1

pub loop-place-preserved : goal.loop-place-preserved
loop-place-preserved c = (
  search rules,
  more_passed (λ (a : ℕ). not (is_data c.args.basin.now a)) c.loop-place.place [] _ _ _ c.loop-place.invariant.1
      (ap not c.is_data-data.ensures) c.append_if.ensures.appended,
)
