use Rattle.rw_calendar.specs.declared.limits.TheConstants.{STEPS_MAX}
use Rattle.rw_base.proofs.Common.{length, take, ◌≡◌, ◌≤◌}
use Rattle.rw_run.specs.Next.{asked_of_rule}
use Rattle.rw_writes.proofs.asked.ask_all.Given as goal

abbrev pub invariant-loop-put : goal.invariant-loop-put
invariant-loop-put l = record {
  end : l.last ≡ l.basin.control.stamps.count;
  most : l.last ≤ STEPS_MAX;
  room : l.asked.cap ≡ l.fn.asked.cap;
  few : length l.asked.items ≤ l.put-index;
  asked : l.asked.items ≡ asked_of_rule l.basin l.rule.0 l.step.0 (take l.put-index l.puts);
}
