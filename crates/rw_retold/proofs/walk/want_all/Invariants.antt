use Rattle.rw_base.proofs.Common.{◌≡◌, map, take}
use Rattle.rw_run.specs.Next.{asked_by_rule}
use Rattle.rw_retold.proofs.walk.want_all.Given as goal

abbrev pub invariant-loop-put : goal.invariant-loop-put
invariant-loop-put l = l.wanted.items ≡ map (asked_by_rule l.rule.0 l.step.0) (take l.put-index l.puts)
