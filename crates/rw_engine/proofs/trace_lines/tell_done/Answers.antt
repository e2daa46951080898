use Rattle.rw_engine.proofs.Common.{refl}
use Rattle.rw_engine.proofs.Traces.{told_on}
use Rattle.rw_engine.proofs.Steps.{grows_more}
use Rattle.rw_engine.proofs.trace_lines.tell_done.Goals as goal

pub returns-in_err-tell_writes-clause-grows : goal.returns-in_err-tell_writes-clause-grows
returns-in_err-tell_writes-clause-grows c =
    grows_more c.args.trace.now c.push.new.self c.tell_writes.new.trace (_, c.in_ok-push.ensures.pushed) c.tell_writes.ensures.grows

pub returns-clause-told : goal.returns-clause-told
returns-clause-told c = (
  told_on c.args.trace.now c.push.new.self c.tell_writes.new.trace _ _ _ c.in_ok-tell_writes.ensures.told c.in_ok-push.ensures.pushed refl,
  refl,
)

pub returns-clause-grows : goal.returns-clause-grows
returns-clause-grows c =
    grows_more c.args.trace.now c.push.new.self c.tell_writes.new.trace (_, c.in_ok-push.ensures.pushed) c.tell_writes.ensures.grows
