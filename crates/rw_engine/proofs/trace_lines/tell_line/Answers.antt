use Rattle.rw_engine.proofs.trace_lines.tell_line.Goals as goal
use Rattle.rw_engine.proofs.Common.{[], sym, ◌∙◌}
use Rattle.rw_engine.proofs.Traces.{grows_told, tells_wanted, told_both, told_none}

pub returns-in_err-push : goal.returns-in_err-push
returns-in_err-push c =
    tells_wanted _ c.args.trace.now c.args.lines.now c.args.trace.now c.push.new.self c.from_residual.result _ c.from_residual.ensures.1
    ([], sym (told_none c.args.trace.now)) ([], c.in_err-push.ensures.unchanged ∙ sym (told_none c.args.lines.now)) c.in_err-push.ensures.wants

pub returns : goal.returns
returns c =
    told_both _ c.args.trace.now c.args.lines.now c.push-2.new.self c.push.new.self c.push-2.result c.push-2.ensures.pushed
    c.in_ok-push.ensures.pushed
    (grows_told c.push-2.result c.args.trace.now c.push-2.new.self _ c.push-2.ensures.pushed c.push-2.ensures.unchanged) c.requires
    c.push-2.ensures.wants
