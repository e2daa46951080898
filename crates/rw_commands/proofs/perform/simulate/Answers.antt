use Rattle.rw_commands.proofs.Common.{change, files_seen}
use Rattle.rw_commands.proofs.OneSection.{simulated, simulated_not}
use Rattle.rw_commands.proofs.perform.simulate.Goals as goal

pub returns-in-Ok : goal.returns-in-Ok
returns-in-Ok g c =
    simulated c.args.extras (files_seen c.args.files.now) c.in-Some.inputs
    (change (g.K.Sink.seen c.args.out.now) (g.K.Sink.seen c.write_without_rules.new.out)) c.in-Ok.end c.status_of_run.result
    c.in-Some.is c.status_of_run.ensures c.in-Ok.ensures

pub returns : goal.returns
returns g c =
    simulated_not c.args.extras (files_seen c.args.files.now) c.in-Some.inputs
    (change (g.K.Sink.seen c.args.out.now) (g.K.Sink.seen c.write_without_rules.new.out)) c.in-Err.refusal
    c.in-Some.is c.in-Err.ensures
