use Rattle.rw_commands.proofs.Common.{MatchResult, change, files_seen, subst, sym}
use Rattle.rw_commands.specs.Written.{Appends, Stops}
use Rattle.rw_commands.proofs.perform.write_of.Goals as goal

pub returns-in-Mrm-clause-text : goal.returns-in-Mrm-clause-text
returns-in-Mrm-clause-text g c =
    subst (λ job. MatchResult c.many.result
    (Appends job c.args.extras (files_seen c.args.files.now) (change (g.K.Sink.seen c.args.out.now) (g.K.Sink.seen c.many.new.out)))
    (Stops job c.args.extras (files_seen c.args.files.now) (change (g.K.Sink.seen c.args.out.now) (g.K.Sink.seen c.many.new.out)))) (sym c.in-Mrm.is)
    (c.many.ensures c.args.extras)
