use Rattle.rw_commands.proofs.Common.{IfOk, files_seen, subst, sym}
use Rattle.rw_commands.specs.Written.{IsOne}
use Rattle.rw_commands.proofs.perform.text_of_job.Goals as goal

pub returns-in-Check : goal.returns-in-Check
returns-in-Check g c =
    subst (λ job. IfOk c.check.result (λ pair. IsOne job c.args.extras (files_seen c.args.files.now) pair.1 pair.0.items)) (sym c.in-Check.is)
    (c.check.ensures c.args.extras)

pub returns-in-Compile : goal.returns-in-Compile
returns-in-Compile g c =
    subst (λ job. IfOk c.compile.result (λ pair. IsOne job c.args.extras (files_seen c.args.files.now) pair.1 pair.0.items)) (sym c.in-Compile.is)
    (c.compile.ensures c.args.extras)

pub returns-in-Why : goal.returns-in-Why
returns-in-Why g c =
    subst (λ job. IfOk c.tell_why.result (λ pair. IsOne job c.args.extras (files_seen c.args.files.now) pair.1 pair.0.items)) (sym c.in-Why.is)
    (c.tell_why.ensures c.args.extras)

pub returns-in-Balance : goal.returns-in-Balance
returns-in-Balance g c =
    subst (λ job. IfOk c.balance.result (λ pair. IsOne job c.args.extras (files_seen c.args.files.now) pair.1 pair.0.items)) (sym c.in-Balance.is)
    (c.balance.ensures c.args.extras)

pub returns-in-Migrate : goal.returns-in-Migrate
returns-in-Migrate g c =
    subst (λ job. IfOk c.migrate.result (λ pair. IsOne job c.args.extras (files_seen c.args.files.now) pair.1 pair.0.items)) (sym c.in-Migrate.is)
    (c.migrate.ensures c.args.extras)

pub returns-in-Sample : goal.returns-in-Sample
returns-in-Sample g c =
    subst (λ job. IfOk c.sample.result (λ pair. IsOne job c.args.extras (files_seen c.args.files.now) pair.1 pair.0.items)) (sym c.in-Sample.is)
    (c.sample.ensures c.args.extras)
