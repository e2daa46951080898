use Rattle.std.proofs.Common.{refl, arith}
use Rattle.rw_run.specs.Worked.{across_run}
use Rattle.rw_laws.proofs.law.a_link.Goals as goal

pub returns-clause-run : goal.returns-clause-run
returns-clause-run c = record { events = across_run; leads = (refl, (refl, (refl, (refl, (refl, (refl, refl)))))); end = omega arith }
