use Rattle.std.proofs.Common.{refl, arith}
use Rattle.rw_run.specs.Worked.{across_run, both_ends_run}
use Rattle.rw_run.proofs.law.linked_runs.Goals as goal

pub returns-clause-across : goal.returns-clause-across
returns-clause-across c = record { events = across_run; leads = (refl, (refl, (refl, (refl, (refl, (refl, refl)))))); end = omega arith }

pub returns-clause-both : goal.returns-clause-both
returns-clause-both c = record { events = both_ends_run; leads = (refl, (refl, (refl, refl))); end = omega arith }

pub returns-clause-reached : goal.returns-clause-reached
returns-clause-reached c = refl
