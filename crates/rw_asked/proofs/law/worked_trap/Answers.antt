use Rattle.std.proofs.Common.{refl, arith}
use Rattle.rw_asked.specs.Worked.{confirmed_run}
use Rattle.rw_asked.proofs.law.worked_trap.Goals as goal

pub returns-clause-run : goal.returns-clause-run
returns-clause-run c = record {
  events = confirmed_run;
  leads = (refl, (refl, (refl, (refl, (refl, (refl, (refl, (refl, (refl, (refl, (refl, (refl, (refl, (refl, (refl, (refl, refl))))))))))))))));
  end = omega arith;
}

pub returns-clause-told : goal.returns-clause-told
returns-clause-told c = refl
