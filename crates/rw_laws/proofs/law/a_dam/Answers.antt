use Rattle.std.proofs.Common.{◌++◌, ◌∷◌, [], refl, arith}
use Rattle.rw_run.specs.Log.{closed}
use Rattle.rw_laws.specs.Worked.{dam_events}
use Rattle.rw_laws.proofs.law.a_dam.Goals as goal

pub returns-clause-run : goal.returns-clause-run
returns-clause-run c =
    record { events = dam_events ++ closed 1 ∷ []; leads = (refl, (refl, (refl, (refl, (refl, (refl, (refl, (refl, refl)))))))); end = omega arith }
