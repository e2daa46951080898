use Rattle.rw_base.proofs.Common.{refl}
use Rattle.rw_rerun.proofs.law.worked_beginning.Goals as goal

pub returns-clause-first : goal.returns-clause-first
returns-clause-first c = (
  record {
    last = 0;
    rest = refl;
    next_one = refl;
    goes = (refl, (refl, (refl, (refl, refl))));
    leads = (refl, (refl, (refl, (refl, (refl, refl)))));
  },
  (
    record {
      last = 1;
      rest = refl;
      next_one = refl;
      goes = (refl, (refl, (refl, (refl, refl))));
      leads = (refl, (refl, (refl, (refl, (refl, refl)))));
    },
    tt,
  ),
)

pub returns-clause-again : goal.returns-clause-again
returns-clause-again c = (
  record {
    last = 0;
    rest = refl;
    next_one = refl;
    goes = (refl, (refl, (refl, (refl, refl))));
    leads = (refl, (refl, (refl, (refl, (refl, refl)))));
  },
  (
    record {
      last = 1;
      rest = refl;
      next_one = refl;
      goes = (refl, (refl, (refl, (refl, refl))));
      leads = (refl, (refl, (refl, (refl, (refl, refl)))));
    },
    tt,
  ),
)

pub returns-clause-whole : goal.returns-clause-whole
returns-clause-whole c = refl

pub returns-clause-held : goal.returns-clause-held
returns-clause-held c = refl
