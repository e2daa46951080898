use Rattle.std.proofs.Common.{refl, arith}
use Rattle.rw_run.specs.Worked.{ahead_run, counted_run, divided_run, followed_run, given_run, outranked_run, put_twice_run, raised_run}
use Rattle.rw_run.proofs.law.worked_runs.Goals as goal

pub returns-clause-raised : goal.returns-clause-raised
returns-clause-raised c = record { events = raised_run; leads = (refl, (refl, (refl, (refl, (refl, (refl, refl)))))); end = omega arith }

pub returns-clause-counted : goal.returns-clause-counted
returns-clause-counted c =
    record {
      events = counted_run;
      leads = (
        refl,
        (
          refl,
          (
            refl,
            (
              refl,
              (
                refl,
                (
                  refl,
                  (
                    refl,
                    (
                      refl,
                      (
                        refl,
                        (
                          refl,
                          (
                            refl,
                            (
                              refl,
                              (
                                refl,
                                (refl, (refl, (refl, (refl, (refl, (refl, (refl, (refl, (refl, (refl, refl)))))))))),
                              ),
                            ),
                          ),
                        ),
                      ),
                    ),
                  ),
                ),
              ),
            ),
          ),
        ),
      );
      end = tt;
    }

pub returns-clause-followed : goal.returns-clause-followed
returns-clause-followed c = record { events = followed_run; leads = (refl, (refl, (refl, (refl, (refl, refl))))); end = omega arith }

pub returns-clause-outranked : goal.returns-clause-outranked
returns-clause-outranked c = record { events = outranked_run; leads = (refl, (refl, (refl, (refl, refl)))); end = omega arith }

pub returns-clause-divided : goal.returns-clause-divided
returns-clause-divided c = record { events = divided_run; leads = (refl, (refl, (refl, (refl, (refl, (refl, refl)))))); end = omega arith }

pub returns-clause-ahead : goal.returns-clause-ahead
returns-clause-ahead c =
    record { events = ahead_run; leads = (refl, (refl, (refl, (refl, (refl, (refl, (refl, (refl, (refl, refl))))))))); end = omega arith }

pub returns-clause-put_twice : goal.returns-clause-put_twice
returns-clause-put_twice c = record { events = put_twice_run; leads = (refl, (refl, (refl, refl))); end = omega arith }

pub returns-clause-given : goal.returns-clause-given
returns-clause-given c = record { events = given_run; leads = (refl, (refl, (refl, refl))); end = omega arith }
