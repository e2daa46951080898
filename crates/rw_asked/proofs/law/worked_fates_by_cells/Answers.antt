use Rattle.rw_base.proofs.Common.{arith, ints, none-some, pos, refl, ◌≡◌}
use Rattle.rw_model.specs.declared.put.PutEnd.TheVariants as End
use Rattle.rw_asked.specs.Worked.{by_rule_of, given_value}
use Rattle.rw_asked.proofs.law.worked_fates_by_cells.Goals as goal

pub returns-clause-written_over : goal.returns-clause-written_over
returns-clause-written_over c = λ is.
    let same : pos 5 ≡ pos 7 = is.0 in
    omega (arith, ints, same)

pub returns-clause-written_same : goal.returns-clause-written_same
returns-clause-written_same c = λ is.
    let end : End.Kept ≡ End.Written = is.1 in cc

pub returns-clause-over_nothing : goal.returns-clause-over_nothing
returns-clause-over_nothing c = λ is. none-some _ is.0

pub returns-clause-over_same : goal.returns-clause-over_same
returns-clause-over_same c = λ is. is.1 refl

pub returns-clause-over_given : goal.returns-clause-over_given
returns-clause-over_given c = λ is.
    let end : End.Denied (given_value (pos 5)) ≡ End.Written = is.2 in cc

pub returns-clause-kept_other : goal.returns-clause-kept_other
returns-clause-kept_other c = λ is.
    let end : End.Written ≡ End.Kept = is.1 in cc

pub returns-clause-denied_nothing : goal.returns-clause-denied_nothing
returns-clause-denied_nothing c = λ is. none-some _ is.0

pub returns-clause-denied_lower : goal.returns-clause-denied_lower
returns-clause-denied_lower c = λ is.
    let end : End.Written ≡ End.Denied (by_rule_of 1 (pos 5)) = is.1 in cc
