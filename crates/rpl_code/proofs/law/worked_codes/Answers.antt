use Rattle.rw_base.proofs.Common.{refl}
use Rattle.std.specs.Fmt.{digits}
use Rattle.rpl_code.proofs.law.worked_codes.Goals as goal

pub returns-clause-capped : goal.returns-clause-capped
unfolding digits
returns-clause-capped c = refl

pub returns-clause-capped_is_read : goal.returns-clause-capped_is_read
unfolding digits
returns-clause-capped_is_read c = refl

pub returns-clause-mixed : goal.returns-clause-mixed
unfolding digits
returns-clause-mixed c = refl

pub returns-clause-mixed_is_read : goal.returns-clause-mixed_is_read
unfolding digits
returns-clause-mixed_is_read c = refl

pub returns-clause-none : goal.returns-clause-none
unfolding digits
returns-clause-none c = refl

pub returns-clause-none_is_read : goal.returns-clause-none_is_read
unfolding digits
returns-clause-none_is_read c = refl

pub returns-clause-one : goal.returns-clause-one
unfolding digits
returns-clause-one c = refl

pub returns-clause-seven_kept : goal.returns-clause-seven_kept
unfolding digits
returns-clause-seven_kept c = refl

pub returns-clause-seven_kept_is_read : goal.returns-clause-seven_kept_is_read
unfolding digits
returns-clause-seven_kept_is_read c = refl

pub returns-clause-two_puts : goal.returns-clause-two_puts
unfolding digits
returns-clause-two_puts c = refl

pub returns-clause-two_puts_is_read : goal.returns-clause-two_puts_is_read
unfolding digits
returns-clause-two_puts_is_read c = refl
