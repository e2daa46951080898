use Rattle.rw_base.proofs.Common.{refl}
use Rattle.std.specs.Fmt.{digits}
use Rattle.rpl_code.proofs.law.worked_refusals.Goals as goal

pub returns-clause-zeros : goal.returns-clause-zeros
unfolding digits
returns-clause-zeros c = refl

pub returns-clause-minus_zero : goal.returns-clause-minus_zero
unfolding digits
returns-clause-minus_zero c = refl

pub returns-clause-great : goal.returns-clause-great
unfolding digits
returns-clause-great c = refl

pub returns-clause-number : goal.returns-clause-number
unfolding digits
returns-clause-number c = refl

pub returns-clause-long : goal.returns-clause-long
unfolding digits
returns-clause-long c = refl

pub returns-clause-short : goal.returns-clause-short
unfolding digits
returns-clause-short c = refl

pub returns-clause-ahead : goal.returns-clause-ahead
unfolding digits
returns-clause-ahead c = refl

pub returns-clause-name : goal.returns-clause-name
unfolding digits
returns-clause-name c = refl

pub returns-clause-point : goal.returns-clause-point
unfolding digits
returns-clause-point c = refl

pub returns-clause-kind : goal.returns-clause-kind
unfolding digits
returns-clause-kind c = refl

pub returns-clause-blank : goal.returns-clause-blank
unfolding digits
returns-clause-blank c = refl

pub returns-clause-empty : goal.returns-clause-empty
unfolding digits
returns-clause-empty c = refl

pub returns-clause-word : goal.returns-clause-word
unfolding digits
returns-clause-word c = refl

pub returns-clause-carriage_return : goal.returns-clause-carriage_return
unfolding digits
returns-clause-carriage_return c = refl

pub returns-clause-two_blanks : goal.returns-clause-two_blanks
unfolding digits
returns-clause-two_blanks c = refl

pub returns-clause-plus : goal.returns-clause-plus
unfolding digits
returns-clause-plus c = refl
