use Rattle.rw_base.proofs.Common.{refl}
use Rattle.std.specs.Fmt.{digits}
use Rattle.rpl_code.proofs.law.worked_places.Goals as goal

pub returns-clause-heading : goal.returns-clause-heading
unfolding digits
returns-clause-heading c = refl

pub returns-clause-one_line : goal.returns-clause-one_line
unfolding digits
returns-clause-one_line c = refl

pub returns-clause-locals : goal.returns-clause-locals
unfolding digits
returns-clause-locals c = refl

pub returns-clause-behind : goal.returns-clause-behind
unfolding digits
returns-clause-behind c = refl

pub returns-clause-first : goal.returns-clause-first
unfolding digits
returns-clause-first c = refl

pub returns-clause-early : goal.returns-clause-early
unfolding digits
returns-clause-early c = refl

pub returns-clause-feed : goal.returns-clause-feed
unfolding digits
returns-clause-feed c = refl

pub returns-clause-bad_before : goal.returns-clause-bad_before
unfolding digits
returns-clause-bad_before c = refl

pub returns-clause-heading_alone : goal.returns-clause-heading_alone
unfolding digits
returns-clause-heading_alone c = refl

pub returns-clause-nothing : goal.returns-clause-nothing
unfolding digits
returns-clause-nothing c = refl

pub returns-clause-earlier : goal.returns-clause-earlier
unfolding digits
returns-clause-earlier c = refl

pub returns-clause-heading_return : goal.returns-clause-heading_return
unfolding digits
returns-clause-heading_return c = refl

pub returns-clause-second_heading : goal.returns-clause-second_heading
unfolding digits
returns-clause-second_heading c = refl
