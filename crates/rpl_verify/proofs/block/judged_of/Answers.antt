use Rattle.std.proofs.Common.{Ok, length, sym, ap, ◌∙◌}
use Rattle.rpl_verify.specs.Fits.{at_place}
use Rattle.rpl_verify.specs.Budget.{within_limits}
use Rattle.rpl_verify.proofs.block.judged_of.Goals as goal

pub returns-in-Some-clause-budget : goal.returns-in-Some-clause-budget
returns-in-Some-clause-budget c =
    let long = length c.args.lines.now in
    ap (λ b. at_place long (within_limits b) (λ b. Ok b)) (sym c.in_ok-budget.ensures) ∙ ap (λ r. at_place long r (λ b. Ok b)) c.in-Some.ensures

pub returns-in_ok-joined-in-None-clause-budget : goal.returns-in_ok-joined-in-None-clause-budget
returns-in_ok-joined-in-None-clause-budget c =
    let long = length c.args.lines.now in
    ap (λ b. at_place long (within_limits b) (λ b. Ok b)) (sym c.in_ok-budget.ensures) ∙ ap (λ r. at_place long r (λ b. Ok b)) c.in-None.ensures
