use Rattle.rw_base.proofs.Common.{none-some, sym, ◌∙◌}
use Rattle.rw_rules.proofs.Made.{fresh}
use Rattle.rw_rules.proofs.rules.Rules.begin_step.Goals as goal

pub returns-clause-fresh : goal.returns-clause-fresh
returns-clause-fresh c = λ policy log step rule first last. fresh c.begin_step.new.self c.self.inside.agenda.rules rule c.begin_step.ensures.rules

pub returns-clause-indexed : goal.returns-clause-indexed
returns-clause-indexed c =
    λ cells rule looks unmarked saw. absurd (none-some looks
    (sym (fresh c.begin_step.new.self c.self.inside.agenda.rules rule c.begin_step.ensures.rules) ∙ saw))
