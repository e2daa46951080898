use Rattle.rw_base.proofs.Common.{option_map, rules, ◌∙◌, ◌≡◌}
use Rattle.rw_base.specs.declared.number.RuleNo.{RuleNo}
use Rattle.rw_series.specs.Series.{held}
use Rattle.rw_agenda.specs.Agenda.{first_due_in}
use Rattle.rw_rules.proofs.Due.{due_listed, same_due}
use Rattle.rw_rules.proofs.rules.Rules.due.Goals as goal

by_agenda : (c : goal.After-next) → option_map (λ (rule : RuleNo). rule.0) c.next.result
    ≡ first_due_in c.args.self.now.agenda (held c.args.series.now)
by_agenda c = search rules

pub returns-clause-known : goal.returns-clause-known
returns-clause-known c = due_listed c.args.self.now.agenda (held c.args.series.now) c.next.result (by_agenda c)

pub returns-clause-due : goal.returns-clause-due
returns-clause-due c = λ basin policy log made shows.
    by_agenda c ∙ same_due basin policy c.args.self.now (held c.args.series.now) log made shows
