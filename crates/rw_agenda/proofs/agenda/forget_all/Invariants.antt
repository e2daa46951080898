use Rattle.rw_base.proofs.Common.{drop, map, take, ◌++◌, ◌≡◌}
use Rattle.rw_agenda.specs.Agenda.{forgotten}
use Rattle.rw_agenda.proofs.agenda.forget_all.Given as goal

abbrev pub invariant-loop-rule : goal.invariant-loop-rule
invariant-loop-rule l =
    l.rule-items ≡ map forgotten (take l.rule-index l.fn.rules.items) ++ drop l.rule-index l.fn.rules.items
