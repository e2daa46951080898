use Rattle.rw_base.proofs.Common.{ap, length, length-map, map, replicate, subst, sym, true, ◌∙◌, ◌≡◌, ◌≤◌, arith}
use Rattle.rw_agenda.specs.Agenda.{KeepsRules, forgotten}
use Rattle.rw_agenda.specs.declared.limits.TheConstants.{RULES_MAX}
use Rattle.rw_agenda.proofs.Marking.{kept_fresh, none_forgotten}
use Rattle.rw_agenda.proofs.agenda.Agenda.begin_step.Goals as goal

pub invariant_of-self : goal.invariant_of-self
invariant_of-self c =
    let many = length-map c.self.inside.rules.items forgotten in
    let few : length (map forgotten c.self.inside.rules.items) ≤ RULES_MAX = let least = c.self.invariant.few in omega (arith, many, least) in
    let all : c.set_all.new.self.flags ≡ replicate (length (map forgotten c.self.inside.rules.items)) true =
    ap (λ marks. marks.flags) c.set_all.ensures ∙ ap (λ n. replicate n true) (c.self.invariant.marked ∙ sym many) in
    subst (λ entries. KeepsRules entries c.set_all.new.self.flags c.clear.new.self) (sym c.forget_all.ensures)
    (kept_fresh (map forgotten c.self.inside.rules.items) c.set_all.new.self.flags c.clear.new.self few all
    (none_forgotten c.self.inside.rules.items))
