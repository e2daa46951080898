use Rattle.rw_base.proofs.Common.{ap, length, replicate, rules, subst, sym, true, ◌-◌, ◌^◌, ◌∙◌, ◌≡◌}
use Rattle.rw_agenda.specs.Marks.{AreTurns}
use Rattle.rw_agenda.proofs.Marking.{turns_all}
use Rattle.rw_agenda.proofs.marks.Marks.set_all.Goals as goal

pub invariant_of-self : goal.invariant_of-self
invariant_of-self c =
    let flags : c.fill.new.self.items ≡ replicate (length c.self.inside.flags.items) true = search rules in
    let all : c.fill-2.new.self.items ≡ replicate (length c.self.inside.turns.items) (2 ^ 64 - 1) = search rules in
    let turns : c.fill-2.new.self.items ≡ replicate 4 (2 ^ 64 - 1) = all ∙ ap (λ n. replicate n (2 ^ 64 - 1)) c.self.invariant.many in
    subst (λ words. AreTurns c.self.inside.order c.fill.new.self.items words) (sym turns)
    (subst (λ marks. AreTurns c.self.inside.order marks (replicate 4 (2 ^ 64 - 1))) (sym flags)
    (turns_all c.self.inside.order (length c.self.inside.flags.items) c.self.invariant.few))
