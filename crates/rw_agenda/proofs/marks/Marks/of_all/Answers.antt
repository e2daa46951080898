use Rattle.rw_base.proofs.Common.{replicate, rules, subst, sym, true, ◌-◌, ◌^◌, ◌≡◌}
use Rattle.rw_agenda.specs.Marks.{AreTurns}
use Rattle.rw_agenda.proofs.Marking.{turns_all}
use Rattle.rw_agenda.proofs.marks.Marks.of_all.Goals as goal

pub invariant_of-result : goal.invariant_of-result
invariant_of-result c =
    let flags : c.in_ok-flags.flags.items ≡ replicate c.args.rules true = search rules in
    let turns : c.in_ok-turns.turns.items ≡ replicate 4 (2 ^ 64 - 1) = search rules in
    subst (λ words. AreTurns c.args.order c.in_ok-flags.flags.items words) (sym turns)
    (subst (λ marks. AreTurns c.args.order marks (replicate 4 (2 ^ 64 - 1))) (sym flags) (turns_all c.args.order c.args.rules c.requires))
