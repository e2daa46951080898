use Rattle.rw_base.proofs.Common.{ap, arith, length, length-map, map, replicate, subst, sym, true, ◌∙◌, ◌≡◌, ◌≤◌}
use Rattle.rw_agenda.specs.Agenda.{KeepsRules, unfired}
use Rattle.rw_agenda.specs.declared.limits.TheConstants.{RULES_MAX}
use Rattle.rw_agenda.proofs.Marking.{kept_fresh, none_unfired}
use Rattle.rw_agenda.proofs.agenda.Agenda.for_rules.Goals as goal

pub invariant_of-result : goal.invariant_of-result
invariant_of-result c =
    let many = length-map c.args.reads.now unfired in
    let few : length (map unfired c.args.reads.now) ≤ RULES_MAX = let least = c.requires.few in omega (arith, many, least) in
    let all : c.in_ok-marks.marks.flags ≡ replicate (length (map unfired c.args.reads.now)) true =
    ap (λ marks. marks.flags) c.in_ok-marks.ensures ∙ ap (λ n. replicate n true) (sym many) in
    subst (λ entries. KeepsRules entries c.in_ok-marks.marks.flags c.in_ok-index.index) (sym c.in_ok-rules.ensures)
    (kept_fresh (map unfired c.args.reads.now) c.in_ok-marks.marks.flags c.in_ok-index.index few all (none_unfired c.args.reads.now))
