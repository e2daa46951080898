use Rattle.std.proofs.Common.{reverse, sym, subst, ap, ◌∙◌, arith}
use Rattle.rpl_scope.specs.Scope.{IsKept, entries_of, outer_entries}
use Rattle.rpl_scope.proofs.Kept.{Changes, kept_pop, last_first, never_absent, none_left}
use Rattle.rpl_scope.proofs.scope.Scope.pop.Goals as goal

pub returns-in_default : goal.returns-in_default
returns-in_default g c =
    none_left c.self.inside.entries.items c.pop.new.self.items
    (omega (arith, c.self.inside.entries.ok.0, c.in_default.ensures.cases.0)) (omega (arith, c.pop.new.self.ok.0, c.in_default.ensures.cases.1))
    ∙ ap outer_entries c.self.view_is

pub invariant_of-self-in-None : goal.invariant_of-self-in-None
invariant_of-self-in-None g c =
    let first = last_first c.self.inside.entries.items c.pop.new.self.items c.in-Some.entry c.in-Some.ensures.items in
    kept_pop (reverse c.pop.new.self.items) c.self.inside.innermost c.remove.new.self c.in-Some.entry
    (subst (λ es. IsKept es c.self.inside.innermost) first c.self.invariant)
    (subst (Changes c.self.inside.innermost c.remove.new.self c.in-Some.entry.name.now) (sym c.in-None.is) c.remove.ensures.updates)

pub invariant_of-self-in-Ok : goal.invariant_of-self-in-Ok
invariant_of-self-in-Ok g c =
    let first = last_first c.self.inside.entries.items c.pop.new.self.items c.in-Some.entry c.in-Some.ensures.items in
    kept_pop (reverse c.pop.new.self.items) c.self.inside.innermost c.insert.new.self c.in-Some.entry
    (subst (λ es. IsKept es c.self.inside.innermost) first c.self.invariant)
    (subst (Changes c.self.inside.innermost c.insert.new.self c.in-Some.entry.name.now) (sym c.in-Some-outer.is) c.in-Ok.ensures.updates)

pub invariant_of-self-in-Err : goal.invariant_of-self-in-Err
invariant_of-self-in-Err g c =
    let first = last_first c.self.inside.entries.items c.pop.new.self.items c.in-Some.entry c.in-Some.ensures.items in
    absurd (never_absent (reverse c.pop.new.self.items) c.self.inside.innermost c.in-Some.entry
    (subst (λ es. IsKept es c.self.inside.innermost) first c.self.invariant) c.in-Err.ensures.absent)

pub returns-in-None : goal.returns-in-None
returns-in-None g c =
    let first = last_first c.self.inside.entries.items c.pop.new.self.items c.in-Some.entry c.in-Some.ensures.items in
    sym (ap (λ es. outer_entries (entries_of es)) first) ∙ ap outer_entries c.self.view_is

pub returns-in-Ok : goal.returns-in-Ok
returns-in-Ok g c =
    let first = last_first c.self.inside.entries.items c.pop.new.self.items c.in-Some.entry c.in-Some.ensures.items in
    sym (ap (λ es. outer_entries (entries_of es)) first) ∙ ap outer_entries c.self.view_is

pub returns-in-Err : goal.returns-in-Err
returns-in-Err g c =
    let first = last_first c.self.inside.entries.items c.pop.new.self.items c.in-Some.entry c.in-Some.ensures.items in
    sym (ap (λ es. outer_entries (entries_of es)) first) ∙ ap outer_entries c.self.view_is
