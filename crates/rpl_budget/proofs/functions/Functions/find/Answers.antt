use Rattle.rw_base.proofs.Common.{ap, reverse, reverse-reverse, slice_get, sym, ◌∙◌}
use Rattle.rpl_scope.specs.Scope.{first_named}
use Rattle.rpl_budget.specs.Pass.{priced_named}
use Rattle.rpl_budget.specs.Seen.{priced_or_none}
use Rattle.rpl_budget.proofs.Found.{at_place, function_found}
use Rattle.rpl_budget.proofs.functions.Functions.find.Goals as goal

pub returns-in-None : goal.returns-in-None
returns-in-None c =
    let all = reverse c.self.inside.known.items in
    let place = sym c.in-None.is ∙ c.find.ensures ∙ ap (λ places. first_named places c.args.name.now) c.self.invariant in
    ap (λ found. priced_or_none (at_place all found)) place ∙ function_found all c.args.name.now
    ∙ ap (λ functions. priced_named functions c.args.name.now) c.self.view_is

pub returns-in-Some : goal.returns-in-Some
returns-in-Some c =
    let all = reverse c.self.inside.known.items in
    let place = sym c.in-Some.is ∙ c.find.ensures ∙ ap (λ places. first_named places c.args.name.now) c.self.invariant in
    ap priced_or_none
    (c.function_at.ensures ∙ ap (λ items. slice_get items c.in-Some.place) c.as_slice.ensures.value
    ∙ ap (λ items. slice_get items c.in-Some.place) (sym (reverse-reverse c.self.inside.known.items)))
    ∙ ap (λ found. priced_or_none (at_place all found)) place ∙ function_found all c.args.name.now
    ∙ ap (λ functions. priced_named functions c.args.name.now) c.self.view_is
