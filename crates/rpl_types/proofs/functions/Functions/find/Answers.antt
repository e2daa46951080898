use Rattle.rw_base.proofs.Common.{sym, ap, slice_get, ◌∙◌}
use Rattle.rpl_types.specs.Functions.{signature_named}
use Rattle.rpl_types.proofs.Placed.{found_in_place, in_place, item_at}
use Rattle.rpl_types.proofs.functions.Functions.find.Goals as goal

pub returns-in-None : goal.returns-in-None
returns-in-None c =
    let place = sym c.in-None.is ∙ c.find.ensures ∙ c.self.invariant c.args.name.now in
    ap (in_place c.self.inside.signatures.items) place ∙ found_in_place c.self.inside.signatures.items c.args.name.now
    ∙ ap (λ all. signature_named all c.args.name.now) c.self.view_is

pub returns-in-Some : goal.returns-in-Some
returns-in-Some c =
    let place = sym c.in-Some.is ∙ c.find.ensures ∙ c.self.invariant c.args.name.now in
    item_at c.self.inside.signatures.items c.in-Some.place c.signature_at.result
    (c.signature_at.ensures ∙ ap (λ all. slice_get all c.in-Some.place) c.as_slice.ensures.value)
    ∙ ap (in_place c.self.inside.signatures.items) place ∙ found_in_place c.self.inside.signatures.items c.args.name.now
    ∙ ap (λ all. signature_named all c.args.name.now) c.self.view_is
