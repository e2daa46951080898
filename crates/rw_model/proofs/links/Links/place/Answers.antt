use Rattle.rw_base.proofs.Common.{◌≡◌, ◌∙◌, ◌-◌, arith, elements}
use Rattle.rw_model.specs.Links.{link_of}
use Rattle.rw_model.proofs.Linking.{link_of-within}
use Rattle.rw_model.proofs.links.Links.place.Goals as goal

pub returns-in-Some-clause-within : goal.returns-in-Some-clause-within
returns-in-Some-clause-within c x found =
    let at = c.self.invariant (c.args.slot - 1) in
    let same : link_of c.args.self.now c.args.slot ≡ c.in-Some.place.now = grind (arith, elements, at) in
    link_of-within c.args.self.now c.args.slot x (same ∙ found)
