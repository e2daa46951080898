use Rattle.rw_base.proofs.Common.{◌≡◌, ◌∙◌, ap, nat_eq, option_copied, lookup}
use Rattle.rw_model.specs.Draft.{bound_of}
use Rattle.rw_model.proofs.EntryFacts.{bound_of-entries}
use Rattle.rw_model.proofs.own_bounds.OwnBounds.get.Goals as goal

pub returns : goal.returns
returns c =
    let found : option_copied c.get.result ≡ lookup (λ k. nat_eq c.args.slot k) c.self.inside.bounds.entries = c.get.ensures.value in
    c.copied.ensures ∙ found ∙ bound_of-entries c.args.slot c.self.inside.bounds.entries ∙ ap (λ bs. bound_of bs c.args.slot) c.self.view_is
