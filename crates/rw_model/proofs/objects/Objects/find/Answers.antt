use Rattle.rw_base.proofs.Common.{◌+◌, ◌∙◌, ap, sym, option_map}
use Rattle.rw_model.proofs.EntryFacts.{object_named-entries}
use Rattle.rw_model.proofs.objects.Objects.find.Goals as goal

pub returns-in-Some-clause-number : goal.returns-in-Some-clause-number
returns-in-Some-clause-number c = rw (← c.self.view_is)
    (ap (option_map (λ n. n + 1)) (sym c.in-Some.is ∙ c.get_index_of.ensures.index)
    ∙ object_named-entries c.args.name.now c.self.inside.kinds.entries)

pub returns-in-None-clause-number : goal.returns-in-None-clause-number
returns-in-None-clause-number c = rw (← c.self.view_is)
    (ap (option_map (λ n. n + 1)) (sym c.in-None.is ∙ c.get_index_of.ensures.index)
    ∙ object_named-entries c.args.name.now c.self.inside.kinds.entries)
