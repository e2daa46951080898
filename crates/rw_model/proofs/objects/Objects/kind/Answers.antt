use Rattle.rw_base.proofs.Common.{◌-◌, ap, subst, sym, ◌∙◌, arith, option_map, elements}
use Rattle.rw_model.specs.Kept.{KeepsSlots}
use Rattle.rw_model.specs.Objects.{Object}
use Rattle.rw_model.proofs.Numbered.{numbered-known}
use Rattle.rw_model.proofs.Numbering.{few-places-at}
use Rattle.rw_model.proofs.objects.Objects.kind.Goals as goal

pub returns-clause-kind : goal.returns-clause-kind
returns-clause-kind c = grind (arith, elements)

pub returns-clause-few_places : goal.returns-clause-few_places
returns-clause-few_places c =
    let kept = subst (λ os. KeepsSlots os c.self.inside.places.items c.self.inside.firsts.items) c.self.view_is c.self.invariant in
    few-places-at c.args.self.now (c.args.o - 1) _ kept.few_places
    (ap (option_map (λ (object : Object). object.kind)) (sym (numbered-known c.args.self.now c.args.o c.requires.first)) ∙ returns-clause-kind c)
