use Rattle.rw_base.proofs.Common.{◌-◌, ap, sym, ◌∙◌, arith, option_map, elements}
use Rattle.rw_model.specs.Kept.{place_of}
use Rattle.rw_model.specs.Objects.{Placed, all_slots}
use Rattle.rw_model.proofs.Numbered.{numbered-known}
use Rattle.rw_model.proofs.Numbering.{StandsAt-stored}
use Rattle.rw_model.proofs.objects.Objects.place.Goals as goal

pub returns-clause-place : goal.returns-clause-place
returns-clause-place c = grind (arith, elements)

pub returns-clause-first : goal.returns-clause-first
returns-clause-first c =
    (StandsAt-stored c.args.self.now (c.args.s - 1) c.index.result.now
    (ap (option_map place_of) (sym (numbered-known (all_slots c.args.self.now) c.args.s c.requires.first)) ∙ returns-clause-place c)).first

pub returns-clause-last : goal.returns-clause-last
returns-clause-last c =
    (StandsAt-stored c.args.self.now (c.args.s - 1) c.index.result.now
    (ap (option_map place_of) (sym (numbered-known (all_slots c.args.self.now) c.args.s c.requires.first)) ∙ returns-clause-place c)).last

pub returns-clause-slot : goal.returns-clause-slot
returns-clause-slot c =
    (StandsAt-stored c.args.self.now (c.args.s - 1) c.index.result.now
    (ap (option_map place_of) (sym (numbered-known (all_slots c.args.self.now) c.args.s c.requires.first)) ∙ returns-clause-place c)).slot
    ∙ ap (option_map (λ (placed : Placed). placed.slot)) (sym (numbered-known (all_slots c.args.self.now) c.args.s c.requires.first))
