use Rattle.rw_model.proofs.BuildFacts.{bound-iff}
use Rattle.rw_model.proofs.Drafting.{either_bounds}
use Rattle.rw_model.proofs.builder.BasinBuilder.give.Goals as goal

pub invariant_of-self : goal.invariant_of-self
invariant_of-self c =
    either_bounds c.add.result (record {
      control = c.self.inside.control;
      objects = c.self.inside.objects;
      links = c.self.inside.links;
      bounds = c.self.inside.bounds;
    })
    c.args.slot c.args.bounds c.add.new.self c.self.invariant
    ((bound-iff c.self.inside.objects c.self.inside.bounds c.args.slot c.args.bounds).0 c.in_default.ensures) c.add.ensures.ok c.add.ensures.err
