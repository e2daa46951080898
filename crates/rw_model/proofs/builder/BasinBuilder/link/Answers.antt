use Rattle.rw_model.specs.Kept.{numbers_of}
use Rattle.rw_model.proofs.Drafting.{either_links}
use Rattle.rw_model.proofs.builder.BasinBuilder.link.Goals as goal

pub invariant_of-self : goal.invariant_of-self
invariant_of-self c =
    either_links c.add.result (record {
      control = c.self.inside.control;
      objects = c.self.inside.objects;
      links = c.self.inside.links;
      bounds = c.self.inside.bounds;
    })
    (numbers_of c.args.slots.now) c.add.new.self c.self.invariant c.in_default.ensures.fault c.add.ensures.ok c.add.ensures.err
