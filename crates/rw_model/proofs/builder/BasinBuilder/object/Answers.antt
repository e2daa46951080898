use Rattle.std.proofs.Common.{refl}
use Rattle.rw_model.proofs.Drafting.{either_objects}
use Rattle.rw_model.proofs.builder.BasinBuilder.object.Goals as goal

pub invariant_of-self : goal.invariant_of-self
invariant_of-self c =
    either_objects c.add.result (record {
      control = c.self.inside.control;
      objects = c.self.inside.objects;
      links = c.self.inside.links;
      bounds = c.self.inside.bounds;
    })
    (record { name = c.args.name.now; kind = c.args.kind }) c.add.new.self c.self.invariant (c.in_default.ensures.can_add refl) c.add.ensures.ok
    c.add.ensures.err
