use Rattle.rw_model.specs.Build.{with_object}
use Rattle.rw_model_toml.specs.Told.{object_told}
use Rattle.rw_model_toml.proofs.object_table.add_object.Goals as goal

pub returns-in-Err : goal.returns-in-Err
unfolding object_told
returns-in-Err c = c.told.ensures (with_object c.args.builder.now (record { name = c.args.name.now; kind = c.args.kind })) c.in-Err.ensures.answers
