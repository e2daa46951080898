use Rattle.rw_model.specs.Build.{finished}
use Rattle.rw_model_toml.proofs.model.finish.Goals as goal

pub returns-in-Err-clause-read : goal.returns-in-Err-clause-read
returns-in-Err-clause-read c = c.told.ensures (finished c.args.builder) c.in-Err.ensures.answers
