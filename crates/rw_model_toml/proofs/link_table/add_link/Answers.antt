use Rattle.rw_model.proofs.Common.{numbers_of, with_link}
use Rattle.rw_model_toml.specs.Told.{link_told}
use Rattle.rw_model_toml.proofs.link_table.add_link.Goals as goal

pub returns-in-Err : goal.returns-in-Err
unfolding link_told
returns-in-Err c = c.told.ensures (with_link c.args.builder.now (numbers_of c.args.slots.now)) c.in-Err.ensures.answers
