use Rattle.std.proofs.Common.{sym}
use Rattle.rw_model_toml.proofs.Lists.{items-not-two}
use Rattle.rw_model_toml.proofs.rating.row_in.Goals as goal

pub returns-then-pair-ne2 : goal.returns-then-pair-ne2
returns-then-pair-ne2 c = sym (items-not-two c.args.pair.now c.if-pair-ne2.true)
