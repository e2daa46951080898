use Rattle.std.proofs.Common.{codes, arith, rules}
use Rattle.rw_model_toml.proofs.Forms.{fits-at}
use Rattle.rw_model_toml.proofs.start_text.start_in.Goals as goal

pub two_digits-requires-5-clause-tens : goal.two_digits-requires-5-clause-tens
two_digits-requires-5-clause-tens c = fits-at (codes "YYYY-MM-DDTHH:00") c.as_bytes-bytes.result.now 11 (search rules) (omega arith)

pub two_digits-requires-5-clause-ones : goal.two_digits-requires-5-clause-ones
two_digits-requires-5-clause-ones c = fits-at (codes "YYYY-MM-DDTHH:00") c.as_bytes-bytes.result.now 12 (search rules) (omega arith)
