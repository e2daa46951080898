use Rattle.rw_io.proofs.KnownLemmas.{PrefixGrew-both, PrefixGrew-left}
use Rattle.rw_io.proofs.pieces.write_two.Goals as goal

pub returns-in-Ok-clause-prefix : goal.returns-in-Ok-clause-prefix
returns-in-Ok-clause-prefix g c =
    PrefixGrew-both c.write_all-in-Ok.result _ _ _ c.args.first.now c.args.second.now c.in-Ok.ensures.whole c.write_all-in-Ok.ensures.prefix

pub returns-in-Err-clause-prefix : goal.returns-in-Err-clause-prefix
returns-in-Err-clause-prefix g c = PrefixGrew-left _ _ c.args.first.now c.args.second.now c.in-Err.ensures.prefix
