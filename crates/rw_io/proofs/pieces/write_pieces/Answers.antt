use Rattle.rw_io.proofs.KnownLemmas.{PrefixGrew-both, PrefixGrew-left}
use Rattle.rw_io.proofs.pieces.write_pieces.Goals as goal

pub returns-in-Ok-clause-prefix : goal.returns-in-Ok-clause-prefix
returns-in-Ok-clause-prefix g c = rw (← c.text.view_is)
    (PrefixGrew-both c.write_two.result _ _ _ c.text.inside.first.now _ c.in-Ok.ensures.whole c.write_two.ensures.prefix)

pub returns-in-Err-clause-prefix : goal.returns-in-Err-clause-prefix
returns-in-Err-clause-prefix g c = rw (← c.text.view_is)
    (PrefixGrew-left _ _ c.text.inside.first.now _ c.in-Err.ensures.prefix)
