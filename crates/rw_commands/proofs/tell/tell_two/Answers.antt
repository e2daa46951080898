use Rattle.rw_io.proofs.KnownLemmas.{PrefixGrew-left}
use Rattle.rw_commands.proofs.TellLemmas.{told_then}
use Rattle.rw_commands.proofs.tell.tell_two.Goals as goal

pub returns-then-tell_part-clause-told : goal.returns-then-tell_part-clause-told
returns-then-tell_part-clause-told g c =
    told_then _ _ _ _ _ c.tell_part-then-tell_part.result c.tell_part.ensures.later c.if-tell_part.ensures.told
    c.tell_part-then-tell_part.ensures.told

pub returns-else-tell_part-clause-told : goal.returns-else-tell_part-clause-told
returns-else-tell_part-clause-told g c = (PrefixGrew-left _ _ _ _ c.if-tell_part.ensures.told.0, c.if-tell_part.ensures.told.1)
