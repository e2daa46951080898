use Rattle.rw_commands.proofs.TellLemmas.{tells_cut, tells_on, tells_last}
use Rattle.rw_commands.proofs.tell.tell_line.Goals as goal

pub returns-then-not-tell_two : goal.returns-then-not-tell_two
returns-then-not-tell_two g c = tells_cut _ _ _ _ c.if-not-tell_two.ensures.told.0 c.if-not-tell_two.ensures.told.1

pub returns : goal.returns
returns g c =
    tells_on _ _ _ _ _ c.tell_two.ensures.later c.if-not-tell_two.ensures.told (tells_last _ _ _ _ c.tell_part.ensures.told)
