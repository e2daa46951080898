use Rattle.rw_commands.proofs.TellLemmas.{tells_cut, tells_on}
use Rattle.rw_commands.proofs.tell.tell_wrong.Goals as goal

pub returns-then-tell_two : goal.returns-then-tell_two
returns-then-tell_two g c = tells_on _ _ _ _ _ c.tell_two.ensures.later c.if-tell_two.ensures.told c.tell_line.ensures

pub returns-else-tell_two : goal.returns-else-tell_two
returns-else-tell_two g c = tells_cut _ _ _ _ c.if-tell_two.ensures.told.0 c.if-tell_two.ensures.told.1
