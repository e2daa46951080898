use Rattle.rw_method.proofs.Leaving.{left_begins, left_by_others}
use Rattle.rw_method.proofs.LeftKept.{left_by_own}
use Rattle.rw_method.proofs.slot_law.slots_are_left.Goals as goal

pub returns-clause-begins : goal.returns-clause-begins
returns-clause-begins c = left_begins

pub returns-clause-others : goal.returns-clause-others
returns-clause-others c = left_by_others

pub returns-clause-own : goal.returns-clause-own
returns-clause-own c = left_by_own
