use Rattle.rpl_tree.proofs.law.stands_for.Goals as goal
use Rattle.rpl_tree.proofs.Standing.{or_stands}

pub returns-clause-or : goal.returns-clause-or
returns-clause-or c = or_stands
