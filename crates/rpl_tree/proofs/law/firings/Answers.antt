use Rattle.rpl_tree.proofs.law.firings.Goals as goal
use Rattle.rpl_tree.proofs.FramedTrees.{framed, silent}

pub returns-clause-framed : goal.returns-clause-framed
returns-clause-framed c = framed

pub returns-clause-silent : goal.returns-clause-silent
returns-clause-silent c = silent
