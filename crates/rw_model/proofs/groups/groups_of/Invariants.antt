use Rattle.rw_model.specs.Kept.{links_of, KeepsGroups}
use Rattle.rw_model.proofs.groups.groups_of.Given as goal

abbrev pub invariant-loop-before : goal.invariant-loop-before
invariant-loop-before l = KeepsGroups l.links l.before (links_of l.groups.items)
