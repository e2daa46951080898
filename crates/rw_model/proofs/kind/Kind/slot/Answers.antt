use Rattle.rw_model.proofs.kind.Kind.slot.Goals as goal

-- the slots of a reach don't depend on its history
pub returns-in-Reach : goal.returns-in-Reach
returns-in-Reach c = rw c.in-Reach.is c.of_reach.ensures
