use Rattle.rw_model.specs.Links.{own_bounds, linked_with}
use Rattle.rw_model.proofs.Linked.{meet_all-each}
use Rattle.rw_model.proofs.law.bounds_of_a_group.Goals as goal

pub returns : goal.returns
returns c objects links own slot value = meet_all-each objects own (own_bounds objects own slot) (linked_with links slot) value
