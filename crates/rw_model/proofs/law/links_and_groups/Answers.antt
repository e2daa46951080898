use Rattle.rw_model.proofs.Grouping.{group_of-alone}
use Rattle.rw_model.proofs.Linked.{group-is-link}
use Rattle.rw_model.proofs.law.links_and_groups.Goals as goal

pub returns-clause-alone : goal.returns-clause-alone
returns-clause-alone c = group_of-alone

pub returns-clause-linked : goal.returns-clause-linked
returns-clause-linked c = group-is-link
