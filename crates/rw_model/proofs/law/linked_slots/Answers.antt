use Rattle.rw_model.proofs.Drafting.{IsLink-judged}
use Rattle.rw_model.proofs.law.linked_slots.Goals as goal

pub returns-clause-link : goal.returns-clause-link
returns-clause-link c objects links slots none = (IsLink-judged objects links slots none).0

pub returns-clause-free : goal.returns-clause-free
returns-clause-free c objects links slots none = (IsLink-judged objects links slots none).1
