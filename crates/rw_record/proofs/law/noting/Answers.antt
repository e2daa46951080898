use Rattle.rw_record.proofs.Noting.{among, joined, members, once}
use Rattle.rw_record.proofs.law.noting.Goals as goal

pub returns-clause-members : goal.returns-clause-members
returns-clause-members c = members

pub returns-clause-cells : goal.returns-clause-cells
returns-clause-cells c = among

pub returns-clause-once : goal.returns-clause-once
returns-clause-once c = once

pub returns-clause-joined : goal.returns-clause-joined
returns-clause-joined c = joined
