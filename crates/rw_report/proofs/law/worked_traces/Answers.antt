use Rattle.rw_report.proofs.Worked.{dropped, faulty, objects, raised, same}
use Rattle.rw_report.proofs.law.worked_traces.Goals as goal

pub returns-clause-raised : goal.returns-clause-raised
returns-clause-raised c = same raised

pub returns-clause-dropped : goal.returns-clause-dropped
returns-clause-dropped c = same dropped

pub returns-clause-fault : goal.returns-clause-fault
returns-clause-fault c = same faulty

pub returns-clause-objects : goal.returns-clause-objects
returns-clause-objects c = same objects
