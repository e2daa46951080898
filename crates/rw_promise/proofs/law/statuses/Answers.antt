use Rattle.rw_promise.proofs.StatusLemmas as status
use Rattle.rw_promise.proofs.law.statuses.Goals as goal

pub returns-clause-settled : goal.returns-clause-settled
returns-clause-settled c = status.settled

pub returns-clause-faulted : goal.returns-clause-faulted
returns-clause-faulted c = status.faulted

pub returns-clause-words : goal.returns-clause-words
returns-clause-words c = λ call. status.words call

pub returns-clause-read_fault : goal.returns-clause-read_fault
returns-clause-read_fault c = λ call. status.read_fault call

pub returns-clause-model : goal.returns-clause-model
returns-clause-model c = λ call. status.model call

pub returns-clause-rules : goal.returns-clause-rules
returns-clause-rules c = λ call. status.rules call

pub returns-clause-code : goal.returns-clause-code
returns-clause-code c = λ call. status.code call

pub returns-clause-inputs : goal.returns-clause-inputs
returns-clause-inputs c = λ call. status.inputs call

pub returns-clause-too_long : goal.returns-clause-too_long
returns-clause-too_long c = λ call. status.too_long call

pub returns-clause-sections : goal.returns-clause-sections
returns-clause-sections c = λ call. status.sections call

pub returns-clause-untouched : goal.returns-clause-untouched
returns-clause-untouched c = λ call. status.untouched call

pub returns-clause-write_fault : goal.returns-clause-write_fault
returns-clause-write_fault c = λ call promise. (status.write call promise).1

pub returns-clause-write_front : goal.returns-clause-write_front
returns-clause-write_front c = λ call promise. (status.write call promise).0
