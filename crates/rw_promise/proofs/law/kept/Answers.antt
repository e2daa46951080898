use Rattle.rw_promise.proofs.law.kept.Goals as goal

pub returns-clause-words : goal.returns-clause-words
returns-clause-words c = λ call status promise nothing. promise.words nothing

pub returns-clause-counted : goal.returns-clause-counted
returns-clause-counted c = λ call status command promise below asks job reuse. promise.counted below command asks job reuse

pub returns-clause-held : goal.returns-clause-held
returns-clause-held c = λ call status path promise. promise.held path
