use Rattle.rw_laws.proofs.fact_law.kept_laws.Goals as goal

pub returns-clause-links : goal.returns-clause-links
returns-clause-links c = λ basin policy log run laws. laws.links

pub returns-clause-priority : goal.returns-clause-priority
returns-clause-priority c = λ basin policy log run laws. laws.priority

pub returns-clause-rules : goal.returns-clause-rules
returns-clause-rules c = λ basin policy log run step laws first last.
    let kept = laws.steps step first last in (kept.before, kept.is, kept.rules, kept.stays)

pub returns-clause-balance : goal.returns-clause-balance
returns-clause-balance c = λ basin policy log run step laws first last. (laws.steps step first last).balance
