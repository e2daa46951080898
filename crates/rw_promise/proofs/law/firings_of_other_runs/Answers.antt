use Rattle.rw_promise.proofs.law.firings_of_other_runs.Goals as goal

pub returns-clause-why : goal.returns-clause-why
returns-clause-why c = λ basin policy inputs cell end text is.
    (is.run_text.log, is.verified.budgets, is.run_text.run, is.verified.accepted, is.verified.firings)

pub returns-clause-balance : goal.returns-clause-balance
returns-clause-balance c = λ basin policy inputs end text is.
    (is.run_text.log, is.verified.budgets, is.run_text.run, is.verified.accepted, is.verified.firings)

pub returns-clause-sample : goal.returns-clause-sample
returns-clause-sample c = λ basin policy inputs seed text is.
    (is.log, is.verified.budgets, is.run, is.verified.accepted, is.verified.firings)

pub returns-clause-scenario : goal.returns-clause-scenario
returns-clause-scenario c = λ basin policy inputs batch log is. (is.verified.budgets, is.verified.accepted, is.verified.firings)
