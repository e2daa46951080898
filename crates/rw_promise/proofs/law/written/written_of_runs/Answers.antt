use Rattle.rw_promise.proofs.law.written.written_of_runs.Goals as goal

pub returns-clause-why : goal.returns-clause-why
returns-clause-why c = λ call end wrote. (wrote.command, wrote.basin, wrote.policy, wrote.inputs, wrote.cell, wrote.text, wrote.asked, wrote.rules, wrote.read, wrote.named, wrote.is, wrote.grew)

pub returns-clause-balance : goal.returns-clause-balance
returns-clause-balance c = λ call end wrote. (wrote.command, wrote.basin, wrote.policy, wrote.inputs, wrote.text, wrote.asked, wrote.rules, wrote.read, wrote.is, wrote.grew)

pub returns-clause-sample : goal.returns-clause-sample
returns-clause-sample c = λ call wrote. (wrote.command, wrote.seed, wrote.text, wrote.asked, wrote.job, wrote.is, wrote.grew)
