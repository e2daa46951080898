use Rattle.rw_promise.proofs.law.written.written_of_files.Goals as goal

pub returns-clause-check : goal.returns-clause-check
returns-clause-check c = λ call wrote. (wrote.command, wrote.basin, wrote.policy, wrote.asked, wrote.read, wrote.grew)

pub returns-clause-compile : goal.returns-clause-compile
returns-clause-compile c = λ call wrote. (wrote.command, wrote.basin, wrote.rules, wrote.asked, wrote.read, wrote.grew)

pub returns-clause-migrate : goal.returns-clause-migrate
returns-clause-migrate c = λ call wrote. (wrote.command, wrote.basin, wrote.model, wrote.text, wrote.asked, wrote.is, wrote.grew)
