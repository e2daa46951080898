use Rattle.rw_promise.proofs.law.written.written_sections.Goals as goal

pub returns-clause-simulate : goal.returns-clause-simulate
returns-clause-simulate c = λ call end wrote. (wrote.command, wrote.basin, wrote.inputs, wrote.text, wrote.asked, wrote.read, wrote.is, wrote.grew)

pub returns-clause-run : goal.returns-clause-run
returns-clause-run c = λ call end wrote. (wrote.command, wrote.basin, wrote.policy, wrote.inputs, wrote.edits, wrote.texts, wrote.asked, wrote.rules, wrote.read, wrote.edited, wrote.are, wrote.grew)

pub returns-clause-many : goal.returns-clause-many
returns-clause-many c = λ call logs wrote. (wrote.command, wrote.basin, wrote.policy, wrote.inputs, wrote.scenarios, wrote.asked, wrote.rules, wrote.read, wrote.told, wrote.are, wrote.grew)
