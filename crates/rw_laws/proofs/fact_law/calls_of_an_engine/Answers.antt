use Rattle.rw_laws.proofs.fact_law.calls_of_an_engine.Goals as goal

pub returns-clause-counted : goal.returns-clause-counted
returns-clause-counted c = λ basin before after run counts. counts.opened_steps

pub returns-clause-few : goal.returns-clause-few
returns-clause-few c = λ basin before after result counts. (counts.rises, counts.few)

pub returns-clause-before : goal.returns-clause-before
returns-clause-before c = λ basin policy step old new why log runs shows. runs.before log shows

pub returns-clause-passed_again : goal.returns-clause-passed_again
returns-clause-passed_again c = λ basin kept old new why log passes shows. passes.before log shows
