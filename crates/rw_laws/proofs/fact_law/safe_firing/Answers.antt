use Rattle.rw_laws.proofs.fact_law.safe_firing.Goals as goal

pub returns-clause-fires : goal.returns-clause-fires
returns-clause-fires c = λ code basin rule step values budget safe. (safe.fires, safe.count, safe.cells)

pub returns-clause-looks : goal.returns-clause-looks
returns-clause-looks c = λ code basin rule step values budget safe. safe.looks

pub returns-clause-puts : goal.returns-clause-puts
returns-clause-puts c = λ code basin rule step values budget safe. safe.puts

pub returns-clause-words : goal.returns-clause-words
returns-clause-words c = λ code basin rule step values budget safe. safe.words
