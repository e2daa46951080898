use Rattle.rw_commands.proofs.perform.write_runs.Goals as goal

pub returns-else-extras-clause-counted : goal.returns-else-extras-clause-counted
returns-else-extras-clause-counted g c = λ policy means reuse. absurd cc
