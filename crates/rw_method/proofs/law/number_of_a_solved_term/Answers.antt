use Rattle.rw_method.proofs.SolvedTerm as laws
use Rattle.rw_method.proofs.law.number_of_a_solved_term.Goals as goal

pub returns : goal.returns
returns c = laws.number_of_solved
