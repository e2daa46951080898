use Rattle.rw_call_tests.proofs.runs.runs_and_records_are_those_worked_out.Given as goal

abbrev pub ghosts-check : goal.ghosts-check
ghosts-check g a = record { name = a.blank.name; parts = a.blank.parts }
