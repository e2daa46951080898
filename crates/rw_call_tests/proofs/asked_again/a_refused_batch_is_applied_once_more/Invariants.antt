use Rattle.rw_call_tests.proofs.asked_again.a_refused_batch_is_applied_once_more.Given as goal

abbrev pub ghosts-check : goal.ghosts-check
ghosts-check g a = record { name = a.blank.name; parts = a.blank.parts }
