use Rattle.basin.proofs.rows.statuses.call.Given as goal

abbrev pub ghosts-call_counted : goal.ghosts-call_counted
ghosts-call_counted g a = record { name = a.blank.name; parts = a.blank.parts }
