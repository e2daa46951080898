use Rattle.basin.proofs.rows.sure.is_mended.Given as goal

abbrev pub ghosts-call_counted : goal.ghosts-call_counted
ghosts-call_counted a = record { name = a.blank.name; parts = a.blank.parts }
