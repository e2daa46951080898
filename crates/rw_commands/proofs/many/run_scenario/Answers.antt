use Rattle.rw_commands.proofs.many.run_scenario.Goals as goal

pub returns-clause-run : goal.returns-clause-run
returns-clause-run g c = λ policy means. record {
  edited = c.in_ok-edited.edited;
  values = c.in_ok-edited.ensures.values;
  comes = means.comes c.in_ok-edited.edited c.in_ok-run.run' c.in_ok-run.ensures.run;
}

pub run_all_of-requires-clause-can : goal.run_all_of-requires-clause-can
run_all_of-requires-clause-can g c = record { fits = c.requires.fits; inputs = c.in_ok-edited.ensures.made }
