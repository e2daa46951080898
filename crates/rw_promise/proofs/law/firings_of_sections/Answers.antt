use Rattle.rw_promise.proofs.law.firings_of_sections.Goals as goal

pub returns : goal.returns
returns c = λ basin policy extras number given end text is. (
  is.run_text.log,
  is.verified.budgets,
  is.run_text.run,
  is.verified.accepted,
  is.verified.firings,
)
