use Rattle.rw_commands.proofs.Common.{ap, sym, ◌++◌, ◌∙◌}
use Rattle.rw_inputs.specs.Placings.{placings}
use Rattle.rw_run.specs.Log.{cells_of}
use Rattle.rw_run.specs.RunOf.{last_closed}
use Rattle.rw_report.specs.Section.{heading}
use Rattle.rw_books.specs.Text.{book_lines}
use Rattle.rpl_compile.specs.Translate.{translate}
use Rattle.rpl_policy.specs.Policy.{policy_of_code}
use Rattle.rw_promise.proofs.law.closed_books.Goals as goal

pub returns-clause-code : goal.returns-clause-code
returns-clause-code c = λ basin blocks budgets inputs end text valid is.
    let log = is.run_text.log in (
      cells_of basin log,
      last_closed log,
      is.run_text.text_is ∙ ap (λ e. heading basin 0 e ++ book_lines basin (cells_of basin log) (last_closed log)) (sym is.run_text.end_is),
      c.every_book_of_events.ensures basin (policy_of_code basin blocks) (placings basin inputs) log valid
          (c.code_keeps_promises.ensures basin blocks is.verified.budgets is.verified.accepted) is.run_text.run,
    )

pub returns-clause-rules : goal.returns-clause-rules
returns-clause-rules c = λ basin rules inputs end text valid typed few fewer is.
    let log = is.run_text.log in (
      cells_of basin log,
      last_closed log,
      is.run_text.text_is ∙ ap (λ e. heading basin 0 e ++ book_lines basin (cells_of basin log) (last_closed log)) (sym is.run_text.end_is),
      c.every_book_of_events.ensures basin (policy_of_code basin (translate rules)) (placings basin inputs) log valid
          (c.code_keeps_promises.ensures basin (translate rules) is.verified.budgets is.verified.accepted)
          ((c.rulesets_have_runs.ensures.same basin rules (placings basin inputs) log typed few fewer).0 is.run_text.run),
    )
