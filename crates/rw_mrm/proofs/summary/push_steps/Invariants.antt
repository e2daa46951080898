use Rattle.rw_base.proofs.Common.{◌≡◌, ◌++◌, string_bytes}
use Rattle.rw_report.specs.Section.{for_each}
use Rattle.rw_mrm.specs.Summary.{cell_line, values_in_tally}
use Rattle.rw_mrm.proofs.summary.push_steps.Given as goal

-- what is there and the lines so far
abbrev pub invariant-loop-before : goal.invariant-loop-before
invariant-loop-before l =
    string_bytes l.text ≡ string_bytes l.fn.text
    ++ for_each (λ step. cell_line l.basin l.slot step (values_in_tally l.tally l.slot step)) l.before
