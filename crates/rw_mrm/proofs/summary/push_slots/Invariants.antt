use Rattle.rw_base.proofs.Common.{◌≡◌, ◌++◌, string_bytes}
use Rattle.rw_mrm.specs.Summary.{cell_lines, values_in_tally}
use Rattle.rw_mrm.proofs.summary.push_slots.Given as goal

-- what is there and the lines so far
abbrev pub invariant-loop-before : goal.invariant-loop-before
invariant-loop-before l =
    string_bytes l.text ≡ string_bytes l.fn.text ++ cell_lines l.basin l.before l.tally.steps (values_in_tally l.tally)
