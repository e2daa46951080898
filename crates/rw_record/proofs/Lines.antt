-- How many cells and lines are kept.
use Rattle.rw_record.proofs.Common.{Held, List, arith, false, length, nat_lt, nat_tests, ◌||◌, ◌≡◌, ◌≤◌}
use Rattle.rw_run.specs.declared.trace.TraceEvent.{TraceEvent}

pub few : (noted : List Held) (lines : List TraceEvent) → (nat_lt 6000 (length noted) || nat_lt 6000 (length lines)) ≡ false
    → (length noted ≤ 6000) × (length lines ≤ 6000)
few noted lines none = (grind (arith, nat_tests, none), grind (arith, nat_tests, none))
