use Rattle.std.proofs.Common.{◌≡◌, ◌++◌, string_bytes}
use Rattle.rw_report.specs.Section.{for_each}
use Rattle.rw_sample.specs.Texts.{inflow_words, seeded_number}
use Rattle.rw_sample.proofs.inputs.push_inflows.Given as goal

-- the rows so far, and the number of the last one
abbrev pub invariant-loop-before : goal.invariant-loop-before
invariant-loop-before l = record {
  rows : string_bytes l.text ≡ string_bytes l.fn.text ++ for_each (inflow_words l.seed) l.before;
  last : l.number ≡ seeded_number l.seed l.before;
}
