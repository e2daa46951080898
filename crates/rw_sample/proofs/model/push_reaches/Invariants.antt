use Rattle.std.proofs.Common.{◌≡◌, ◌++◌, string_bytes}
use Rattle.rw_report.specs.Section.{for_each}
use Rattle.rw_sample.specs.Texts.{reach_words}
use Rattle.rw_sample.proofs.model.push_reaches.Given as goal

abbrev pub invariant-loop-before : goal.invariant-loop-before
invariant-loop-before l = string_bytes l.text ≡ string_bytes l.fn.text ++ for_each reach_words l.before
