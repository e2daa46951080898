use Rattle.std.proofs.Common.{◌≡◌, ◌++◌, string_bytes}
use Rattle.rw_report.specs.Section.{for_each}
use Rattle.rw_sample.specs.Texts.{rule_words}
use Rattle.rw_sample.proofs.rules.push_rules.Given as goal

abbrev pub invariant-loop-before : goal.invariant-loop-before
invariant-loop-before l = string_bytes l.text ≡ string_bytes l.fn.text ++ for_each rule_words l.before
