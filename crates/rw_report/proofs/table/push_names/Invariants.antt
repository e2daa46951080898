use Rattle.std.proofs.Common.{◌≡◌, ◌++◌, string_bytes, codes}
use Rattle.rw_report.specs.Section.{for_each, slot_words}
use Rattle.rw_report.proofs.table.push_names.Given as goal

-- what is there and the names so far
abbrev pub invariant-loop-before : goal.invariant-loop-before
invariant-loop-before l =
    string_bytes l.text ≡ string_bytes l.fn.text ++ for_each (λ slot. codes "," ++ slot_words l.basin slot) l.before
