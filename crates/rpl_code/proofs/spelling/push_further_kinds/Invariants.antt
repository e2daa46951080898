use Rattle.std.proofs.Common.{◌≡◌, ◌++◌, map, drop, string_bytes}
use Rattle.rpl_code.specs.Spelling.{each_after, kind_text}
use Rattle.rpl_code.proofs.spelling.push_further_kinds.Given as goal

-- what is there and the kinds to come
abbrev pub invariant-loop-kind : goal.invariant-loop-kind
invariant-loop-kind l =
    string_bytes l.text ++ each_after 44 (map kind_text (drop l.kind-index l.kinds)) ≡ string_bytes l.fn.text ++ each_after 44 (map kind_text l.kinds)
