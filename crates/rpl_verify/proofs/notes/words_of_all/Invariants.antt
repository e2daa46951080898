use Rattle.std.proofs.Common.{◌≡◌, ◌+◌, ◌≤◌, drop}
use Rattle.rpl_tree.specs.Budget.{capped, limits}
use Rattle.rpl_verify.specs.Kinds.{words_of_all}
use Rattle.rpl_verify.proofs.notes.words_of_all.Given as goal

-- the words so far and those of what is left are those of all
abbrev pub invariant-loop-kind : goal.invariant-loop-kind
invariant-loop-kind l =
    (capped limits.words (l.sum + words_of_all (drop l.kind-index l.kinds)) ≡ capped limits.words (words_of_all l.kinds)) × (l.sum ≤ limits.words + 1)
