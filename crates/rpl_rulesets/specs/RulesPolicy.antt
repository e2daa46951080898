-- The policy of a run, as a ruleset gives it.
use Rattle.std.specs.Prelude.{List}
use Rattle.rw_model.specs.Draft.{Draft}
use Rattle.rpl_tree.specs.Mean.{mean}
use Rattle.rpl_tree.specs.Tree.{Declared}
use Rattle.rpl_tree.specs.Bounds.{rule_count}
use Rattle.rw_run.specs.Next.{Policy}

-- each rule does what it means
abbrev pub policy_of_rules : Draft → List Declared → Policy
policy_of_rules basin rules = record { rules = rule_count rules; fire = mean rules basin }
