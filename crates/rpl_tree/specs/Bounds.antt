-- What is bounded in a ruleset.
use Rattle.std.specs.Prelude.{◌≤◌, ◌+◌, ℕ, List, [], ◌∷◌}
use Rattle.rw_base.specs.declared.limits.TheConstants.{DEPTH_MAX, RULES_MAX, TEXT_MAX}
use Rattle.rpl_tree.specs.Tree.{Declared, rule, function}
use Rattle.rpl_tree.specs.Count.{nodes_of}
use Rattle.rpl_tree.specs.Depth.{declared_depth}

abbrev pub rule_count : List Declared → ℕ
rule_count [] = 0
rule_count (rule called body ∷ ds) = rule_count ds + 1
rule_count (function called params result body ∷ ds) = rule_count ds

abbrev pub function_count : List Declared → ℕ
function_count [] = 0
function_count (rule called body ∷ ds) = function_count ds
function_count (function called params result body ∷ ds) = function_count ds + 1

-- of each it is at most so much
abbrev pub AreWithin : (Declared → ℕ) → ℕ → List Declared → Type 0
AreWithin much most [] = Unit {0}
AreWithin much most (d ∷ ds) = (much d ≤ most) × AreWithin much most ds

pub record AreLimited (ds : List Declared) : Type 0 where
  pub depth : AreWithin declared_depth DEPTH_MAX ds
  pub nodes : AreWithin nodes_of TEXT_MAX ds
  pub rules : rule_count ds ≤ RULES_MAX
  pub functions : function_count ds ≤ RULES_MAX
