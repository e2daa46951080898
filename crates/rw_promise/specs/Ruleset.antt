-- The ruleset that the sample's rules spell.
use Rattle.std.specs.Prelude.{ℕ, zero, suc, List, [], ◌∷◌, ◌++◌, Some, pos, codes}
use Rattle.std.specs.Fmt.{decimal}
use Rattle.rpl_tree.specs.Tree.{Declared, rule, assign, act, no_acts, call, tree, no_trees, at, slot, now, literal}

-- a reservoir lets out what flows in, and 500 m3 in a timestep at most
abbrev pub release_rule : List ℕ → Declared
release_rule name = rule name (act (assign name (codes "Outflow") (pos 0) (call (codes "Min")
    (tree (at (slot name (codes "Inflow")) now) (tree (literal (pos 500) (Some (codes "m3/step"))) no_trees)))) no_acts)

-- one for each of so many reservoirs
abbrev pub release_rules : ℕ → List Declared
release_rules zero = []
release_rules (suc before) = release_rules before ++ release_rule (codes "D" ++ decimal (suc before)) ∷ []

unfoldable pub sample_ruleset : List Declared
sample_ruleset = release_rules 20
