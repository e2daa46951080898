-- How deep trees are: a leaf has depth 1, and a node is one deeper than its deepest child.
use Rattle.std.specs.Prelude.{◌+◌, ℕ, max}
use Rattle.rpl_tree.specs.Tree.{Tree, Trees, literal, truth, now, slot, name, call, brackets, list, choice, bind, each, mapped, one, two, convert, at, no_trees, tree, Act, Acts, assign, branch, with_name, no_acts, act, Declared, rule, function}

abbrev mutual
  pub depth : Tree → ℕ
  depth (literal z u) = 1
  depth (truth b) = 1
  depth now = 1
  depth (slot o s) = 1
  depth (name x) = 1
  depth (call f ts) = depths ts + 1
  depth (brackets t) = depth t + 1
  depth (list ts) = depths ts + 1
  depth (choice c y n) = max (max (depth c) (depth y)) (depth n) + 1
  depth (bind x e b) = max (depth e) (depth b) + 1
  depth (each x l a f b) = max (max (depth l) (depth f)) (depth b) + 1
  depth (mapped x l b) = max (depth l) (depth b) + 1
  depth (one w t) = depth t + 1
  depth (two w l r) = max (depth l) (depth r) + 1
  depth (convert w o t) = depth t + 1
  depth (at s d) = max (depth s) (depth d) + 1

  pub depths : Trees → ℕ
  depths no_trees = 0
  depths (tree t ts) = max (depth t) (depths ts)

abbrev mutual
  pub act_depth : Act → ℕ
  act_depth (assign o s ahead e) = depth e + 1
  act_depth (branch c first second) = max (max (depth c) (acts_depth first)) (acts_depth second) + 1
  act_depth (with_name x e body) = max (depth e) (acts_depth body) + 1

  pub acts_depth : Acts → ℕ
  acts_depth no_acts = 0
  acts_depth (act a more) = max (act_depth a) (acts_depth more)

-- a rule or a function is no node
abbrev pub declared_depth : Declared → ℕ
declared_depth (rule called_so body) = acts_depth body
declared_depth (function called_so params result body) = depth body
