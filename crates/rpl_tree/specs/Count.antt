-- How many nodes a tree has, and how many locals of its own.
use Rattle.std.specs.Prelude.{ℕ, suc, ◌+◌}
use Rattle.rpl_tree.specs.Tree.{Tree, Trees, call, brackets, list, choice, bind, each, mapped, one, two, convert, at, no_trees, tree, Act, Acts, assign, branch, with_name, no_acts, act, Declared, rule, function}

-- ---- nodes: each expression, also a pair of brackets, and each statement

abbrev mutual
  pub node_count : Tree → ℕ
  node_count (call f ts) = suc (node_counts ts)
  node_count (brackets t) = suc (node_count t)
  node_count (list ts) = suc (node_counts ts)
  node_count (choice c y n) = suc (node_count c + (node_count y + node_count n))
  node_count (bind x e b) = suc (node_count e + node_count b)
  node_count (each x l a f b) = suc (node_count l + (node_count f + node_count b))
  node_count (mapped x l b) = suc (node_count l + node_count b)
  node_count (one word e) = suc (node_count e)
  node_count (two word l r) = suc (node_count l + node_count r)
  node_count (convert word o e) = suc (node_count e)
  node_count (at s d) = suc (node_count s + node_count d)
  node_count _ = 1

  pub node_counts : Trees → ℕ
  node_counts no_trees = 0
  node_counts (tree t ts) = node_count t + node_counts ts

abbrev mutual
  pub act_nodes : Act → ℕ
  act_nodes (assign o s ahead e) = suc (node_count e)
  act_nodes (branch c first second) = suc (node_count c + (acts_nodes first + acts_nodes second))
  act_nodes (with_name x e body) = suc (node_count e + acts_nodes body)

  pub acts_nodes : Acts → ℕ
  acts_nodes no_acts = 0
  acts_nodes (act a rest) = act_nodes a + acts_nodes rest

-- those of a declaration, which is no node itself
abbrev pub nodes_of : Declared → ℕ
nodes_of (rule called_so body) = acts_nodes body
nodes_of (function called_so params result body) = node_count body

-- ---- locals: one for each LET, WITH and MAP, and two for each FOR

abbrev mutual
  pub local_count : Tree → ℕ
  local_count (call f ts) = local_counts ts
  local_count (brackets t) = local_count t
  local_count (list ts) = local_counts ts
  local_count (choice c y n) = local_count c + (local_count y + local_count n)
  local_count (bind x e b) = 1 + (local_count e + local_count b)
  local_count (each x l a f b) = 2 + (local_count l + (local_count f + local_count b))
  local_count (mapped x l b) = 1 + (local_count l + local_count b)
  local_count (one word e) = local_count e
  local_count (two word l r) = local_count l + local_count r
  local_count (convert word o e) = local_count e
  local_count (at s d) = local_count s + local_count d
  local_count _ = 0

  pub local_counts : Trees → ℕ
  local_counts no_trees = 0
  local_counts (tree t ts) = local_count t + local_counts ts

abbrev mutual
  pub act_locals : Act → ℕ
  act_locals (assign o s ahead e) = local_count e
  act_locals (branch c first second) = local_count c + (acts_locals first + acts_locals second)
  act_locals (with_name x e body) = 1 + (local_count e + acts_locals body)

  pub acts_locals : Acts → ℕ
  acts_locals no_acts = 0
  acts_locals (act a rest) = act_locals a + acts_locals rest

-- those of a declaration, beside its parameters
abbrev pub declared_locals : Declared → ℕ
declared_locals (rule called_so body) = acts_locals body
declared_locals (function called_so params result body) = local_count body
