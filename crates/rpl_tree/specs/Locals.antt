-- The kinds of the locals that a declaration has of its own: of each LET and WITH the kind of its value, of each MAP that of an element,
-- and of each FOR that of an element and that of its accumulator.
use Rattle.std.specs.Prelude.{List, [], ◌∷◌, ◌++◌}
use Rattle.rpl_tree.specs.Value.{Kind, element_of}
use Rattle.rpl_tree.specs.Tree.{Tree, Trees, call, brackets, list, choice, bind, each, mapped, one, two, convert, at, no_trees, tree, Act, Acts, assign, branch, with_name, no_acts, act}
use Rattle.rpl_tree.specs.Kinds.{Head, Names, tree_kind}

module _ (heads : List Head) where
  -- the kinds of a tree's own locals, in the order of the text
  abbrev mutual
    pub local_kinds : Names → Tree → List Kind
    local_kinds names (call f ts) = all_local_kinds names ts
    local_kinds names (brackets t) = local_kinds names t
    local_kinds names (list ts) = all_local_kinds names ts
    local_kinds names (choice c y n) = local_kinds names c ++ (local_kinds names y ++ local_kinds names n)
    local_kinds names (bind x e b) =
        let kind = tree_kind heads names e in
        kind ∷ (local_kinds names e ++ local_kinds ((x, kind) ∷ names) b)
    local_kinds names (each x l a f b) =
        let element = element_of (tree_kind heads names l) in
        let total = tree_kind heads names f in
        element ∷ total ∷ (local_kinds names l ++ (local_kinds names f ++ local_kinds ((a, total) ∷ (x, element) ∷ names) b))
    local_kinds names (mapped x l b) =
        let element = element_of (tree_kind heads names l) in
        element ∷ (local_kinds names l ++ local_kinds ((x, element) ∷ names) b)
    local_kinds names (one word e) = local_kinds names e
    local_kinds names (two word l r) = local_kinds names l ++ local_kinds names r
    local_kinds names (convert word o e) = local_kinds names e
    local_kinds names (at s d) = local_kinds names s ++ local_kinds names d
    local_kinds names _ = []

    pub all_local_kinds : Names → Trees → List Kind
    all_local_kinds names no_trees = []
    all_local_kinds names (tree t ts) = local_kinds names t ++ all_local_kinds names ts

  abbrev mutual
    pub act_local_kinds : Names → Act → List Kind
    act_local_kinds names (assign o s ahead e) = local_kinds names e
    act_local_kinds names (branch c first second) =
        local_kinds names c ++ (acts_local_kinds names first ++ acts_local_kinds names second)
    act_local_kinds names (with_name x e body) =
        let kind = tree_kind heads names e in
        kind ∷ (local_kinds names e ++ acts_local_kinds ((x, kind) ∷ names) body)

    pub acts_local_kinds : Names → Acts → List Kind
    acts_local_kinds names no_acts = []
    acts_local_kinds names (act a rest) = act_local_kinds names a ++ acts_local_kinds names rest
