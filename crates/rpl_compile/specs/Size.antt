-- How many lines the code of an expression or statement takes, by the kinds of the names that it uses.
use Rattle.std.specs.Prelude.{ℕ, ◌+◌, List, ◌∷◌}
use Rattle.rpl_tree.specs.Value.{Kind, element_of}
use Rattle.rpl_tree.specs.Tree.{Tree, Trees, call, brackets, list, choice, bind, each, mapped, one, two, convert, at, no_trees, tree, Act, Acts, assign, branch, with_name, no_acts, act}
use Rattle.rpl_tree.specs.Kinds.{Head, Names, takes_named, tree_kind}
use Rattle.rpl_compile.specs.Operations.{choice_size, one_size, two_size, widening_size}

module _ (heads : List Head) where
  abbrev mutual
    pub size : Names → Tree → ℕ
    size names (call f ts) = sizes_of_arguments names (takes_named heads f) ts + 1
    size names (brackets t) = size names t
    size names (list ts) = sizes names ts + 1
    size names (choice c y n) =
        let kind = tree_kind heads names (choice c y n) in
        choice_size (size names c)
        (size names y + widening_size kind (tree_kind heads names y))
        (size names n + widening_size kind (tree_kind heads names n))
    size names (bind x e b) = size names e + (1 + size ((x, tree_kind heads names e) ∷ names) b)
    size names (each x l a f b) =
        let total = tree_kind heads names f in
        let inside : Names = (a, total) ∷ (x, element_of (tree_kind heads names l)) ∷ names in
        size names l + (size names f + (2 + (size inside b + (widening_size total (tree_kind heads inside b) + 3))))
    size names (mapped x l b) =
        size names l + (1 + (size ((x, element_of (tree_kind heads names l)) ∷ names) b + 1))
    size names (one word e) = one_size word (size names e)
    size names (two word l r) = two_size word (size names l) (size names r)
    size names (convert word o e) = size names e + 1
    size names (at s d) = size names s + (size names d + 1)
    size names _ = 1

    pub sizes : Names → Trees → ℕ
    sizes names no_trees = 0
    sizes names (tree t ts) = size names t + sizes names ts

    -- with the room of the parameters
    pub sizes_of_arguments : Names → List Kind → Trees → ℕ
    sizes_of_arguments names (kind ∷ kinds) (tree t ts) =
        size names t + (widening_size kind (tree_kind heads names t) + sizes_of_arguments names kinds ts)
    sizes_of_arguments names _ _ = 0

  abbrev mutual
    pub size_of_act : Names → Act → ℕ
    size_of_act names (assign o s ahead e) = size names e + 1
    size_of_act names (branch c first second) =
        choice_size (size names c) (size_of_acts names first) (size_of_acts names second)
    size_of_act names (with_name x e body) =
        size names e + (1 + size_of_acts ((x, tree_kind heads names e) ∷ names) body)

    pub size_of_acts : Names → Acts → ℕ
    size_of_acts names no_acts = 0
    size_of_acts names (act a rest) = size_of_act names a + size_of_acts names rest
