-- The most words that one firing of a rule keeps at a time, by its tree: its locals, the operands that wait, and for each open loop
-- what it still has to go through.
use Rattle.std.specs.Prelude.{ℕ, ◌+◌, ◌*◌, max, List, [], ◌∷◌}
use Rattle.rpl_tree.specs.declared.words.TwoWord.{TwoWord}
use Rattle.rpl_tree.specs.declared.words.TwoWord.TheVariants.{Or, And}
use Rattle.rpl_tree.specs.Value.{Kind, room_of, element_of, weight, weights}
use Rattle.rpl_tree.specs.Tree.{Tree, Trees, name, call, brackets, list, choice, bind, each, mapped, one, two, convert, at, no_trees, tree, Act, Acts, assign, branch, with_name, no_acts, act, Declared, rule, function}
use Rattle.rpl_tree.specs.Kinds.{Names, kind_named, kind_of_type, count_of, takes_named, tree_kind}
use Rattle.rpl_tree.specs.Locals.{acts_local_kinds, local_kinds}
use Rattle.rpl_tree.specs.Mean.{param_kinds}
use Rattle.rpl_tree.specs.Cost.{Costed, costed_heads, most_named, param_names, predefined_costs}

-- a second value is made while the first one waits, but OR and AND have let go of it
abbrev pub two_words : TwoWord → Kind → ℕ → ℕ → ℕ
two_words Or kind l r = max l r
two_words And kind l r = max l r
two_words _ kind l r = max l (weight kind + r)

module _ (functions : List Costed) where
  abbrev pub kind_among : Names → Tree → Kind
  kind_among names t = tree_kind (costed_heads functions) names t

  -- how high the operands and loops of a tree come to stand, above those that wait before it
  abbrev mutual
    pub height : Names → Tree → ℕ
    height names (name x) = weight (kind_named names x)
    height names (call f ts) =
        max (height_of_arguments names (takes_named (costed_heads functions) f) ts)
        (max (weights (takes_named (costed_heads functions) f) + most_named functions f) (weight (kind_among names (call f ts))))
    height names (brackets t) = height names t
    height names (list ts) = max (height_of_all names ts) (count_of ts + 1)
    height names (choice c y n) =
        max (height names c) (max (max (height names y) (height names n)) (weight (kind_among names (choice c y n))))
    height names (bind x e b) = max (height names e) (height ((x, kind_among names e) ∷ names) b)
    height names (each x l a f b) =
        let all = kind_among names l in
        let total = kind_among names f in
        max (height names l) (max (weight all + height names f)
        (room_of all + 3 + max (height ((a, total) ∷ (x, element_of all) ∷ names) b) (weight total)))
    height names (mapped x l b) =
        let all = kind_among names l in
        max (height names l) (2 * room_of all + 4 + height ((x, element_of all) ∷ names) b)
    height names (one word e) = height names e
    height names (two word l r) = two_words word (kind_among names l) (height names l) (height names r)
    height names (convert word o e) = height names e
    height names (at s d) = max (height names s) (1 + height names d)
    height names _ = 1

    pub height_of_all : Names → Trees → ℕ
    height_of_all names no_trees = 0
    height_of_all names (tree t ts) = max (height names t) (1 + height_of_all names ts)

    pub height_of_arguments : Names → List Kind → Trees → ℕ
    height_of_arguments names (kind ∷ kinds) (tree t ts) =
        max (max (height names t) (weight kind)) (weight kind + height_of_arguments names kinds ts)
    height_of_arguments names _ _ = 0

  abbrev mutual
    pub height_of_act : Names → Act → ℕ
    height_of_act names (assign o s ahead e) = height names e
    height_of_act names (branch c first second) =
        max (height names c) (max (height_of_acts names first) (height_of_acts names second))
    height_of_act names (with_name x e body) = max (height names e) (height_of_acts ((x, kind_among names e) ∷ names) body)

    pub height_of_acts : Names → Acts → ℕ
    height_of_acts names no_acts = 0
    height_of_acts names (act a rest) = max (height_of_act names a) (height_of_acts names rest)

-- of each declaration, in order, where these functions may be called
abbrev pub words_from : List Costed → List Declared → List ℕ
words_from functions [] = []
words_from functions (rule called_so body ∷ rest) =
    (weights (acts_local_kinds (costed_heads functions) [] body) + height_of_acts functions [] body) ∷ words_from functions rest
words_from functions (function called_so params result body ∷ rest) =
    let takes = param_kinds params in
    let kind = kind_of_type result in
    let names = param_names params in
    let inside = weights takes + (weights (local_kinds (costed_heads functions) names body) + max (height functions names body) (weight kind)) in
    let known : Costed = record { head = record { name = called_so; takes = takes; result = kind }; most = inside } in
    inside ∷ words_from (known ∷ functions) rest

abbrev pub words_of_rules : List Declared → List ℕ
words_of_rules rules = words_from (predefined_costs 0) rules
